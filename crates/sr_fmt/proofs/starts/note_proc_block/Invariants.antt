-- The spans so far and those of the rest are those of all.
use Rattle.std.proofs.Common.{◌≡◌, ◌++◌, drop}
use Rattle.sr_order.specs.Spans.{block_statements}
use Rattle.sr_fmt.proofs.starts.note_proc_block.Given as goal

abbrev pub invariant-loop-item : goal.invariant-loop-item
invariant-loop-item l = l.starts ++ block_statements (drop l.item-index l.block) ≡ l.fn.starts ++ block_statements l.block
