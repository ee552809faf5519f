-- The spans so far and those of the rest are those of all.
use Rattle.std.proofs.Common.{◌≡◌, ◌++◌, drop, flat_map}
use Rattle.sr_order.specs.Spans.{component_statements}
use Rattle.sr_fmt.proofs.starts.note_file.Given as goal

abbrev pub invariant-loop-component : goal.invariant-loop-component
invariant-loop-component l =
    l.starts ++ flat_map component_statements (drop l.component-index l.component-items)
    ≡ l.fn.starts ++ flat_map component_statements l.component-items
