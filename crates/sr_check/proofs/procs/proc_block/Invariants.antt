-- What is declared and what was noted so far, and what the rest adds, are what all add.
use Rattle.std.proofs.Common.{◌≡◌, drop}
use Rattle.sr_names.specs.Diagnostics.{all_noted}
use Rattle.sr_check.specs.Contexts.{context_of}
use Rattle.sr_check.specs.Components.{block_read}
use Rattle.sr_check.proofs.procs.proc_block.Given as goal

abbrev pub invariant-loop-item : goal.invariant-loop-item
invariant-loop-item l = record {
  known : (block_read (drop l.item-index l.items) (context_of l.enclosing l.facts)).facts ≡ (block_read l.items (context_of l.enclosing l.fn.facts)).facts;
  noted : all_noted l.diagnostics (block_read (drop l.item-index l.items) (context_of l.enclosing l.facts)).found ≡ all_noted l.fn.diagnostics (block_read l.items (context_of l.enclosing l.fn.facts)).found;
}
