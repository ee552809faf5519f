-- The procs so far and those of the rest are those of all.
use Rattle.std.proofs.Common.{◌≡◌, drop}
use Rattle.sr_check.specs.Components.{items_procs}
use Rattle.sr_check.proofs.components.enter_items.Given as goal

abbrev pub invariant-loop-item : goal.invariant-loop-item
invariant-loop-item l = items_procs l.facts (drop l.item-index l.items) l.procs ≡ items_procs l.facts l.items l.fn.procs
