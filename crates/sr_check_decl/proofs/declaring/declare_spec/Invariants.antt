-- What is declared so far and what the rest declares are what all declare.
use Rattle.std.proofs.Common.{◌≡◌, drop}
use Rattle.sr_check_decl.specs.Declaring.{spec_items_declared}
use Rattle.sr_check_decl.proofs.declaring.declare_spec.Given as goal

abbrev pub invariant-loop-item : goal.invariant-loop-item
invariant-loop-item l = spec_items_declared (drop l.item-index l.items) l.tally ≡ spec_items_declared l.items l.fn.tally
