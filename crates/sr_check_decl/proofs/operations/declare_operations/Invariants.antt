-- What is declared so far and what the rest declares are what all declare.
use Rattle.std.proofs.Common.{◌≡◌, drop}
use Rattle.sr_check_decl.specs.Declaring.{ops_declared}
use Rattle.sr_check_decl.proofs.operations.declare_operations.Given as goal

abbrev pub invariant-loop-item : goal.invariant-loop-item
invariant-loop-item l = ops_declared l.is_local (drop l.item-index l.items) l.facts ≡ ops_declared l.is_local l.items l.fn.facts
