-- What is declared so far and what the rest declares are what all declare.
use Rattle.std.proofs.Common.{◌≡◌, drop}
use Rattle.sr_check_decl.specs.Declaring.{components_declared}
use Rattle.sr_check_decl.proofs.declaring.declare_components.Given as goal

abbrev pub invariant-loop-component : goal.invariant-loop-component
invariant-loop-component l = components_declared (drop l.component-index l.components) l.tally ≡ components_declared l.components l.fn.tally
