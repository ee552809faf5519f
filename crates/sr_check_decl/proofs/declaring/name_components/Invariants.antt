-- What is declared so far and what the rest declares are what all declare.
use Rattle.std.proofs.Common.{◌≡◌, drop}
use Rattle.sr_check_decl.specs.Declaring.{components_named}
use Rattle.sr_check_decl.proofs.declaring.name_components.Given as goal

abbrev pub invariant-loop-component : goal.invariant-loop-component
invariant-loop-component l = components_named (drop l.component-index l.components) l.facts ≡ components_named l.components l.fn.facts
