-- The declarations so far and those of the rest are those of all.
use Rattle.std.proofs.Common.{◌≡◌, ◌++◌, map, drop}
use Rattle.sr_check_decl.specs.Waits.{seen}
use Rattle.sr_check_decl.specs.Waiting.{components_waiting}
use Rattle.sr_check_decl.proofs.waiting.push_components.Given as goal

abbrev pub invariant-loop-component : goal.invariant-loop-component
invariant-loop-component l = map seen l.all ++ components_waiting (drop l.component-index l.components) ≡ map seen l.fn.all ++ components_waiting l.components
