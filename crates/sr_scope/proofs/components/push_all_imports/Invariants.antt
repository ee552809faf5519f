-- The imports so far and those of the rest are those of all.
use Rattle.std.proofs.Common.{◌≡◌, ◌++◌, drop}
use Rattle.sr_scope.specs.Components.{all_imports}
use Rattle.sr_scope.proofs.components.push_all_imports.Given as goal

abbrev pub invariant-loop-component : goal.invariant-loop-component
invariant-loop-component l = l.imports ++ all_imports l.components (drop l.component-index l.all) ≡ l.fn.imports ++ all_imports l.components l.all
