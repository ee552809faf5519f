-- The names so far and those of the rest are those of all.
use Rattle.std.proofs.Common.{◌≡◌, ◌++◌, drop}
use Rattle.sr_scope.specs.Components.{specs_imports}
use Rattle.sr_scope.proofs.components.push_specs_imports.Given as goal

abbrev pub invariant-loop-item : goal.invariant-loop-item
invariant-loop-item l = l.all ++ specs_imports (drop l.item-index l.items) ≡ l.fn.all ++ specs_imports l.items
