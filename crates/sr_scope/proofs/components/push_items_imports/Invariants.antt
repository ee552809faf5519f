-- The names so far and those of the rest are those of all.
use Rattle.std.proofs.Common.{◌≡◌, ◌++◌, drop}
use Rattle.sr_scope.specs.Components.{items_imports}
use Rattle.sr_scope.proofs.components.push_items_imports.Given as goal

abbrev pub invariant-loop-item : goal.invariant-loop-item
invariant-loop-item l = l.all ++ items_imports (drop l.item-index l.items) ≡ l.fn.all ++ items_imports l.items
