-- The imports so far and those of the rest are those of all.
use Rattle.std.proofs.Common.{◌≡◌, ◌++◌, drop}
use Rattle.sr_scope.specs.Components.{imports_to}
use Rattle.sr_scope.proofs.components.push_imports.Given as goal

abbrev pub invariant-loop-name : goal.invariant-loop-name
invariant-loop-name l = l.imports ++ imports_to l.components l.importer (drop l.name-index l.names) ≡ l.fn.imports ++ imports_to l.components l.importer l.names
