-- What is visible so far, with the rest of the imports, is what is visible.
use Rattle.std.proofs.Common.{◌≡◌, [], drop}
use Rattle.sr_names.specs.Visible.{with_component}
use Rattle.sr_scope.specs.Components.{with_imports}
use Rattle.sr_scope.proofs.components.visible_to.Given as goal

abbrev pub invariant-loop-name : goal.invariant-loop-name
invariant-loop-name l = with_imports l.components (drop l.name-index l.names) l.visible ≡ with_imports l.components l.names (with_component [] l.fn.importer)
