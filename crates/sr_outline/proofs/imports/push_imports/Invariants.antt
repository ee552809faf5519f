-- What there is so far and what the rest adds are what all add.
use Rattle.std.proofs.Common.{drop, map, ◌++◌, ◌≡◌}
use Rattle.sr_outline.specs.Outline.{imports_of}
use Rattle.sr_outline.proofs.imports.push_imports.Given as goal

abbrev pub invariant-loop-component : goal.invariant-loop-component
invariant-loop-component l = l.all ++ map (imports_of l.facts l.components) (drop l.component-index l.trees) ≡ l.fn.all ++ map (imports_of l.facts l.components) l.trees
