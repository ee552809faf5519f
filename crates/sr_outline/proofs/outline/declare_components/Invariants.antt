-- What there is so far and what the rest adds are what all add.
use Rattle.std.proofs.Common.{drop, ◌≡◌}
use Rattle.sr_outline.specs.Heads.{with_heads}
use Rattle.sr_outline.specs.Outline.{all_optypes}
use Rattle.sr_outline.proofs.outline.declare_components.Given as goal

abbrev pub invariant-loop-component : goal.invariant-loop-component
invariant-loop-component l = with_heads l.facts l.table l.all (all_optypes (drop l.component-index l.components)) ≡ with_heads l.facts l.table l.fn.all (all_optypes l.components)
