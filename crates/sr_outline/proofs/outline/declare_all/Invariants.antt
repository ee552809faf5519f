-- What there is so far and what the rest adds are what all add.
use Rattle.std.proofs.Common.{drop, ◌≡◌}
use Rattle.sr_outline.specs.Heads.{with_heads}
use Rattle.sr_outline.specs.Outline.{all_optypes}
use Rattle.sr_tables.specs.Parts.{components_in}
use Rattle.sr_outline.proofs.outline.declare_all.Given as goal

abbrev pub invariant-loop-file : goal.invariant-loop-file
invariant-loop-file l = with_heads l.facts l.table l.all (all_optypes (components_in (drop l.file-index l.files))) ≡ with_heads l.facts l.table l.fn.all (all_optypes (components_in l.files))
