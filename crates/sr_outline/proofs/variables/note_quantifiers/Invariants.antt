-- What there is so far and what the rest adds are what all add.
use Rattle.std.proofs.Common.{drop, ◌≡◌}
use Rattle.sr_outline.specs.Numbers.{quantifier_names}
use Rattle.sr_tables.specs.Tables.{with_spots}
use Rattle.sr_outline.proofs.variables.note_quantifiers.Given as goal

abbrev pub invariant-loop-quantifier : goal.invariant-loop-quantifier
invariant-loop-quantifier l = with_spots l.names (quantifier_names (drop l.quantifier-index l.quantifiers)) ≡ with_spots l.fn.names (quantifier_names l.quantifiers)
