-- The quantifiers so far are open.
use Rattle.std.proofs.Common.{◌≡◌, length}
use Rattle.sr_gen.specs.Quantifiers.{Opened}
use Rattle.sr_gen.proofs.quantifiers.open_all.Given as goal

abbrev pub invariant-loop-quantifier : goal.invariant-loop-quantifier
invariant-loop-quantifier l = (length l.turns ≡ l.quantifier-index) × Opened l.place l.quantifiers l.turns l.fn.ways l.initial.out l.quantifier-index l.inner l.out
