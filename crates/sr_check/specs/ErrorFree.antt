-- Findings of which none is a broken rule.
use Rattle.std.specs.Prelude.{List, [], ◌∷◌}
use Rattle.sr_names.specs.declared.finding.Finding.{Finding}
use Rattle.sr_names.specs.declared.finding.Finding.TheVariants.{Use, Broken}

-- no rule is broken
abbrev pub ErrorFree : List Finding → Type 0
ErrorFree [] = Unit {0}
ErrorFree (Use spot meaning ∷ findings) = ErrorFree findings
ErrorFree (Broken diagnostic ∷ findings) = ⊥
