-- What a list of findings leaves of its broken rules.
use Rattle.std.specs.Prelude.{◌≡◌, ◌⊎◌, false, List, [], ◌∷◌, MatchOption}
use Rattle.sr_names.specs.declared.finding.Finding.{Finding}
use Rattle.sr_names.specs.declared.finding.Finding.TheVariants.{Broken}
use Rattle.sr_names.specs.declared.finding.Diagnostic.{Diagnostic}
use Rattle.sr_names.specs.Diagnostics.{nothing, all_noted}
use Rattle.sr_names.specs.Order.{goes_before}

-- a broken rule is among findings
abbrev pub IsBroken : List Finding → Diagnostic → Type 0
IsBroken [] diagnostic = ⊥
IsBroken (finding ∷ findings) diagnostic = (finding ≡ Broken diagnostic) ⊎ IsBroken findings diagnostic

-- a broken rule is among findings, and no other one goes before it
pub record IsFirst (findings : List Finding) (diagnostic : Diagnostic) : Type 0 where
  pub found : IsBroken findings diagnostic
  pub first : (other : Diagnostic) → IsBroken findings other → goes_before other diagnostic ≡ false

-- of all broken rules the first by place and number is kept, and none only where none is broken
abbrev pub KeepsFirst : Type 0
KeepsFirst = (findings : List Finding) → MatchOption (all_noted nothing findings).first ((diagnostic : Diagnostic) → IsBroken findings diagnostic → ⊥) (IsFirst findings)
