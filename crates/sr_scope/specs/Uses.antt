-- The uses that are found of names.
use Rattle.std.specs.Prelude.{◌≡◌, ◌⊎◌, List, [], ◌∷◌}
use Rattle.sr_names.specs.declared.finding.Finding.{Finding}
use Rattle.sr_names.specs.declared.finding.Finding.TheVariants.{Use}
use Rattle.sr_names.specs.declared.meaning.Meaning.{Meaning}
use Rattle.sr_names.specs.declared.spot.Spot.{Spot}

-- one of a list
abbrev pub IsIn : {A : Type 0} → A → List A → Type 0
IsIn a [] = ⊥
IsIn a (b ∷ bs) = (b ≡ a) ⊎ IsIn a bs

-- at one spot the uses that are found have one meaning
abbrev pub OneMeaning : List Finding → Type 0
OneMeaning findings = (spot : Spot) (a b : Meaning) → IsIn (Use spot a) findings → IsIn (Use spot b) findings → a ≡ b
