-- Parts in ascending order, each once.
use Rattle.std.specs.Prelude.{ℕ, ◌==◌, ◌<◌, List, [], ◌∷◌, fold, length, nat_le, nat_lt, Option, Some, None, if◌then◌else◌}
use Rattle.sr_touch.specs.declared.parts.Parts.{Parts}
use Rattle.sr_touch.specs.declared.parts.Parts.TheVariants.{One, Two, Three}

-- one part more, at its place, unless it is there
abbrev pub with_part : List ℕ → ℕ → List ℕ
with_part [] part = part ∷ []
with_part (first ∷ others) part =
    if part == first then first ∷ others else if nat_lt part first then part ∷ first ∷ others else first ∷ with_part others part

-- these parts in order, each once
abbrev pub in_order : List ℕ → List ℕ
in_order parts = fold with_part [] parts

-- ---- at most three

abbrev pub up_to_three : List ℕ → Option (List ℕ)
up_to_three parts = if nat_le (length parts) 3 then Some parts else None

-- more parts, as long as there are no more than three
abbrev pub adding : Option (List ℕ) → ℕ → Option (List ℕ)
adding None part = None
adding (Some parts) part = up_to_three (with_part parts part)

abbrev pub all_added : Option (List ℕ) → List ℕ → Option (List ℕ)
all_added parts more = fold adding parts more

abbrev pub parts_in : Parts → List ℕ
parts_in (One first) = first ∷ []
parts_in (Two first second) = first ∷ second ∷ []
parts_in (Three first second third) = first ∷ second ∷ third ∷ []

abbrev pub IsAscending : Parts → Type 0
IsAscending (One first) = Unit {0}
IsAscending (Two first second) = first < second
IsAscending (Three first second third) = (first < second) × (second < third)
