-- A number that is found in a list is a place in it.
use Rattle.std.proofs.Common.{◌≡◌, ℕ, suc, ◌+◌, ◌<◌, ◌≤◌, Bool, true, false, List, [], ◌∷◌, ◌++◌, Option, Some, None, length, position, unwrap_or, if◌then◌else◌, refl, arith, length-append}
use Rattle.std.proofs.lemmas.List.{length-map}
use Rattle.std.proofs.lemmas.List.Quantifiers.{position-Some}
use Rattle.std.specs.List.{list_any}
use Rattle.sr_names.specs.declared.spot.Spot.{Spot}
use Rattle.sr_names.specs.Spots.{same_spot}
use Rattle.sr_tables.specs.Tables.{each_once, found_at, keys_of, number_in, things_in, with_spots}

pub position_within : {A : Type 0} (test : A → Bool) (things : List A) (d : A) (n : ℕ) → position test things ≡ Some n → n < length things
position_within test things d n is = (position-Some test things n d is).0

-- in a list with spots every spot has a number
pub number_within : (spots : List Spot) (spot : Spot) → 0 < length spots → number_in spots spot < length spots
number_within spots spot some = by (position (same_spot spot) spots) refl
  where
    by : (found : Option ℕ) → position (same_spot spot) spots ≡ found → unwrap_or found 0 < length spots
    by None is = some
    by (Some n) is = position_within (same_spot spot) spots spot n is

-- a table that has something for a spot has entries
some_found : {A : Type 0} (table : List (Spot × A)) (spot : Spot) (thing : A) → found_at table spot ≡ Some thing → 0 < length table
some_found [] spot thing is = absurd (none_some is)
  where
    none_some : None ≡ Some thing → ⊥
    none_some e = cc
some_found (entry ∷ table) spot thing is = omega arith

-- what a table has for a spot has a number among what is in it
pub found_within : {A : Type 0} (table : List (Spot × A)) (spot : Spot) (thing : A) → found_at table spot ≡ Some thing
    → number_in (keys_of table) spot < length (things_in table)
found_within table spot thing is =
    let keys = length-map table (λ entry. entry.0) in
    let things = length-map table (λ entry. entry.1) in
    let some = some_found table spot thing is in
    let within = number_within (keys_of table) spot (omega (arith, keys, some)) in
    omega (arith, keys, things, within)

-- ---- spots, each once

step_more : (there : List Spot) (spot : Spot) → length there ≤ length (with_spots there (spot ∷ []))
step_more there spot = by (list_any (same_spot spot) there)
  where
    by : (b : Bool) → length there ≤ length (if b then there else (there ++ spot ∷ []))
    by true = omega arith
    by false = omega (arith, length-append there (spot ∷ []))

step_least : (there : List Spot) (spot : Spot) → length (with_spots there (spot ∷ [])) ≤ suc (length there)
step_least there spot = by (list_any (same_spot spot) there)
  where
    by : (b : Bool) → length (if b then there else (there ++ spot ∷ [])) ≤ suc (length there)
    by true = omega arith
    by false = omega (arith, length-append there (spot ∷ []))

more : (there spots : List Spot) → length there ≤ length (with_spots there spots)
more there [] = omega arith
more there (spot ∷ spots) = omega (arith, step_more there spot, more (with_spots there (spot ∷ [])) spots)

most : (there spots : List Spot) → length (with_spots there spots) ≤ length there + length spots
most there [] = omega arith
most there (spot ∷ spots) = omega (arith, step_least there spot, most (with_spots there (spot ∷ [])) spots)

-- no spot is added
pub once_most : (spots : List Spot) → length (each_once spots) ≤ length spots
once_most spots = omega (arith, most [] spots)

-- where there are spots, there are some of them
pub once_some : (spots : List Spot) → 0 < length spots → 0 < length (each_once spots)
once_some [] some = some
once_some (spot ∷ spots) some = omega (arith, more (spot ∷ []) spots)
