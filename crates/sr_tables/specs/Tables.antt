-- Tables by the spots of declarations.
use Rattle.std.specs.Prelude.{ℕ, List, [], Option, unwrap_or, map, position, fold}
use Rattle.std.specs.Map.{lookup}
use Rattle.indexmap.specs.IndexMap.{insert_entry}
use Rattle.indexmap.specs.IndexSet.{insert_key}
use Rattle.sr_names.specs.declared.spot.Spot.{Spot}
use Rattle.sr_names.specs.Spots.{same_spot}

-- what a table has for a spot
abbrev pub found_at : {A : Type 0} → List (Spot × A) → Spot → Option A
found_at table spot = lookup (same_spot spot) table

abbrev pub with_entry : {A : Type 0} → List (Spot × A) → Spot → A → List (Spot × A)
with_entry table spot thing = insert_entry same_spot table spot thing

-- a table with these entries after its own, in order
abbrev pub with_entries : {A : Type 0} → List (Spot × A) → List (Spot × A) → List (Spot × A)
with_entries table entries = fold (λ table entry. with_entry table entry.0 entry.1) table entries

abbrev pub table_of : {A : Type 0} → List (Spot × A) → List (Spot × A)
table_of entries = with_entries [] entries

abbrev pub keys_of : {A : Type 0} → List (Spot × A) → List Spot
keys_of table = map (λ entry. entry.0) table

abbrev pub things_in : {A : Type 0} → List (Spot × A) → List A
things_in table = map (λ entry. entry.1) table

-- spots after others, each once
abbrev pub with_spots : List Spot → List Spot → List Spot
with_spots there spots = fold (insert_key same_spot) there spots

-- these spots in order, each once
abbrev pub each_once : List Spot → List Spot
each_once spots = with_spots [] spots

-- a number is a place in a list; a spot that isn't there, as in a program that is refused, has number 0
abbrev pub number_in : List Spot → Spot → ℕ
number_in spots spot = unwrap_or (position (same_spot spot) spots) 0
