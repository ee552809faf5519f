-- What the values of declarations name, and which of it has a type.
use Rattle.std.specs.Prelude.{ℕ, Bool, true, IsTrue, List, [], ◌∷◌, ◌++◌, Option, Some, None, is_some, slice_get, take}
use Rattle.std.specs.List.{list_all}
use Rattle.sr_value.specs.declared.place.Span.{Span}
use Rattle.sr_names.specs.Noted.{Meanings}
use Rattle.sr_names.specs.declared.meaning.Decl.{Decl}
use Rattle.sr_names.specs.declared.spot.Spot.{Spot}
use Rattle.sr_names.specs.Spots.{spot_of}
use Rattle.sr_names.specs.Uses.{meaning_at}
use Rattle.sr_check_expr.specs.declared.facts.Facts.{Facts}
use Rattle.sr_check_expr.specs.Infos.{info_at}
use Rattle.sr_check_expr.specs.Naming.{decl_of}
use Rattle.sr_check_decl.specs.NamesIn.{names_in}
use Rattle.sr_check_decl.specs.Waiting.{Waiting}

abbrev pub needed_by : Option Decl → List Spot
needed_by None = []
needed_by (Some decl) = decl.spot ∷ []

-- the declarations that names mean
abbrev pub needs_among : Meanings → List Span → List Spot
needs_among uses [] = []
needs_among uses (span ∷ spans) = needed_by (decl_of (meaning_at uses (spot_of span))) ++ needs_among uses spans

-- the declarations that the value of a declaration names
abbrev pub needs_in : Meanings → Waiting → List Spot
needs_in uses waiting = needs_among uses (names_in waiting.value)

-- whether something is declared at a spot
abbrev pub is_known : Facts → Spot → Bool
is_known facts spot = is_some (info_at facts.infos spot)

abbrev pub are_known : Facts → List Spot → Bool
are_known facts spots = list_all (is_known facts) spots

-- of each list the first so many are declared
abbrev pub FirstAreKnown : Facts → List (List Spot) → List ℕ → Type 0
FirstAreKnown facts [] [] = Unit {0}
FirstAreKnown facts [] (count ∷ counts) = ⊥
FirstAreKnown facts (spots ∷ rows) [] = ⊥
FirstAreKnown facts (spots ∷ rows) (count ∷ counts) = IsTrue (are_known facts (take count spots)) × FirstAreKnown facts rows counts

abbrev pub row_is_known : Facts → Option (List Spot) → Bool
row_is_known facts None = true
row_is_known facts (Some spots) = are_known facts spots

-- whether all of the list at a place are declared
abbrev pub known_at : Facts → List (List Spot) → ℕ → Bool
known_at facts rows place = row_is_known facts (slice_get rows place)
