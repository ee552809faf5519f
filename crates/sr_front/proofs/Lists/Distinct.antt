-- Tables and numbers of spots of which each stands once.
use Rattle.std.proofs.Common.{◌≡◌, ℕ, zero, suc, ◌+◌, Bool, true, false, cond, List, [], ◌∷◌, ◌++◌, Some, refl, sym, ap, ◌∙◌, subst, true≢false, append_assoc, arith, position, unwrap_or, if◌then◌else◌}
use Rattle.std.specs.List.{AllByRecursion, IsDistinct, position_from}
use Rattle.std.proofs.lemmas.Iterator.Adapters.{position_from-zero}
use Rattle.std.proofs.lemmas.List.{append-nil, map-append}
use Rattle.std.proofs.lemmas.Map.Keys.{IsDistinct-head, IsDistinct-tail}
use Rattle.sr_names.specs.declared.spot.Spot.{Spot}
use Rattle.sr_names.specs.Searches.{At}
use Rattle.sr_names.specs.Spots.{same_spot}
use Rattle.sr_names.proofs.LinkLemmas.{same_spot-eq, same_spot-refl}
use Rattle.sr_tables.specs.Tables.{found_at, keys_of, number_in, table_of, with_entries, with_entry}
use Rattle.sr_front.proofs.Lists.Members.{at_map, every_at}

pub apart_flips : (a b : Spot) → same_spot a b ≡ false → same_spot b a ≡ false
apart_flips a b apart = by (same_spot b a) refl
  where
    by : (test : Bool) → same_spot b a ≡ test → same_spot b a ≡ false
    by false e = e
    by true e = absurd (true≢false (sym (same_spot-refl a) ∙ ap (same_spot a) (sym (same_spot-eq b a e)) ∙ apart))

-- what stands after the first of distinct spots is another
after_apart : (first : Spot) (spots : List Spot) (place : ℕ) (spot : Spot) → IsDistinct same_spot (first ∷ spots) → At spots place spot → same_spot spot first ≡ false
after_apart first spots place spot distinct h =
    apart_flips first spot (every_at (λ other. same_spot first other ≡ false) spots place spot (IsDistinct-head same_spot first spots distinct) h)

-- the same spot isn't after the first
not_after : (first : Spot) (spots : List Spot) (place : ℕ) → IsDistinct same_spot (first ∷ spots) → At spots place first → ⊥
not_after first spots place distinct h = true≢false (sym (same_spot-refl first) ∙ after_apart first spots place first distinct h)

-- each of distinct spots has one place
pub one_place : (spots : List Spot) (a b : ℕ) (spot : Spot) → IsDistinct same_spot spots → At spots a spot → At spots b spot → a ≡ b
one_place [] a b spot distinct p q = absurd p
one_place (first ∷ spots) zero zero spot distinct p q = refl
one_place (first ∷ spots) zero (suc b) spot distinct p q = absurd (not_after first spots b distinct (subst (At spots b) (sym p) q))
one_place (first ∷ spots) (suc a) zero spot distinct p q = absurd (not_after first spots a distinct (subst (At spots a) (sym q) p))
one_place (first ∷ spots) (suc a) (suc b) spot distinct p q = ap suc (one_place spots a b spot (IsDistinct-tail same_spot first spots distinct) p q)

-- ---- look-ups

pub found_there : {A : Type 0} (table : List (Spot × A)) (place : ℕ) (spot : Spot) (thing : A) → IsDistinct same_spot (keys_of table) → At table place (spot, thing) → found_at table spot ≡ Some thing
found_there [] place spot thing distinct h = absurd h
found_there {A} (first ∷ table) zero spot thing distinct h =
    let same : same_spot spot first.0 ≡ true = ap (λ (entry : Spot × A). same_spot spot entry.0) h ∙ same_spot-refl spot in
    ap (λ b. cond b (Some first.1) (found_at table spot)) same ∙ ap (λ (entry : Spot × A). Some entry.1) h
found_there {A} (first ∷ table) (suc place) spot thing distinct h =
    let apart = after_apart first.0 (keys_of table) place spot distinct (at_map (λ (entry : Spot × A). entry.0) table place (spot, thing) h) in
    ap (λ b. cond b (Some first.1) (found_at table spot)) apart ∙ found_there table place spot thing (IsDistinct-tail same_spot first.0 (keys_of table) distinct) h

numbered_from : (spots : List Spot) (first place number : ℕ) (spot : Spot) → number ≡ first + place → IsDistinct same_spot spots → At spots place spot → position_from (same_spot spot) first spots ≡ Some number
numbered_from [] first place number spot e distinct h = absurd h
numbered_from (one ∷ spots) first zero number spot e distinct h =
    let same : same_spot spot one ≡ true = ap (same_spot spot) h ∙ same_spot-refl spot in
    let here : first ≡ number = omega arith in
    ap (λ b. if b then Some first else position_from (same_spot spot) (first + 1) spots) same ∙ ap Some here
numbered_from (one ∷ spots) first (suc place) number spot e distinct h =
    ap (λ b. if b then Some first else position_from (same_spot spot) (first + 1) spots) (after_apart one spots place spot distinct h)
    ∙ numbered_from spots (first + 1) place number spot (omega arith) (IsDistinct-tail same_spot one spots distinct) h

-- the place of a spot is its number
pub place_is : (spots : List Spot) (place : ℕ) (spot : Spot) → IsDistinct same_spot spots → At spots place spot → position (same_spot spot) spots ≡ Some place
place_is spots place spot distinct h = position_from-zero (same_spot spot) spots ∙ numbered_from spots 0 place place spot (omega arith) distinct h

pub number_is : (spots : List Spot) (place : ℕ) (spot : Spot) → IsDistinct same_spot spots → At spots place spot → number_in spots spot ≡ place
number_is spots place spot distinct h = ap (λ found. unwrap_or found 0) (place_is spots place spot distinct h)

-- ---- tables of entries whose spots are distinct

-- the first of distinct spots is another than one that stands after others
first_apart : (first : Spot) (spots more : List Spot) (spot : Spot) → AllByRecursion (λ other. same_spot first other ≡ false) (spots ++ spot ∷ more) → same_spot first spot ≡ false
first_apart first [] more spot all = all.0
first_apart first (one ∷ spots) more spot all = first_apart first spots more spot all.1

entry_new : {A : Type 0} (table : List (Spot × A)) (entry : Spot × A) (more : List Spot) → IsDistinct same_spot (keys_of table ++ entry.0 ∷ more) → with_entry table entry.0 entry.1 ≡ table ++ entry ∷ []
entry_new [] entry more distinct = refl
entry_new (first ∷ table) entry more distinct =
    ap (λ b. if b then (first.0, entry.1) ∷ table else first ∷ with_entry table entry.0 entry.1)
    (apart_flips first.0 entry.0 (first_apart first.0 (keys_of table) more entry.0 (IsDistinct-head same_spot first.0 (keys_of table ++ entry.0 ∷ more) distinct)))
    ∙ ap (λ rest. first ∷ rest) (entry_new table entry more (IsDistinct-tail same_spot first.0 (keys_of table ++ entry.0 ∷ more) distinct))

entries_after : {A : Type 0} (table entries : List (Spot × A)) → IsDistinct same_spot (keys_of table ++ keys_of entries) → with_entries table entries ≡ table ++ entries
entries_after table [] distinct = sym (append-nil table)
entries_after {A} table (entry ∷ entries) distinct =
    let keys : keys_of (table ++ entry ∷ []) ++ keys_of entries ≡ keys_of table ++ entry.0 ∷ keys_of entries =
    ap (λ spots. spots ++ keys_of entries) (map-append (λ (one : Spot × A). one.0) table (entry ∷ [])) ∙ append_assoc (keys_of table) (entry.0 ∷ []) (keys_of entries) in
    ap (λ made. with_entries made entries) (entry_new table entry (keys_of entries) distinct)
    ∙ entries_after (table ++ entry ∷ []) entries (subst (IsDistinct same_spot) (sym keys) distinct)
    ∙ append_assoc table (entry ∷ []) entries

-- a table of such entries is these
pub entries_apart : {A : Type 0} (entries : List (Spot × A)) → IsDistinct same_spot (keys_of entries) → table_of entries ≡ entries
entries_apart entries distinct = entries_after [] entries distinct
