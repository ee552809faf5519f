-- Where no two spots are the same, the number of a spot is its place.
use Rattle.std.proofs.Common.{◌≡◌, ℕ, ◌<◌, Bool, true, false, cond, List, [], ◌∷◌, ◌++◌, None, Some, refl, ap, sym, ◌∙◌, subst, get_or, length, unwrap_or, ltb, arith, if◌then◌else◌}
use Rattle.std.specs.Prelude.{slice_get, position}
use Rattle.std.specs.List.{list_any, IsDistinct, AllByRecursion, position_or_len}
use Rattle.std.proofs.lemmas.Bool.{true≢false, or_from, lt-ltb, false_from_ne_true}
use Rattle.std.proofs.lemmas.List.{append_assoc, append-nil}
use Rattle.std.proofs.lemmas.List.Sums.{position_or_len_is}
use Rattle.std.proofs.lemmas.Map.Keys.{IsDistinct-head, IsDistinct-tail, apart_from_distinct}
use Rattle.std.proofs.lemmas.Option.{slice_get_within, get_or_from_slice_get}
use Rattle.sr_names.specs.declared.spot.Spot.{Spot}
use Rattle.sr_names.specs.Spots.{same_spot}
use Rattle.sr_names.proofs.LinkLemmas.{same_spot-eq, same_spot-refl}
use Rattle.sr_tables.specs.Tables.{each_once, number_in, with_spots}

flip : (a b : Spot) → same_spot a b ≡ false → same_spot b a ≡ false
flip a b h = false_from_ne_true (same_spot b a) (λ e. true≢false (sym (subst (λ s. same_spot s b ≡ true) (same_spot-eq b a e) (same_spot-refl b)) ∙ h))

at_last : (a b : Spot) (xs ys : List Spot) → AllByRecursion (λ y. same_spot a y ≡ false) (xs ++ b ∷ ys) → same_spot a b ≡ false
at_last a b [] ys h = h.0
at_last a b (x ∷ xs) ys h = at_last a b xs ys h.1

-- a spot after others is none of them
none_before : (there : List Spot) (spot : Spot) (spots : List Spot) → IsDistinct same_spot (there ++ spot ∷ spots) → list_any (same_spot spot) there ≡ false
none_before [] spot spots h = refl
none_before (first ∷ there) spot spots h =
    or_from (same_spot spot first) _ (flip first spot (at_last first spot there spots (IsDistinct-head same_spot first (there ++ spot ∷ spots) h)))
    (none_before there spot spots (IsDistinct-tail same_spot first (there ++ spot ∷ spots) h))

all_kept : (there spots : List Spot) → IsDistinct same_spot (there ++ spots) → with_spots there spots ≡ there ++ spots
all_kept there [] h = sym (append-nil there)
all_kept there (spot ∷ spots) h = by (list_any (same_spot spot) there) refl (none_before there spot spots h)
    (all_kept (there ++ spot ∷ []) spots (subst (IsDistinct same_spot) (sym (append_assoc there (spot ∷ []) spots)) h))
  where
    by : (b : Bool) → list_any (same_spot spot) there ≡ b → list_any (same_spot spot) there ≡ false
        → with_spots (there ++ spot ∷ []) spots ≡ (there ++ spot ∷ []) ++ spots
        → with_spots (if list_any (same_spot spot) there then there else there ++ spot ∷ []) spots ≡ there ++ spot ∷ spots
    by b e f more = ap (λ found. with_spots (if found then there else there ++ spot ∷ []) spots) f ∙ more ∙ append_assoc there (spot ∷ []) spots

-- each stands once already
pub each_once_apart : (spots : List Spot) → IsDistinct same_spot spots → each_once spots ≡ spots
each_once_apart spots h = all_kept [] spots h

pub number_at : (spots : List Spot) (number : ℕ) (spot : Spot) → IsDistinct same_spot spots → slice_get spots number ≡ Some spot → number_in spots spot ≡ number
number_at spots number spot h e = ap (λ found. unwrap_or found 0) found
  where
    within : number < length spots
    within = slice_get_within spots number spot e

    is : (d : Spot) → get_or spots number d ≡ spot
    is d = get_or_from_slice_get spots number spot d e

    place : position_or_len (same_spot spot) spots ≡ number
    place = position_or_len_is (same_spot spot) spots number spot (omega (arith, within))
        (λ k l. flip (get_or spots k spot) spot (subst (λ s. same_spot (get_or spots k spot) s ≡ false) (is spot) (apart_from_distinct same_spot spots k number spot h l within)))
        (λ l. subst (λ s. same_spot spot s ≡ true) (sym (is spot)) (same_spot-refl spot))

    found : position (same_spot spot) spots ≡ Some number
    found = ap (λ n. cond (ltb n (length spots)) (Some n) None) place ∙ ap (λ b. cond b (Some number) None) (lt-ltb number (length spots) within)
