-- Which declarations name a declaration.
use Rattle.std.proofs.Common.{◌≡◌, ◌⊎◌, inl, inr, ℕ, ◌+◌, suc, zero, Bool, true, false, eqb, true≢false, List, [], ◌∷◌, ◌++◌, Some, unwrap_or, refl, sym, ◌∙◌, ap, arith, if◌then◌else◌}
use Rattle.std.specs.List.{list_any, slice_get}
use Rattle.std.proofs.lemmas.Bool.{eq-eqb}
use Rattle.indexmap.specs.IndexMap.{insert_entry}
use Rattle.sr_names.specs.declared.spot.Spot.{Spot}
use Rattle.sr_names.specs.Spots.{same_spot}
use Rattle.sr_names.proofs.Marking.{entry-same, entry-other, same_spot-cases}
use Rattle.sr_names.proofs.LinkLemmas.{same_spot-eq, same_spot-refl}
use Rattle.sr_check_decl.specs.Needers.{needers_of, with_needer, with_needs, with_all_needs, needers_after, has_place}
use Rattle.sr_check_decl.specs.Waiting.{Waiting}
use Rattle.sr_check_decl.proofs.Tests.{either, or_left, true_or_false, none_some, any-left, any-right}

-- of two entries of a spot the second stays
pub insert-twice : {V : Type 0} (entries : List (Spot × V)) (spot : Spot) (first second : V) → insert_entry same_spot (insert_entry same_spot entries spot first) spot second ≡ insert_entry same_spot entries spot second
insert-twice [] spot first second = ap (λ (b : Bool). if b then (spot, second) ∷ [] else (spot, first) ∷ (spot, second) ∷ []) (same_spot-refl spot)
insert-twice (e ∷ es) spot first second = by (true_or_false (same_spot spot e.0)) (insert-twice es spot first second)
  where
    by : (same_spot spot e.0 ≡ true) ⊎ (same_spot spot e.0 ≡ false) → insert_entry same_spot (insert_entry same_spot es spot first) spot second ≡ insert_entry same_spot es spot second
        → insert_entry same_spot (if same_spot spot e.0 then (e.0, first) ∷ es else e ∷ insert_entry same_spot es spot first) spot second
        ≡ (if same_spot spot e.0 then (e.0, second) ∷ es else e ∷ insert_entry same_spot es spot second)
    by (inl h) more =
        ap (λ b. insert_entry same_spot (if b then (e.0, first) ∷ es else e ∷ insert_entry same_spot es spot first) spot second) h
        ∙ ap (λ b. if b then (e.0, second) ∷ es else (e.0, first) ∷ insert_entry same_spot es spot second) h
        ∙ sym (ap (λ b. if b then (e.0, second) ∷ es else e ∷ insert_entry same_spot es spot second) h)
    by (inr h) more =
        ap (λ b. insert_entry same_spot (if b then (e.0, first) ∷ es else e ∷ insert_entry same_spot es spot first) spot second) h
        ∙ ap (λ b. if b then (e.0, second) ∷ insert_entry same_spot es spot first else e ∷ insert_entry same_spot (insert_entry same_spot es spot first) spot second) h
        ∙ ap (λ rest. e ∷ rest) more
        ∙ sym (ap (λ b. if b then (e.0, second) ∷ es else e ∷ insert_entry same_spot es spot second) h)

module _ (needers : List (Spot × List ℕ)) (place : ℕ) (spot : Spot) where
  needer-stays : (other : Spot) (i : ℕ) → has_place (needers_of needers other) i ≡ true → has_place (needers_of (with_needer needers place spot) other) i ≡ true
  needer-stays other i h = by (same_spot-cases other spot)
    where
      by : ((other ≡ spot) ⊎ (same_spot other spot ≡ false)) → has_place (needers_of (with_needer needers place spot) other) i ≡ true
      by (inl e) =
          ap (λ x. has_place (needers_of (with_needer needers place spot) x) i) e
          ∙ ap (λ o. has_place (unwrap_or o []) i) (entry-same needers spot (needers_of needers spot ++ place ∷ []))
          ∙ any-left (λ p. eqb i p) (needers_of needers spot) (place ∷ []) (ap (λ x. has_place (needers_of needers x) i) (sym e) ∙ h)
      by (inr e) = ap (λ o. has_place (unwrap_or o []) i) (entry-other needers spot (needers_of needers spot ++ place ∷ []) other e) ∙ h

  needer-added : has_place (needers_of (with_needer needers place spot) spot) place ≡ true
  needer-added =
      ap (λ o. has_place (unwrap_or o []) place) (entry-same needers spot (needers_of needers spot ++ place ∷ []))
      ∙ any-right (λ p. eqb place p) (needers_of needers spot) (place ∷ []) (or_left _ _ (eq-eqb place place refl))

needs-stay : (needers : List (Spot × List ℕ)) (place : ℕ) (spots : List Spot) (other : Spot) (i : ℕ) → has_place (needers_of needers other) i ≡ true
    → has_place (needers_of (with_needs needers place spots) other) i ≡ true
needs-stay needers place [] other i h = h
needs-stay needers place (spot ∷ spots) other i h = needs-stay (with_needer needers place spot) place spots other i (needer-stays needers place spot other i h)

needs-added : (needers : List (Spot × List ℕ)) (place : ℕ) (spots : List Spot) (other : Spot) → list_any (same_spot other) spots ≡ true → has_place (needers_of (with_needs needers place spots) other) place ≡ true
needs-added needers place [] other h = absurd (true≢false (sym h))
needs-added needers place (spot ∷ spots) other h = by (either (same_spot other spot) _ h) (λ k. needs-added (with_needer needers place spot) place spots other k)
  where
    by : (same_spot other spot ≡ true) ⊎ (list_any (same_spot other) spots ≡ true)
        → (list_any (same_spot other) spots ≡ true → has_place (needers_of (with_needs (with_needer needers place spot) place spots) other) place ≡ true)
        → has_place (needers_of (with_needs (with_needer needers place spot) place spots) other) place ≡ true
    by (inl e) more =
        needs-stay (with_needer needers place spot) place spots other place
        (ap (λ x. has_place (needers_of (with_needer needers place spot) x) place) (same_spot-eq other spot e) ∙ needer-added needers place spot)
    by (inr k) more = more k

all_needs-stay : (needers : List (Spot × List ℕ)) (place : ℕ) (rows : List (List Spot)) (other : Spot) (i : ℕ) → has_place (needers_of needers other) i ≡ true
    → has_place (needers_of (with_all_needs needers place rows) other) i ≡ true
all_needs-stay needers place [] other i h = h
all_needs-stay needers place (spots ∷ rows) other i h = all_needs-stay (with_needs needers place spots) (place + 1) rows other i (needs-stay needers place spots other i h)

all_needs-added : (needers : List (Spot × List ℕ)) (place : ℕ) (rows : List (List Spot)) (i : ℕ) (spots : List Spot) (other : Spot) → slice_get rows i ≡ Some spots → list_any (same_spot other) spots ≡ true
    → has_place (needers_of (with_all_needs needers place rows) other) (place + i) ≡ true
all_needs-added needers place [] i spots other is h = absurd (none_some spots is)
all_needs-added needers place (row ∷ rows) zero spots other is h =
    let same : row ≡ spots = cc in
    let none_more : place + 0 ≡ place = omega arith in
    ap (λ n. has_place (needers_of (with_all_needs (with_needs needers place row) (place + 1) rows) other) n) none_more
    ∙ all_needs-stay (with_needs needers place row) (place + 1) rows other place (needs-added needers place row other (ap (λ r. list_any (same_spot other) r) same ∙ h))
all_needs-added needers place (row ∷ rows) (suc i) spots other is h =
    let one_more : place + suc i ≡ (place + 1) + i = omega arith in
    ap (λ n. has_place (needers_of (with_all_needs (with_needs needers place row) (place + 1) rows) other) n) one_more
    ∙ all_needs-added (with_needs needers place row) (place + 1) rows i spots other is h

-- a declaration is among those that name what its value names
pub names-are-noted : (rows : List (List Spot)) (i : ℕ) (spots : List Spot) (spot : Spot) → slice_get rows i ≡ Some spots → list_any (same_spot spot) spots ≡ true
    → has_place (needers_of (with_all_needs [] 0 rows) spot) i ≡ true
names-are-noted rows i spots spot is h =
    let none_more : i ≡ 0 + i = omega arith in ap (λ n. has_place (needers_of (with_all_needs [] 0 rows) spot) n) none_more ∙ all_needs-added [] 0 rows i spots spot is h

-- and among those after a wave in which that is settled
pub after-has : (needers : List (Spot × List ℕ)) (ws : List Waiting) (spot : Spot) (i : ℕ) → list_any (λ w. same_spot spot w.spot) ws ≡ true → has_place (needers_of needers spot) i ≡ true
    → has_place (needers_after needers ws) i ≡ true
after-has needers [] spot i settles h = absurd (true≢false (sym settles))
after-has needers (w ∷ ws) spot i settles h = by (either (same_spot spot w.spot) _ settles) (λ k. after-has needers ws spot i k h)
  where
    by : (same_spot spot w.spot ≡ true) ⊎ (list_any (λ v. same_spot spot v.spot) ws ≡ true)
        → (list_any (λ v. same_spot spot v.spot) ws ≡ true → has_place (needers_after needers ws) i ≡ true)
        → has_place (needers_of needers w.spot ++ needers_after needers ws) i ≡ true
    by (inl e) more = any-left (λ p. eqb i p) (needers_of needers w.spot) (needers_after needers ws) (ap (λ x. has_place (needers_of needers x) i) (sym (same_spot-eq spot w.spot e)) ∙ h)
    by (inr k) more = any-right (λ p. eqb i p) (needers_of needers w.spot) (needers_after needers ws) (more k)
