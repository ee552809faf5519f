-- What is found of a list of parts stands in their names, and is found of the part at whose name it stands, where no two of their names
-- stand there.
use Rattle.std.proofs.Common.{◌≡◌, ◌⊎◌, inl, inr, ℕ, ◌+◌, ◌≤◌, List, [], ◌∷◌, flat_map, sym, subst, arith}
use Rattle.sr_names.specs.declared.finding.Finding.{Finding}
use Rattle.sr_names.specs.declared.spot.Spot.{Spot}
use Rattle.sr_scope.proofs.Among.{names_at, names_both}
use Rattle.sr_scope.specs.Uses.{IsIn}
use Rattle.sr_value.specs.declared.place.Span.{Span}

module _ {A : Type 0} (spot : Spot) (names : A → List Span) where
  -- there stand no more names of one part than of all
  pub part_fewer : (all : List A) (one : A) → IsIn one all → names_at spot (names one) ≤ names_at spot (flat_map names all)
  part_fewer [] one k = absurd k
  part_fewer (first ∷ all) one (inl e) =
      subst (λ it. names_at spot (names it) ≤ names_at spot (flat_map names (first ∷ all))) e (omega (arith, names_both spot (names first) (flat_map names all)))
  part_fewer (first ∷ all) one (inr k) = omega (arith, part_fewer all one k, names_both spot (names first) (flat_map names all))

  pub part_stands : (all : List A) (one : A) → IsIn one all → 1 ≤ names_at spot (names one) → 1 ≤ names_at spot (flat_map names all)
  part_stands all one k h = omega (arith, part_fewer all one k, h)

  -- the names that parts import are names of them, so those of a part that imports none aren't among them
  pub imports_but : (imported : A → ℕ) (all_imported : List A → ℕ) → ((first : A) (all : List A) → all_imported (first ∷ all) ≡ imported first + all_imported all)
      → ((one : A) → imported one ≤ names_at spot (names one)) → ((all : List A) → all_imported all ≤ names_at spot (flat_map names all))
      → (all : List A) (one : A) → imported one ≡ 0 → IsIn one all → names_at spot (names one) + all_imported all ≤ names_at spot (flat_map names all)
  imports_but imported all_imported both fewer all_fewer [] one none k = absurd k
  imports_but imported all_imported both fewer all_fewer (first ∷ all) one none (inl e) =
      let first_none : imported first ≡ 0 = subst (λ it. imported it ≡ 0) (sym e) none in
      subst (λ it. names_at spot (names it) + all_imported (first ∷ all) ≤ names_at spot (flat_map names (first ∷ all))) e
      (omega (arith, first_none, both first all, names_both spot (names first) (flat_map names all), all_fewer all))
  imports_but imported all_imported both fewer all_fewer (first ∷ all) one none (inr k) =
      omega (arith, both first all, names_both spot (names first) (flat_map names all), fewer first, imports_but imported all_imported both fewer all_fewer all one none k)

  -- what is found of each part stands in its names
  module _ (finding : Finding) (found : A → List Finding) (all_found : List A → List Finding) (none : IsIn finding (all_found []) → ⊥)
      (either : (first : A) (all : List A) → IsIn finding (all_found (first ∷ all)) → IsIn finding (found first) ⊎ IsIn finding (all_found all))
      (stands : (one : A) → IsIn finding (found one) → 1 ≤ names_at spot (names one)) where
    pub parts_stand : (all : List A) → IsIn finding (all_found all) → 1 ≤ names_at spot (flat_map names all)
    parts_stand [] k = absurd (none k)
    parts_stand (first ∷ all) k = by (either first all k) (parts_stand all)
      where
        by : IsIn finding (found first) ⊎ IsIn finding (all_found all) → (IsIn finding (all_found all) → 1 ≤ names_at spot (flat_map names all)) → 1 ≤ names_at spot (flat_map names (first ∷ all))
        by (inl h) more = omega (arith, stands first h, names_both spot (names first) (flat_map names all))
        by (inr h) more = omega (arith, more h, names_both spot (names first) (flat_map names all))

    pub in_part : (all : List A) (one : A) → IsIn one all → 1 ≤ names_at spot (names one) → names_at spot (flat_map names all) ≤ 1 → IsIn finding (all_found all) → IsIn finding (found one)
    in_part [] one k h once f = absurd k
    in_part (first ∷ all) one k h once f = by k (either first all f) (λ later. in_part all one later h (omega (arith, once, both)))
      where
        both : names_at spot (flat_map names (first ∷ all)) ≡ names_at spot (names first) + names_at spot (flat_map names all)
        both = names_both spot (names first) (flat_map names all)

        by : (first ≡ one) ⊎ IsIn one all → IsIn finding (found first) ⊎ IsIn finding (all_found all) → (IsIn one all → IsIn finding (all_found all) → IsIn finding (found one)) → IsIn finding (found one)
        by (inl e) (inl f) more = subst (λ it. IsIn finding (found it)) e f
        by (inl e) (inr f) more = absurd (omega (arith, once, both, subst (λ it. 1 ≤ names_at spot (names it)) (sym e) h, parts_stand all f))
        by (inr later) (inl f) more = absurd (omega (arith, once, both, stands first f, part_stands all one later h))
        by (inr later) (inr f) more = more later f
