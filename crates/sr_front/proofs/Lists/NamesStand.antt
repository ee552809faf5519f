-- Where no name stands more often among some names than among others, each of the first stands among the others.
use Rattle.std.proofs.Common.{◌≡◌, ◌⊎◌, ℕ, ◌+◌, ◌≤◌, false, List, [], ◌∷◌, sym, subst, inl, inr, arith}
use Rattle.sr_names.proofs.LinkLemmas.{same_spot-refl}
use Rattle.sr_names.proofs.Marking.{same_spot-cases}
use Rattle.sr_names.specs.declared.meaning.Sort.{Sort}
use Rattle.sr_names.specs.declared.spot.Spot.{Spot}
use Rattle.sr_names.specs.Spots.{same_spot, spot_of}
use Rattle.sr_scope.proofs.Among.{names_at, one_if}
use Rattle.sr_scope.proofs.OwnNames.{Fewer, spans_of}
use Rattle.sr_scope.specs.Uses.{IsIn}
use Rattle.sr_tables.specs.Parts.{spot_named}
use Rattle.sr_tree.specs.declared.name.Name.{Name}
use Rattle.sr_value.specs.declared.place.Span.{Span}
use Rattle.sr_front.proofs.Own.DeclaredIn.{Stands}

counted : (names : List (Sort × Name)) (one : Sort × Name) → IsIn one names → 1 ≤ names_at (spot_named one.1) (spans_of names)
counted [] one k = absurd k
counted (first ∷ names) one (inl e) = subst (λ (it : Sort × Name). 1 ≤ names_at (spot_named it.1) (spans_of (first ∷ names))) e here
  where
    more : (n : ℕ) → 1 ≤ 1 + n
    more n = omega arith

    here : 1 ≤ names_at (spot_named first.1) (spans_of (first ∷ names))
    here =
        subst (λ b. 1 ≤ one_if b + names_at (spot_named first.1) (spans_of names)) (sym (same_spot-refl (spot_named first.1)))
        (more (names_at (spot_named first.1) (spans_of names)))
counted (first ∷ names) one (inr k) = let more = counted names one k in omega (arith, more)

stands_from : (spot : Spot) (spans : List Span) → 1 ≤ names_at spot spans → Stands spot spans
stands_from spot [] h = absurd (omega (arith, h))
stands_from spot (span ∷ spans) h = by (same_spot-cases spot (spot_of span)) (stands_from spot spans)
  where
    by : (spot ≡ spot_of span) ⊎ (same_spot spot (spot_of span) ≡ false) → (1 ≤ names_at spot spans → Stands spot spans) → Stands spot (span ∷ spans)
    by (inl same) more = inl (sym same)
    by (inr apart) more = let rest : 1 ≤ 0 + names_at spot spans = subst (λ b. 1 ≤ one_if b + names_at spot spans) apart h in inr (more (omega (arith, rest)))

pub fewer_stands : (names : List (Sort × Name)) (spans : List Span) → Fewer (spans_of names) spans → (one : Sort × Name) → IsIn one names → Stands (spot_named one.1) spans
fewer_stands names spans fewer one k = let some = counted names one k in let most = fewer.at (spot_named one.1) in stands_from (spot_named one.1) spans (omega (arith, some, most))
