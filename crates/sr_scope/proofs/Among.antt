-- How often names are used at a spot, against the names that stand there.
use Rattle.std.proofs.Common.{◌≡◌, ◌⊎◌, ℕ, ◌+◌, ◌≤◌, suc, Bool, true, false, List, [], ◌∷◌, ◌++◌, map, refl, ap, sym, subst, inl, inr, ◌∙◌, append_assoc, arith}
use Rattle.std.specs.List.{IsDistinct, AllByRecursion}
use Rattle.sr_value.specs.declared.place.Span.{Span}
use Rattle.sr_names.proofs.LinkLemmas.{same_spot-refl}
use Rattle.sr_names.proofs.Marking.{same_spot-cases}
use Rattle.sr_names.specs.declared.finding.Finding.{Finding}
use Rattle.sr_names.specs.declared.finding.Finding.TheVariants.{Use, Broken}
use Rattle.sr_names.specs.declared.finding.Diagnostic.{Diagnostic}
use Rattle.sr_names.specs.declared.meaning.Meaning.{Meaning}
use Rattle.sr_names.specs.declared.spot.Spot.{Spot}
use Rattle.sr_names.specs.Spots.{same_spot, spot_of}
use Rattle.sr_scope.specs.Uses.{IsIn, OneMeaning}

abbrev pub one_if : Bool → ℕ
one_if true = 1
one_if false = 0

-- how many uses are found at a spot
abbrev pub uses_at : Spot → List Finding → ℕ
uses_at spot [] = 0
uses_at spot (Use at meaning ∷ found) = one_if (same_spot spot at) + uses_at spot found
uses_at spot (Broken diagnostic ∷ found) = uses_at spot found

-- how many of these names stand at a spot
abbrev pub names_at : Spot → List Span → ℕ
names_at spot [] = 0
names_at spot (span ∷ spans) = one_if (same_spot spot (spot_of span)) + names_at spot spans

-- at no spot more uses are found than of these names stand there
pub record Among (found : List Finding) (spans : List Span) : Type 0 where
  pub at : (spot : Spot) → uses_at spot found ≤ names_at spot spans

pub uses_both : (spot : Spot) (f g : List Finding) → uses_at spot (f ++ g) ≡ uses_at spot f + uses_at spot g
uses_both spot [] g = omega arith
uses_both spot (Use at meaning ∷ f) g = omega (arith, uses_both spot f g)
uses_both spot (Broken diagnostic ∷ f) g = uses_both spot f g

pub names_both : (spot : Spot) (s t : List Span) → names_at spot (s ++ t) ≡ names_at spot s + names_at spot t
names_both spot [] t = omega arith
names_both spot (span ∷ s) t = omega (arith, names_both spot s t)

-- ---- what is found in parts is found in the whole

pub nothing : {s : List Span} → Among [] s
nothing = record { at = λ spot. omega arith }

pub both : {f g : List Finding} {s t : List Span} → Among f s → Among g t → Among (f ++ g) (s ++ t)
both {f = f} {g = g} {s = s} {t = t} a b = record {
  at = λ spot. omega (arith, uses_both spot f g, names_both spot s t, a.at spot, b.at spot);
}

pub one_use : (meaning : Meaning) (span : Span) → Among (Use (spot_of span) meaning ∷ []) (span ∷ [])
one_use meaning span = record { at = λ spot. omega arith }

pub one_broken : (diagnostic : Diagnostic) (s : List Span) → Among (Broken diagnostic ∷ []) s
one_broken diagnostic s = record { at = λ spot. omega arith }

-- names that aren't used
pub after_one : {f : List Finding} {s : List Span} (span : Span) → Among f s → Among f (span ∷ s)
after_one {f = f} {s = s} span a = record { at = λ spot. omega (arith, a.at spot) }

pub after : {f : List Finding} {s : List Span} (t : List Span) → Among f s → Among f (t ++ s)
after {f = f} {s = s} t a = record { at = λ spot. omega (arith, names_both spot t s, a.at spot) }

-- broken rules before and between the uses
pub besides : {f g : List Finding} {s : List Span} → Among f [] → Among g s → Among (f ++ g) s
besides a b = both a b

pub and_twice : {f g : List Finding} {s : List Span} → Among f s → Among g [] → Among (f ++ g) s
and_twice {f = f} {g = g} {s = s} a b = record { at = λ spot. omega (arith, uses_both spot f g, a.at spot, b.at spot) }

pub regrouped : {f : List Finding} (s t u : List Span) → Among f ((s ++ t) ++ u) → Among f (s ++ (t ++ u))
regrouped {f = f} s t u a = subst (λ spans. Among f spans) (append_assoc s t u) a

-- ---- names that are distinct

none_at : (spot other : Spot) (spans : List Span) → spot ≡ other → AllByRecursion (λ at. same_spot other at ≡ false) (map spot_of spans) → names_at spot spans ≡ 0
none_at spot other [] same apart = refl
none_at spot other (span ∷ spans) same apart =
    let here : same_spot spot (spot_of span) ≡ false = subst (λ at. same_spot at (spot_of span) ≡ false) (sym same) apart.0 in
    omega (arith, ap one_if here, none_at spot other spans same apart.1)

-- at most one of them stands at a spot
pub at_most_one : (spot : Spot) (spans : List Span) → IsDistinct same_spot (map spot_of spans) → names_at spot spans ≤ 1
unfolding IsDistinct
at_most_one spot [] distinct = omega arith
at_most_one spot (span ∷ spans) distinct = by (same_spot-cases spot (spot_of span)) (at_most_one spot spans distinct.1)
  where
    by : (spot ≡ spot_of span) ⊎ (same_spot spot (spot_of span) ≡ false) → names_at spot spans ≤ 1 → names_at spot (span ∷ spans) ≤ 1
    by (inl same) more =
        let here : names_at spot spans ≡ 0 = none_at spot (spot_of span) spans same distinct.0 in
        elim (same_spot spot (spot_of span)) as (λ b. one_if b + names_at spot spans ≤ 1) [
          | true ↦ omega (arith, here)
          | false ↦ omega (arith, here)
        ]
    by (inr other) more = omega (arith, ap one_if other, more)

-- ---- one meaning

used : (spot : Spot) (meaning : Meaning) (finding : Finding) (found : List Finding) → finding ≡ Use spot meaning
    → uses_at spot (finding ∷ found) ≡ suc (uses_at spot found)
used spot meaning finding found is =
    ap (λ first. uses_at spot (first ∷ found)) is ∙ ap (λ b. one_if b + uses_at spot found) (same_spot-refl spot) ∙ omega arith

not_fewer : (spot : Spot) (finding : Finding) (found : List Finding) → uses_at spot found ≤ uses_at spot (finding ∷ found)
not_fewer spot (Use at meaning) found = omega arith
not_fewer spot (Broken diagnostic) found = omega arith

-- a use that is found is counted
counted : (spot : Spot) (meaning : Meaning) (found : List Finding) → IsIn (Use spot meaning) found → 1 ≤ uses_at spot found
counted spot meaning [] among = absurd among
counted spot meaning (finding ∷ found) (inl is) = omega (arith, used spot meaning finding found is)
counted spot meaning (finding ∷ found) (inr among) = omega (arith, counted spot meaning found among, not_fewer spot finding found)

pub one_of_one : (spot : Spot) (a b : Meaning) (found : List Finding) → uses_at spot found ≤ 1 → IsIn (Use spot a) found → IsIn (Use spot b) found → a ≡ b
one_of_one spot a b [] most first second = absurd first
one_of_one spot a b (finding ∷ found) most (inl first) (inl second) = cc
one_of_one spot a b (finding ∷ found) most (inl first) (inr second) =
    absurd (omega (arith, most, used spot a finding found first, counted spot b found second))
one_of_one spot a b (finding ∷ found) most (inr first) (inl second) =
    absurd (omega (arith, most, used spot b finding found second, counted spot a found first))
one_of_one spot a b (finding ∷ found) most (inr first) (inr second) =
    one_of_one spot a b found (omega (arith, most, not_fewer spot finding found)) first second

-- where no two names stand at one spot the uses that are found at a spot have one meaning
pub one_meaning_among : (found : List Finding) (spans : List Span) → Among found spans → IsDistinct same_spot (map spot_of spans) → OneMeaning found
one_meaning_among found spans among distinct spot a b first second =
    one_of_one spot a b found (omega (arith, among.at spot, at_most_one spot spans distinct)) first second
