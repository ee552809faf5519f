-- After as many waves as declarations wait none of them can be settled any more.
use Rattle.std.proofs.Common.{◌≡◌, inl, inr, ℕ, ◌≤◌, ◌<◌, suc, zero, Bool, true, false, not, ◌&&◌, List, [], ◌∷◌, length, refl, sym, ap, subst, ◌∙◌, arith, if◌then◌else◌}
use Rattle.std.specs.List.{filter, list_any}
use Rattle.std.proofs.lemmas.Bool.{false≢true}
use Rattle.sr_check_expr.specs.declared.facts.Facts.{Facts}
use Rattle.sr_check_decl.proofs.Known.{known_stays, settled_are_known}
use Rattle.sr_check_decl.proofs.Tests.{and_parts, or_left, or_right}
use Rattle.sr_check_decl.proofs.Waves.{waves_stay}
use Rattle.sr_check_decl.specs.Inferring.{all_settled, can_settle, is_settled, wave, waves}
use Rattle.sr_check_decl.specs.NamesIn.{is_ready}
use Rattle.sr_check_decl.specs.Waiting.{Waiting}
use Rattle.sr_names.proofs.LinkLemmas.{same_spot-refl}
use Rattle.sr_names.specs.Spots.{same_spot}
use Rattle.sr_scope.specs.Uses.{IsIn}

-- ---- some of a list

module _ {A : Type 0} where
  pub in_filter : (p : A → Bool) (xs : List A) (one : A) → IsIn one (filter p xs) → IsIn one xs × (p one ≡ true)
  in_filter p [] one k = absurd k
  in_filter p (x ∷ xs) one k = by (p x) refl k (in_filter p xs one)
    where
      by : (b : Bool) → p x ≡ b → IsIn one (if b then x ∷ filter p xs else filter p xs) → (IsIn one (filter p xs) → IsIn one xs × (p one ≡ true)) → IsIn one (x ∷ xs) × (p one ≡ true)
      by true is (inl e) more = (inl e, ap p (sym e) ∙ is)
      by true is (inr h) more = let rest = more h in (inr rest.0, rest.1)
      by false is h more = let rest = more h in (inr rest.0, rest.1)

  pub filter_in : (p : A → Bool) (xs : List A) (one : A) → IsIn one xs → p one ≡ true → IsIn one (filter p xs)
  filter_in p [] one k holds = absurd k
  filter_in p (x ∷ xs) one (inl e) holds = subst (λ b. IsIn one (if b then x ∷ filter p xs else filter p xs)) (sym (ap p e ∙ holds)) (inl e)
  filter_in p (x ∷ xs) one (inr k) holds = by (p x) (filter_in p xs one k holds)
    where
      by : (b : Bool) → IsIn one (filter p xs) → IsIn one (if b then x ∷ filter p xs else filter p xs)
      by true h = inr h
      by false h = h

  filter_fewer : (p : A → Bool) (xs : List A) → length (filter p xs) ≤ length xs
  filter_fewer p [] = omega arith
  filter_fewer p (x ∷ xs) = by (p x) (filter_fewer p xs)
    where
      by : (b : Bool) → length (filter p xs) ≤ length xs → length (if b then x ∷ filter p xs else filter p xs) ≤ suc (length xs)
      by true h = omega arith
      by false h = omega arith

  module _ (p q : A → Bool) (weaker : (x : A) → q x ≡ true → p x ≡ true) where
    fewer_if : (x : A) (ps qs : List A) (a b : Bool) → p x ≡ a → q x ≡ b → length qs ≤ length ps → length (if b then x ∷ qs else qs) ≤ length (if a then x ∷ ps else ps)
    fewer_if x ps qs true true is it h = omega arith
    fewer_if x ps qs true false is it h = omega arith
    fewer_if x ps qs false true is it h = absurd (false≢true (sym is ∙ weaker x it))
    fewer_if x ps qs false false is it h = h

    fewer_left : (xs : List A) → length (filter q xs) ≤ length (filter p xs)
    fewer_left [] = omega arith
    fewer_left (x ∷ xs) = fewer_if x (filter p xs) (filter q xs) (p x) (q x) refl refl (fewer_left xs)

    less_if : (x : A) (ps qs : List A) (a b : Bool) → p x ≡ a → q x ≡ b → length qs < length ps → length (if b then x ∷ qs else qs) < length (if a then x ∷ ps else ps)
    less_if x ps qs true true is it h = omega arith
    less_if x ps qs true false is it h = omega arith
    less_if x ps qs false true is it h = absurd (false≢true (sym is ∙ weaker x it))
    less_if x ps qs false false is it h = h

    less_here : (x : A) (ps qs : List A) (a b : Bool) → a ≡ true → b ≡ false → length qs ≤ length ps → length (if b then x ∷ qs else qs) < length (if a then x ∷ ps else ps)
    less_here x ps qs true true is it h = absurd (false≢true (sym it))
    less_here x ps qs true false is it h = omega arith
    less_here x ps qs false b is it h = absurd (false≢true is)

    -- where one fails there are less
    less_left : (xs : List A) (one : A) → IsIn one xs → p one ≡ true → q one ≡ false → length (filter q xs) < length (filter p xs)
    less_left [] one k is it = absurd k
    less_left (x ∷ xs) one (inl e) is it = less_here x (filter p xs) (filter q xs) (p x) (q x) (ap p e ∙ is) (ap q e ∙ it) (fewer_left xs)
    less_left (x ∷ xs) one (inr k) is it = less_if x (filter p xs) (filter q xs) (p x) (q x) refl refl (less_left xs one k is it)

-- ---- waves

-- it hasn't its type
abbrev pub is_left : Facts → Waiting → Bool
is_left facts waiting = not (is_settled facts waiting)

module _ (all : List Waiting) where
  abbrev count : Facts → ℕ
  count facts = length (filter (is_left facts) all)

  not_left : (facts : Facts) (waiting : Waiting) → is_settled facts waiting ≡ true → is_left facts waiting ≡ false
  not_left facts waiting is = ap not is

  any_in : (some : List Waiting) (waiting : Waiting) → IsIn waiting some → list_any (λ (w : Waiting). same_spot waiting.spot w.spot) some ≡ true
  any_in [] waiting k = absurd k
  any_in (w ∷ some) waiting (inl e) = or_left _ _ (ap (λ (it : Waiting). same_spot waiting.spot it.spot) e ∙ same_spot-refl waiting.spot)
  any_in (w ∷ some) waiting (inr k) = or_right (same_spot waiting.spot w.spot) _ (any_in some waiting k)

  -- what a wave settles is settled after it
  settled_after : (facts : Facts) (waiting : Waiting) → IsIn waiting all → can_settle facts waiting ≡ true → is_settled (wave all facts) waiting ≡ true
  settled_after facts waiting k can =
      settled_are_known (filter (can_settle facts) all) facts waiting.spot (any_in (filter (can_settle facts) all) waiting (filter_in (can_settle facts) all waiting k can))

  -- what is left after it was left before
  left_before : (facts : Facts) (waiting : Waiting) → is_left (wave all facts) waiting ≡ true → is_left facts waiting ≡ true
  left_before facts waiting = by (is_settled facts waiting) refl
    where
      by : (b : Bool) → is_settled facts waiting ≡ b → is_left (wave all facts) waiting ≡ true → not b ≡ true
      by true is h = absurd (false≢true (sym (not_left (wave all facts) waiting (known_stays (filter (can_settle facts) all) facts waiting.spot is)) ∙ h))
      by false is h = refl

  one_less : (facts : Facts) (waiting : Waiting) → IsIn waiting all → can_settle facts waiting ≡ true → count (wave all facts) < count facts
  one_less facts waiting k can =
      less_left (is_left facts) (is_left (wave all facts)) (left_before facts) all waiting k (and_parts (is_left facts waiting) _ can).0 (not_left (wave all facts) waiting (settled_after facts waiting k can))

  none_can : (facts : Facts) → filter (can_settle facts) all ≡ [] → (waiting : Waiting) → IsIn waiting all → can_settle facts waiting ≡ false
  none_can facts none waiting k = by (can_settle facts waiting) refl
    where
      by : (b : Bool) → can_settle facts waiting ≡ b → can_settle facts waiting ≡ false
      by true is = absurd (subst (IsIn waiting) none (filter_in (can_settle facts) all waiting k is))
      by false is = is

  nothing_left : (facts : Facts) → count facts ≤ 0 → (waiting : Waiting) → IsIn waiting all → can_settle facts waiting ≡ false
  nothing_left facts few waiting k = by (can_settle facts waiting) refl
    where
      by : (b : Bool) → can_settle facts waiting ≡ b → can_settle facts waiting ≡ false
      by true is = let less = one_less facts waiting k is in absurd (omega arith)
      by false is = is

  abbrev Idle : Facts → Type 0
  Idle facts = (waiting : Waiting) → IsIn waiting all → can_settle facts waiting ≡ false

  -- at most so many are left
  idle_after : (n : ℕ) (facts : Facts) → count facts ≤ n → Idle (waves n all facts)
  idle_after zero facts few = nothing_left facts few
  idle_after (suc n) facts few = by (filter (can_settle facts) all) refl (idle_after n (wave all facts))
    where
      by : (some : List Waiting) → filter (can_settle facts) all ≡ some → (count (wave all facts) ≤ n → Idle (waves n all (wave all facts))) → Idle (waves (suc n) all facts)
      by [] none more =
          let same : wave all facts ≡ facts = ap (λ (some : List Waiting). all_settled some facts) none in
          subst Idle (sym (waves_stay (suc n) all facts same)) (none_can facts none)
      by (one ∷ some) is more =
          let among = in_filter (can_settle facts) all one (subst (IsIn one) (sym is) (inl refl)) in
          let less : count (wave all facts) < count facts = one_less facts one among.0 among.1 in
          more (omega arith)

  -- after all waves none can be settled
  pub all_idle : (facts : Facts) → Idle (waves (length all) all facts)
  all_idle facts = idle_after (length all) facts (filter_fewer (is_left facts) all)

-- what is left and can't be settled isn't ready
pub left_unready : (facts : Facts) (waiting : Waiting) → can_settle facts waiting ≡ false → is_settled facts waiting ≡ false → is_ready facts waiting.value ≡ false
left_unready facts waiting cannot unsettled = sym (ap (λ b. not b && is_ready facts waiting.value) unsettled) ∙ cannot
