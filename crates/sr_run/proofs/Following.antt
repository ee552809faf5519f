-- One item more, with its stretch or without.
use Rattle.std.proofs.Common.{◌≡◌, ◌⊎◌, inl, inr, ◌+◌, ◌<◌, ◌≤◌, ◌-◌, ℕ, zero, suc, Bool, true, false, List, [], ◌∷◌, ◌++◌, length, take, drop, Option, Some, None, IsSome, refl, ap, sym, ◌∙◌, subst, arith, true≢false, append-nil, length-append, length-drop}
use Rattle.sr_ask.specs.declared.item.Item.{Item}
use Rattle.sr_core.specs.declared.component.Core.{Core}
use Rattle.sr_plain.specs.Stretches.{IsStretch, nobody_could}
use Rattle.sr_run.specs.Arranged.{AreStretches, IsStretchFrom, LackStretches, TakesNoTime}
use Rattle.sr_run.specs.declared.stretch.Stretch.{Stretch}
use Rattle.sr_world.proofs.LawProofs.{run-append}
use Rattle.sr_world.specs.Runs.{Goes, Next, State, ending_of, run_from}

-- ---- lists

take-within : (n : ℕ) (xs ys : List Item) → n ≤ length xs → take n (xs ++ ys) ≡ take n xs
take-within zero [] ys le = none ys
  where
    none : (zs : List Item) → take zero zs ≡ take zero []
    none [] = refl
    none (z ∷ zs) = refl
take-within zero (x ∷ xs) ys le = refl
take-within (suc n) [] ys le = absurd (omega arith)
take-within (suc n) (x ∷ xs) ys le = ap (λ zs. x ∷ zs) (take-within n xs ys (omega arith))

drop-within : (n : ℕ) (xs ys : List Item) → n ≤ length xs → drop n (xs ++ ys) ≡ drop n xs ++ ys
drop-within zero [] ys le = none ys
  where
    none : (zs : List Item) → drop zero zs ≡ zs
    none [] = refl
    none (z ∷ zs) = refl
drop-within zero (x ∷ xs) ys le = refl
drop-within (suc n) [] ys le = absurd (omega arith)
drop-within (suc n) (x ∷ xs) ys le = drop-within n xs ys (omega arith)

both-parts : (n : ℕ) (xs : List Item) → take n xs ++ drop n xs ≡ xs
both-parts zero [] = refl
both-parts zero (x ∷ xs) = refl
both-parts (suc n) [] = refl
both-parts (suc n) (x ∷ xs) = ap (λ zs. x ∷ zs) (both-parts n xs)

rest-length : (n : ℕ) (xs : List Item) → n ≤ length xs → n + length (drop n xs) ≡ length xs
rest-length zero [] le = refl
rest-length zero (x ∷ xs) le = omega arith
rest-length (suc n) [] le = absurd (omega arith)
rest-length (suc n) (x ∷ xs) le = let more = rest-length n xs (omega arith) in omega (arith, more)

take-all : (xs : List Item) → take (length xs) xs ≡ xs
take-all [] = refl
take-all (x ∷ xs) = ap (λ zs. x ∷ zs) (take-all xs)

drop-all : (xs : List Item) → drop (length xs) xs ≡ []
drop-all [] = refl
drop-all (x ∷ xs) = drop-all xs

module _ (core : Core) (class : ℕ → ℕ) (ticks steps workers : ℕ) where
  -- ---- after those that are followed

  -- what goes on hasn't ended
  goes-not-over : (now : Next) (state : State) → now ≡ Goes state → IsSome (ending_of now) → ⊥
  goes-not-over now state is some = true≢false (sym (subst (λ n. IsSome (ending_of n)) is some))

  first : (cut : Bool) (now : Next) (made : ℕ) (state : State) (item : Item) (tail : List Item) (more : List Stretch)
      → now ≡ Goes state → AreStretches core class ticks steps workers cut (Goes state) (made + 0) (item ∷ tail) more
      → AreStretches core class ticks steps workers cut now made (item ∷ tail) more
  first cut now made state item tail more leads last =
      subst (λ n. AreStretches core class ticks steps workers cut n made (item ∷ tail) more) (sym leads)
      (subst (λ m. AreStretches core class ticks steps workers cut (Goes state) m (item ∷ tail) more) (omega arith) last)

  then-lacking : (cut : Bool) (before : List Item) (now : Next) (made : ℕ) (state : State) (item : Item) (tail : List Item) (more : List Stretch)
      → LackStretches core class ticks steps workers false now made before → run_from core ticks now before ≡ Goes state
      → AreStretches core class ticks steps workers cut (Goes state) (made + length before) (item ∷ tail) more
      → AreStretches core class ticks steps workers cut now made (before ++ item ∷ tail) more
  then-lacking cut [] now made state item tail more lack leads last = first cut now made state item tail more leads last
  then-lacking cut (b ∷ bs) now made state item tail [] (plain, inl full, rest) leads last = (
    plain,
    inl full,
    then-lacking cut bs (run_from core ticks now (b ∷ [])) (made + 1) state item tail [] rest (sym (run-append core ticks now (b ∷ []) bs) ∙ leads)
        (subst (λ m. AreStretches core class ticks steps workers cut (Goes state) m (item ∷ tail) []) (omega arith) last),
  )
  then-lacking cut (b ∷ bs) now made state item tail (m ∷ ms) (plain, inl full, rest) leads last = absurd (let room = last.3 in omega (arith, full, room))
  then-lacking cut (b ∷ bs) now made state item tail more (plain, inr (none, inl ends), rest) leads last =
      absurd (goes-not-over (run_from core ticks now (b ∷ [])) state (ap (λ rest. run_from core ticks now (b ∷ rest)) (sym none) ∙ leads) ends)
  then-lacking cut (b ∷ bs) now made state item tail more (plain, inr (none, inr off), rest) leads last = absurd (true≢false (sym off))

  then : (cut : Bool) (before : List Item) (stretches : List Stretch) (now : Next) (made : ℕ) (state : State) (item : Item) (tail : List Item) (more : List Stretch)
      → AreStretches core class ticks steps workers false now made before stretches → run_from core ticks now before ≡ Goes state
      → AreStretches core class ticks steps workers cut (Goes state) (made + length before) (item ∷ tail) more
      → AreStretches core class ticks steps workers cut now made (before ++ item ∷ tail) (stretches ++ more)
  then cut before [] now made state item tail more are leads last = then-lacking cut before now made state item tail more are leads last
  then cut [] (s ∷ ss) now made state item tail more are leads last = absurd are
  then cut (b ∷ bs) (s ∷ ss) now made state item tail more are leads last = (
    are.0,
    are.1,
    (let within = are.2 in omega (arith, within, length-append bs (item ∷ tail))),
    are.3,
    subst (IsStretchFrom core class ticks steps workers (run_from core ticks now (b ∷ []))) (sym (take-within s.count bs (item ∷ tail) are.2)) are.4,
    subst (λ is. AreStretches core class ticks steps workers cut (run_from core ticks now (b ∷ is)) (made + 1 + s.count) (drop s.count (bs ++ item ∷ tail)) (ss ++ more)) (sym (take-within s.count bs (item ∷ tail) are.2))
        (subst (λ is. AreStretches core class ticks steps workers cut (run_from core ticks now (b ∷ take s.count bs)) (made + 1 + s.count) is (ss ++ more)) (sym (drop-within s.count bs (item ∷ tail) are.2))
        (then cut (drop s.count bs) ss (run_from core ticks now (b ∷ take s.count bs)) (made + 1 + s.count) state item tail more are.5
        (sym (run-append core ticks now (b ∷ take s.count bs) (drop s.count bs)) ∙ ap (λ is. run_from core ticks now (b ∷ is)) (both-parts s.count bs) ∙ leads)
        (subst (λ m. AreStretches core class ticks steps workers cut (Goes state) m (item ∷ tail) more) (let rest = rest-length s.count bs are.2 in omega (arith, rest)) last))),
  )

  module _ (items : List Item) (stretches : List Stretch) (now : Next) (state : State) (are : AreStretches core class ticks steps workers false now 0 items stretches) (leads : run_from core ticks now items ≡ Goes state) (item : Item) (plain : TakesNoTime item) where
    -- one more, and the run was cut off there
    pub followed-cut : AreStretches core class ticks steps workers true now 0 (items ++ item ∷ []) stretches
    followed-cut = subst (AreStretches core class ticks steps workers true now 0 (items ++ item ∷ [])) (append-nil stretches)
        (then true items stretches now 0 state item [] [] are leads (plain, inr (refl, inr refl), tt))

    -- or there is no room after it
    pub followed-full : steps < length items + 1 + workers → (cut : Bool) → AreStretches core class ticks steps workers cut now 0 (items ++ item ∷ []) stretches
    followed-full full cut = subst (AreStretches core class ticks steps workers cut now 0 (items ++ item ∷ [])) (append-nil stretches)
        (then cut items stretches now 0 state item [] [] are leads (plain, inl (omega (arith, full)), tt))

    -- or it ends the run
    pub followed-end : IsSome (ending_of (run_from core ticks (Goes state) (item ∷ []))) → (cut : Bool) → AreStretches core class ticks steps workers cut now 0 (items ++ item ∷ []) stretches
    followed-end ends cut = subst (AreStretches core class ticks steps workers cut now 0 (items ++ item ∷ [])) (append-nil stretches)
        (then cut items stretches now 0 state item [] [] are leads (plain, inr (refl, inl ends), tt))

    -- or its stretch comes
    pub followed-on : (tail : List Item) (stretch : Stretch) → stretch.from ≡ length items + 1 → stretch.count ≡ length tail → length items + 1 + workers ≤ steps
        → IsStretchFrom core class ticks steps workers (run_from core ticks (Goes state) (item ∷ [])) tail → (cut : Bool)
        → AreStretches core class ticks steps workers cut now 0 (items ++ item ∷ tail) (stretches ++ stretch ∷ [])
    followed-on tail stretch from count room is cut =
        then cut items stretches now 0 state item tail (stretch ∷ []) are leads (
          plain,
          omega (arith, from),
          omega (arith, count),
          omega (arith, room),
          subst (IsStretchFrom core class ticks steps workers (run_from core ticks (Goes state) (item ∷ []))) (sym (ap (λ n. take n tail) count ∙ take-all tail)) is,
          subst (λ is. AreStretches core class ticks steps workers cut (run_from core ticks (Goes state) (item ∷ take stretch.count tail)) (0 + length items + 1 + stretch.count) is []) (sym (ap (λ n. drop n tail) count ∙ drop-all tail)) tt,
        )
