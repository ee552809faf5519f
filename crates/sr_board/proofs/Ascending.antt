-- Entries whose stamps ascend.
use Rattle.std.proofs.Common.{◌≡◌, ℕ, ◌<◌, ◌≤◌, Bool, true, false, List, [], ◌∷◌, ◌++◌, filter, get_or, sym, refl, subst, arith, eq-eqb, if◌then◌else◌, zero, suc}
use Rattle.std.specs.Prelude.{All, AllPairs}
use Rattle.std.proofs.lemmas.List.Quantifiers.{all_pairs_push}
use Rattle.std.proofs.lemmas.List.Kept.{AllPairs-cons}
use Rattle.sr_board.specs.History.{SameNumber}
use Rattle.sr_board.specs.Rule.{Ascend, is_of}
use Rattle.sr_board.proofs.Lists.{by_cases_of, filter_away, filter_here}

module _ {E : Type 0} where
  -- an entry above all that the filter has
  pub ascend_more : (stamp : E → ℕ) (p : E → Bool) (es : List E) (e : E) → Ascend stamp (filter p es) → (p e ≡ true → All (λ f. stamp f < stamp e) (filter p es)) → Ascend stamp (filter p (es ++ e ∷ []))
  ascend_more stamp p es e old above = by_cases_of (p e) (Ascend stamp (filter p (es ++ e ∷ [])))
      (λ hits. subst (Ascend stamp) (sym (filter_here p es e hits)) (all_pairs_push (λ x y. stamp x < stamp y) (filter p es) e old (above hits)))
      (λ misses. subst (Ascend stamp) (sym (filter_away p es e misses)) old)

  pub all_below : (stamp : E → ℕ) (m n : ℕ) (es : List E) → m < n → All (λ e. stamp e ≤ m) es → All (λ e. stamp e < n) es
  all_below stamp m n es less low k d within = let l = low k d within in omega arith

  pub all_up_to : (stamp : E → ℕ) (m n : ℕ) (es : List E) → m < n → All (λ e. stamp e ≤ m) es → All (λ e. stamp e ≤ n) es
  all_up_to stamp m n es less low k d within = let l = low k d within in omega arith

  tail_ascends : (stamp : E → ℕ) (e : E) (es : List E) → Ascend stamp (e ∷ es) → Ascend stamp es
  tail_ascends stamp e es h i j d lt within = h (suc i) (suc j) d (omega arith) (omega arith)

  head_below : (stamp : E → ℕ) (e : E) (es : List E) → Ascend stamp (e ∷ es) → All (λ f. stamp e < stamp f) es
  head_below stamp e es h k d within = h zero (suc k) d (omega arith) (omega arith)

  rest_ascends : (stamp : E → ℕ) (p : E → Bool) (e : E) (es : List E) → Ascend stamp (filter p (e ∷ es)) → Ascend stamp (filter p es)
  rest_ascends stamp p e es h = by_cases_of (p e) (Ascend stamp (filter p es))
      (λ hits. tail_ascends stamp e (filter p es) (subst (λ b. Ascend stamp (if b then e ∷ filter p es else filter p es)) hits h))
      (λ misses. subst (λ b. Ascend stamp (if b then e ∷ filter p es else filter p es)) misses h)

  -- what holds of all that pass holds of each that passes
  all_passing : (P : E → Type 0) (p : E → Bool) (es : List E) → All P (filter p es) → All (λ e. p e ≡ true → P e) es
  all_passing P p [] h k d less hits = absurd (omega arith)
  all_passing P p (e ∷ es) h zero d less hits = first (subst (λ b. All P (if b then e ∷ filter p es else filter p es)) hits h)
    where
      first : All P (e ∷ filter p es) → P e
      first all = all zero d (omega arith)
  all_passing P p (e ∷ es) h (suc k) d less hits = all_passing P p es (later (p e) h) k d (omega arith) hits
    where
      later : (b : Bool) → All P (if b then e ∷ filter p es else filter p es) → All P (filter p es)
      later true all = λ i x less'. all (suc i) x (omega arith)
      later false all = all

  -- where the entries of each seat ascend, no two entries have one seat and one stamp
  pub numbers_differ : (seat stamp : E → ℕ) (es : List E) → ((who : ℕ) → Ascend stamp (filter (is_of seat who) es)) → AllPairs (λ e f. ¬ SameNumber seat stamp e f) es
  numbers_differ seat stamp [] h = λ i j d lt less. absurd (omega arith)
  numbers_differ seat stamp (e ∷ es) h = AllPairs-cons (λ x y. ¬ SameNumber seat stamp x y) e es head (numbers_differ seat stamp es (λ who. rest_ascends stamp (is_of seat who) e es (h who)))
    where
      first : Ascend stamp (e ∷ filter (is_of seat (seat e)) es)
      first = subst (λ b. Ascend stamp (if b then e ∷ filter (is_of seat (seat e)) es else filter (is_of seat (seat e)) es)) (eq-eqb (seat e) (seat e) refl) (h (seat e))

      head : All (λ f. ¬ SameNumber seat stamp e f) es
      head k d within same =
          let above = all_passing (λ f. stamp e < stamp f) (is_of seat (seat e)) es (head_below stamp e (filter (is_of seat (seat e)) es) first) k d within (eq-eqb (seat (get_or es k d)) (seat e) (sym same.0)) in
          let equal = same.1 in absurd (omega arith)
