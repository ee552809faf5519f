-- Who lives in a part.
use Rattle.std.proofs.Common.{◌≡◌, ℕ, ◌==◌, ◌||◌, Bool, true, false, not, List, [], ◌∷◌, ◌++◌, Some, refl, ap, sym, ◌∙◌, cond, eqb-true}
use Rattle.std.proofs.lemmas.List.Elements.{filter-append}
use Rattle.std.specs.List.{list_any}
use Rattle.std.specs.Prelude.{filter, is_some}
use Rattle.sr_ask.specs.declared.start.Start.{Start}
use Rattle.sr_processes.specs.Living.{is_among, is_process, start_of, without_process}
use Rattle.sr_shard.specs.Presents.{live_in}

append_more : (xs ys : List Start) (z : Start) → xs ++ (ys ++ z ∷ []) ≡ (xs ++ ys) ++ z ∷ []
append_more [] ys z = refl
append_more (x ∷ xs) ys z = ap (λ (l : List Start). x ∷ l) (append_more xs ys z)

filter_either : (f g : Start → Bool) (xs : List Start) → filter (λ x. not (f x || g x)) xs ≡ filter (λ x. not (f x)) (filter (λ x. not (g x)) xs)
filter_either f g [] = refl
filter_either f g (x ∷ xs) = by (f x) refl (g x) (filter_either f g xs)
  where
    by : (a : Bool) → f x ≡ a → (b : Bool) → filter (λ y. not (f y || g y)) xs ≡ filter (λ y. not (f y)) (filter (λ y. not (g y)) xs)
        → cond (not (a || b)) (x ∷ filter (λ y. not (f y || g y)) xs) (filter (λ y. not (f y || g y)) xs)
        ≡ filter (λ y. not (f y)) (cond (not b) (x ∷ filter (λ y. not (g y)) xs) (filter (λ y. not (g y)) xs))
    by true is true more = more
    by true is false more = more ∙ sym (ap (λ c. cond (not c) (x ∷ filter (λ y. not (f y)) (filter (λ y. not (g y)) xs)) (filter (λ y. not (f y)) (filter (λ y. not (g y)) xs))) is)
    by false is true more = more
    by false is false more =
        ap (λ (l : List Start). x ∷ l) more
        ∙ sym (ap (λ c. cond (not c) (x ∷ filter (λ y. not (f y)) (filter (λ y. not (g y)) xs)) (filter (λ y. not (f y)) (filter (λ y. not (g y)) xs))) is)

module _ (opened : List Start) where
  pub live_begun : (ended : List ℕ) (born : List Start) (start : Start) → live_in opened ended (born ++ start ∷ []) ≡ live_in opened ended born ++ start ∷ []
  live_begun ended born start = append_more (filter (λ s. not (is_among ended s)) opened) born start

  pub live_ended : (ended : List ℕ) (born : List Start) (p : ℕ) → live_in opened (p ∷ ended) (without_process born p) ≡ without_process (live_in opened ended born) p
  live_ended ended born p =
      ap (λ (l : List Start). l ++ without_process born p) (filter_either (is_process p) (is_among ended) opened)
      ∙ sym (filter-append (λ s. not (is_process p s)) (filter (λ s. not (is_among ended s)) opened) born)

  -- a process lives in the part if it has begun there, or lived there and hasn't ended
  found_either : (p : ℕ) (xs ys : List Start) → is_some (start_of (xs ++ ys) p) ≡ (is_some (start_of xs p) || is_some (start_of ys p))
  found_either p [] ys = refl
  found_either p (x ∷ xs) ys = by (is_process p x) (found_either p xs ys)
    where
      by : (b : Bool) → is_some (start_of (xs ++ ys) p) ≡ (is_some (start_of xs p) || is_some (start_of ys p))
          → is_some (cond b (Some x) (start_of (xs ++ ys) p)) ≡ (is_some (cond b (Some x) (start_of xs p)) || is_some (start_of ys p))
      by true more = refl
      by false more = more

  left_over : (ended : List ℕ) (p : ℕ) (xs : List Start) → is_some (start_of (filter (λ s. not (is_among ended s)) xs) p) ≡ cond (list_any (λ n. n == p) ended) false (is_some (start_of xs p))
  left_over ended p [] = by (list_any (λ n. n == p) ended)
    where
      by : (b : Bool) → false ≡ cond b false false
      by true = refl
      by false = refl
  left_over ended p (x ∷ xs) = by (is_process p x) refl (is_among ended x) refl (left_over ended p xs)
    where
      by : (a : Bool) → is_process p x ≡ a → (b : Bool) → is_among ended x ≡ b
          → is_some (start_of (filter (λ s. not (is_among ended s)) xs) p) ≡ cond (list_any (λ n. n == p) ended) false (is_some (start_of xs p))
          → is_some (start_of (cond (not b) (x ∷ filter (λ s. not (is_among ended s)) xs) (filter (λ s. not (is_among ended s)) xs)) p)
          ≡ cond (list_any (λ n. n == p) ended) false (is_some (cond a (Some x) (start_of xs p)))
      by true it true gone more =
          let same : list_any (λ n. n == p) ended ≡ true = ap (λ q. list_any (λ n. n == q) ended) (eqb-true p x.process it) ∙ gone in
          more ∙ ap (λ c. cond c false (is_some (start_of xs p))) same ∙ sym (ap (λ c. cond c false true) same)
      by true it false there more =
          let same : list_any (λ n. n == p) ended ≡ false = ap (λ q. list_any (λ n. n == q) ended) (eqb-true p x.process it) ∙ there in
          ap (λ c. is_some (cond c (Some x) (start_of (filter (λ s. not (is_among ended s)) xs) p))) it ∙ sym (ap (λ c. cond c false true) same)
      by false it true gone more = more
      by false it false there more = ap (λ c. is_some (cond c (Some x) (start_of (filter (λ s. not (is_among ended s)) xs) p))) it ∙ more

  pub lives_either : (ended : List ℕ) (born : List Start) (p : ℕ) → is_some (start_of (live_in opened ended born) p) ≡ (cond (list_any (λ n. n == p) ended) false (is_some (start_of opened p)) || is_some (start_of born p))
  lives_either ended born p = found_either p (filter (λ s. not (is_among ended s)) opened) born ∙ ap (λ b. b || is_some (start_of born p)) (left_over ended p opened)
