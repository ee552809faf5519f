-- How far the input was looked at: the first token, as far as it has come.
use Rattle.std.proofs.Common.{◌≡◌, ℕ, zero, suc, ◌+◌, ◌-◌, ◌<◌, ◌≤◌, ◌==◌, Bool, true, false, not, cond, List, [], ◌∷◌, ◌++◌, length, drop, take, refl, ap, sym, ◌∙◌, subst, arith, eqb-true}
use Rattle.std.proofs.Math.Nat.{max-eq_left, max-eq_right}
use Rattle.std.proofs.lemmas.Bool.{eqb-false, ltb-false, ltb-true}
use Rattle.std.proofs.lemmas.List.{drop-append-le, drop-drop, drop_all, length-append, length-drop}
use Rattle.std.proofs.lemmas.List.Sums.{take_while-cons}
use Rattle.std.specs.Prelude.{◌&&◌, max, nat_lt, take_while, if◌then◌else◌}
use Rattle.sr_world.specs.Inputs.{after_token, blanks_in, is_blank, is_part, some_are, token_in, without_blanks}
use Rattle.sr_world.specs.Parts.{HasPassed, HasToken, begins_at, ends_at}

-- how many elements stand before the first that fails
abbrev run : {A : Type 0} → (A → Bool) → List A → ℕ
run p xs = length (take_while p xs)

module _ {A : Type 0} (p : A → Bool) where
  run-true : (x : A) (xs : List A) → p x ≡ true → run p (x ∷ xs) ≡ suc (run p xs)
  run-true x xs is = ap length (take_while-cons p x xs) ∙ ap (λ b. length (cond b (x ∷ take_while p xs) [])) is

  run-false : (x : A) (xs : List A) → p x ≡ false → run p (x ∷ xs) ≡ 0
  run-false x xs is = ap length (take_while-cons p x xs) ∙ ap (λ b. length (cond b (x ∷ take_while p xs) [])) is

  -- what passes at the front goes on after some of it
  run-after : (n : ℕ) (xs : List A) → n ≤ run p xs → run p xs ≡ n + run p (drop n xs)
  run-after zero xs few = omega arith
  run-after (suc n) [] few = absurd (omega (arith, few))
  run-after (suc n) (x ∷ xs) few = by (p x) refl (run-after n xs)
    where
      by : (b : Bool) → p x ≡ b → (n ≤ run p xs → run p xs ≡ n + run p (drop n xs)) → run p (x ∷ xs) ≡ suc n + run p (drop n xs)
      by true is more = let one = run-true x xs is in let rest = more (omega (arith, one, few)) in omega (arith, one, rest)
      by false is more = let none = run-false x xs is in absurd (omega (arith, none, few))

  run-within : (xs : List A) → run p xs ≤ length xs
  run-within [] = omega arith
  run-within (x ∷ xs) = by (p x) refl (run-within xs)
    where
      by : (b : Bool) → p x ≡ b → run p xs ≤ length xs → run p (x ∷ xs) ≤ suc (length xs)
      by true is rest = let one = run-true x xs is in omega (arith, one, rest)
      by false is rest = let none = run-false x xs is in omega (arith, none)

  -- with more after it, no less passes
  run-grows : (xs ys : List A) → run p xs ≤ run p (xs ++ ys)
  run-grows [] ys = omega arith
  run-grows (x ∷ xs) ys = by (p x) refl (run-grows xs ys)
    where
      by : (b : Bool) → p x ≡ b → run p xs ≤ run p (xs ++ ys) → run p (x ∷ xs) ≤ run p (x ∷ (xs ++ ys))
      by true is rest = let one = run-true x xs is in let other = run-true x (xs ++ ys) is in omega (arith, one, other, rest)
      by false is rest = let none = run-false x xs is in omega (arith, none)

  pub taken : (xs : List A) → take (run p xs) xs ≡ take_while p xs
  taken [] = refl
  taken (x ∷ xs) = by (p x) (taken xs)
      ∙ sym (take_while-cons p x xs)
    where
      at : (b : Bool) → p x ≡ b → take (run p xs) xs ≡ take_while p xs → take (length (cond b (x ∷ take_while p xs) [])) (x ∷ xs) ≡ cond b (x ∷ take_while p xs) []
      at true is rest = ap (λ zs. x ∷ zs) rest
      at false is rest = refl

      by : (b : Bool) → take (run p xs) xs ≡ take_while p xs → take (run p (x ∷ xs)) (x ∷ xs) ≡ cond (p x) (x ∷ take_while p xs) []
      by b rest = ap (λ zs. take (length zs) (x ∷ xs)) (take_while-cons p x xs) ∙ at (p x) refl rest

-- a token has no blank at its front
no-blank : (bytes : List ℕ) → 0 < run is_part bytes → run is_blank bytes ≡ 0
no-blank [] some = absurd (omega (arith, some))
no-blank (b ∷ bs) some = by (is_blank b) refl
  where
    by : (blank : Bool) → is_blank b ≡ blank → run is_blank (b ∷ bs) ≡ 0
    by true is = let none = run-false is_part b bs (ap not is) in absurd (omega (arith, some, none))
    by false is = run-false is_blank b bs is

-- ---- what was passed over

module _ (bytes : List ℕ) (at token end : ℕ) (passed : HasPassed bytes at token end) where
  further : (p : ℕ → Bool) (from to : ℕ) → from ≤ to → to ≤ from + run p (drop from bytes) → run p (drop from bytes) ≡ (to - from) + run p (drop to bytes)
  further p from to order few =
      let there : drop (to - from) (drop from bytes) ≡ drop to bytes = drop-drop (to - from) from bytes ∙ ap (λ n. drop n bytes) {x = from + (to - from)} {y = to} (omega (arith, order)) in
      run-after p (to - from) (drop from bytes) (omega (arith, order, few)) ∙ ap (λ zs. (to - from) + run p zs) there

  blanks-more : run is_blank (drop at bytes) ≡ (token - at) + run is_blank (drop token bytes)
  blanks-more = further is_blank at token passed.begun passed.blanks

  part-more : run is_part (drop token bytes) ≡ (end - token) + run is_part (drop end bytes)
  part-more = further is_part token end passed.ended passed.parts

  in-bytes : (p : ℕ → Bool) (from : ℕ) → from ≤ length bytes → from + run p (drop from bytes) ≤ length bytes
  in-bytes p from order = let few = run-within p (drop from bytes) in let rest = length-drop from bytes in omega (arith, order, few, rest)

  abbrev begin : ℕ
  begin = begins_at bytes token end

  -- no byte of a token was seen
  all-blank : token ≡ end → HasToken bytes at (token + run is_blank (drop token bytes)) (ends_at bytes (token + run is_blank (drop token bytes)) end)
  all-blank same =
      let new : ℕ = token + run is_blank (drop token bytes) in
      let last : max new end ≡ new = max-eq_left (omega (arith, same)) in
      let ends : ends_at bytes new end ≡ new + run is_part (drop new bytes) = ap (λ n. n + run is_part (drop n bytes)) last in
      let few = in-bytes is_blank token (omega (arith, passed.ended, passed.within)) in
      let all = in-bytes is_part new few in
      record {
        begun = omega (arith, passed.begun);
        ended = omega (arith, ends);
        within = omega (arith, ends, all);
        begins = omega (arith, blanks-more, passed.begun);
        ends = ends;
      }

  some-part : token < end → HasToken bytes at token (ends_at bytes token end)
  some-part less =
      let last : max token end ≡ end = max-eq_right (omega (arith, less)) in
      let ends : ends_at bytes token end ≡ end + run is_part (drop end bytes) = ap (λ n. n + run is_part (drop n bytes)) last in
      let none = no-blank (drop token bytes) (omega (arith, less, part-more)) in
      let all = in-bytes is_part end passed.within in
      record {
        begun = passed.begun;
        ended = omega (arith, ends, less);
        within = omega (arith, ends, all);
        begins = omega (arith, blanks-more, none, passed.begun);
        ends = omega (arith, ends, part-more, less);
      }

  pub looked : HasToken bytes at (begins_at bytes token end) (ends_at bytes (begins_at bytes token end) end)
  looked = by (token == end) refl
    where
      by : (b : Bool) → (token == end) ≡ b
          → HasToken bytes at (if b then token + run is_blank (drop token bytes) else token) (ends_at bytes (if b then token + run is_blank (drop token bytes) else token) end)
      by true is = all-blank (eqb-true token end is)
      by false is = let apart = eqb-false token end is in some-part (omega (arith, apart, passed.ended))

module _ (bytes : List ℕ) (at token end : ℕ) (had : HasToken bytes at token end) where
  -- more bytes come
  still_passed : (more : List ℕ) → HasPassed (bytes ++ more) at token end
  still_passed more =
      let blanks : run is_blank (drop at bytes) ≤ run is_blank (drop at (bytes ++ more)) =
      subst (λ zs. run is_blank (drop at bytes) ≤ run is_blank zs) (sym (drop-append-le at bytes more (omega (arith, had.begun, had.ended, had.within)))) (run-grows is_blank (drop at bytes) more) in
      let parts : run is_part (drop token bytes) ≤ run is_part (drop token (bytes ++ more)) =
      subst (λ zs. run is_part (drop token bytes) ≤ run is_part zs) (sym (drop-append-le token bytes more (omega (arith, had.ended, had.within)))) (run-grows is_part (drop token bytes) more) in
      let long = length-append bytes more in
      record {
        begun = had.begun;
        ended = had.ended;
        within = omega (arith, had.within, long);
        blanks = omega (arith, had.begins, blanks);
        parts = omega (arith, had.ends, parts);
      }

  pub given : (more : List ℕ) → HasToken (bytes ++ more) at (begins_at (bytes ++ more) token end) (ends_at (bytes ++ more) (begins_at (bytes ++ more) token end) end)
  given more = looked (bytes ++ more) at token end (still_passed more)

  as-passed : HasPassed bytes at token end
  as-passed = record { begun = had.begun; ended = had.ended; within = had.within; blanks = omega (arith, had.begins); parts = omega (arith, had.ends) }

  -- bytes are read up to a place
  read_to : (to : ℕ) → at ≤ to → to ≤ length bytes → HasPassed bytes to (max token to) (max end to)
  read_to to onward within = by (nat_lt token to) refl (nat_lt end to) refl
    where
      by : (b : Bool) → nat_lt token to ≡ b → (c : Bool) → nat_lt end to ≡ c → HasPassed bytes to (max token to) (max end to)
      by false before c is =
          let early = ltb-false token to before in
          let first : max token to ≡ token = max-eq_left (omega (arith, early)) in
          let last : max end to ≡ end = max-eq_left (omega (arith, early, had.ended)) in
          let blanks = further bytes at token end as-passed is_blank at to onward (omega (arith, early, had.begins)) in
          subst (λ n. HasPassed bytes to n (max end to)) (sym first)
          (subst (λ n. HasPassed bytes to token n) (sym last)
          (record {
            begun = omega (arith, early);
            ended = had.ended;
            within = had.within;
            blanks = omega (arith, had.begins, blanks, onward);
            parts = omega (arith, had.ends);
          }))
      by true before false is =
          let late = ltb-true token to before in
          let early = ltb-false end to is in
          let first : max token to ≡ to = max-eq_right (omega (arith, late)) in
          let last : max end to ≡ end = max-eq_left (omega (arith, early)) in
          let parts = further bytes at token end as-passed is_part token to (omega (arith, late)) (omega (arith, early, had.ends)) in
          subst (λ n. HasPassed bytes to n (max end to)) (sym first)
          (subst (λ n. HasPassed bytes to to n) (sym last)
          (record {
            begun = omega arith;
            ended = omega (arith, early);
            within = had.within;
            blanks = omega arith;
            parts = omega (arith, had.ends, parts, late);
          }))
      by true before true is =
          let late = ltb-true token to before in
          let later = ltb-true end to is in
          let first : max token to ≡ to = max-eq_right (omega (arith, late)) in
          let last : max end to ≡ to = max-eq_right (omega (arith, later)) in
          subst (λ n. HasPassed bytes to n (max end to)) (sym first)
          (subst (λ n. HasPassed bytes to to n) (sym last)
          (record { begun = omega arith; ended = omega arith; within = within; blanks = omega arith; parts = omega arith }))

  pub read : (to : ℕ) → at ≤ to → to ≤ length bytes
      → HasToken bytes to (begins_at bytes (max token to) (max end to)) (ends_at bytes (begins_at bytes (max token to) (max end to)) (max end to))
  read to onward within = looked bytes to (max token to) (max end to) (read_to to onward within)

  pub given_as : (more whole : List ℕ) (begin last : ℕ) → whole ≡ bytes ++ more → begin ≡ begins_at whole token end → last ≡ ends_at whole begin end → HasToken whole at begin last
  given_as more whole begin last all begins ends =
      subst (λ n. HasToken whole at begin n) (sym ends)
      (subst (λ n. HasToken whole at n (ends_at whole n end)) (sym begins)
      (subst (λ zs. HasToken zs at (begins_at zs token end) (ends_at zs (begins_at zs token end) end)) (sym all) (given more)))

  pub read_as : (to from seen begin last : ℕ) → at ≤ to → to ≤ length bytes → from ≡ max token to → seen ≡ max end to → begin ≡ begins_at bytes from seen → last ≡ ends_at bytes begin seen
      → HasToken bytes to begin last
  read_as to from seen begin last onward within is_from is_seen begins ends =
      subst (λ n. HasToken bytes to begin n) (sym ends)
      (subst (λ n. HasToken bytes to n (ends_at bytes n seen)) (sym begins)
      (subst (λ n. HasToken bytes to (begins_at bytes from n) (ends_at bytes (begins_at bytes from n) n)) (sym is_seen)
      (subst (λ n. HasToken bytes to (begins_at bytes n (max end to)) (ends_at bytes (begins_at bytes n (max end to)) (max end to))) (sym is_from) (read to onward within))))

  -- ---- what a token says of the input

  start : without_blanks (drop at bytes) ≡ drop token bytes
  start = drop-drop (length (blanks_in (drop at bytes))) at bytes ∙ ap (λ n. drop n bytes) (sym had.begins)

  token-is : token_in (drop at bytes) ≡ take_while is_part (drop token bytes)
  token-is = ap (take_while is_part) start

  after-is : after_token (drop at bytes) ≡ drop end bytes
  after-is =
      (λ i. drop (length (token-is i)) (start i)) ∙ drop-drop (run is_part (drop token bytes)) token bytes ∙ ap (λ n. drop n bytes) (sym had.ends)

  some-of : (xs : List ℕ) → 0 < length xs → some_are xs ≡ true
  some-of [] some = absurd (omega (arith, some))
  some-of (x ∷ xs) some = refl

  some-after : (n : ℕ) (xs : List ℕ) → some_are (drop n xs) ≡ nat_lt n (length xs)
  some-after n xs = by (nat_lt n (length xs)) refl
    where
      by : (b : Bool) → nat_lt n (length xs) ≡ b → some_are (drop n xs) ≡ b
      by true is = let less = ltb-true n (length xs) is in let rest = length-drop n xs in some-of (drop n xs) (omega (arith, less, rest))
      by false is = ap some_are (drop_all n xs (ltb-false n (length xs) is))

  pub whole : token < end → nat_lt end (length bytes) ≡ (some_are (token_in (drop at bytes)) && some_are (after_token (drop at bytes)))
  whole some =
      let long : length (token_in (drop at bytes)) ≡ run is_part (drop token bytes) = ap length token-is in
      sym
      (ap (λ b. b && some_are (after_token (drop at bytes))) (some-of (token_in (drop at bytes)) (omega (arith, long, had.ends, some)))
      ∙ ap some_are after-is ∙ some-after end bytes)
