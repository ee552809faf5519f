-- What the readers of a family answer alike for all bounds that suffice.
use Rattle.std.proofs.Common.{◌≡◌, refl, ◌∙◌, ap, ℕ, zero, suc, ◌<◌, ◌≤◌, Bool, true, false, List, [], ◌∷◌, ◌++◌, length, Result, Ok, ◌+◌, length-append, arith}
use Rattle.std.specs.Prelude.{if◌then◌else◌}
use Rattle.sr_reader.specs.Reader.{Reader, returned, continued, ◌>>=◌, next_is, branch, while}
use Rattle.sr_reader.proofs.Loops.{while-stop}
use Rattle.sr_tree.specs.declared.token.Token.{Token}

-- every bound that suffices gives this answer
pub record YieldsIn {R A : Type 0} (family : ℕ → R) (f : R → Reader Token A) (s : List Token) (z : Result (A × List Token) ℕ) : Type 0 where
  pub gives : (k : ℕ) → length s ≤ k → f (family k) s ≡ z

-- every bound beyond what suffices
pub record BelowIn {R A : Type 0} (family : ℕ → R) (f : R → Reader Token A) (s : List Token) (z : Result (A × List Token) ℕ) : Type 0 where
  pub gives : (k : ℕ) → length s < k → f (family k) s ≡ z

-- the same of a loop, whose own bound may be another
pub record LoopsIn {R A : Type 0} (family : ℕ → R) (test : A → Token → Bool) (step : R → A → Reader Token A) (a : A) (s : List Token)
    (z : Result (A × List Token) ℕ) : Type 0 where
  pub gives : (k n : ℕ) → length s ≤ k → length s ≤ n → while test (step (family k)) n a s ≡ z

pub after-length : (u q : List Token) → length q ≤ length (u ++ q)
after-length [] q = omega arith
after-length (t ∷ u) q = let h : length q ≤ length (u ++ q) = after-length u q in omega arith

module _ {R A : Type 0} {family : ℕ → R} (f : R → Reader Token A) (s : List Token) (z : Result (A × List Token) ℕ) where
  pub below : YieldsIn family f s z → BelowIn family f s z
  below y = record { gives = λ k h. y.gives k (omega (arith, h)) }

-- a token, and then what stands after it
pub token_then : {R A B : Type 0} {family : ℕ → R} (f : Reader Token A) (g : R → A → Reader Token B) (t : Token) (s : List Token) (a : A) (z : Result (B × List Token) ℕ)
    → f (t ∷ s) ≡ Ok (a, s) → BelowIn family (λ r. g r a) s z → YieldsIn family (λ r. f >>= g r) (t ∷ s) z
token_then {family = family} f g t s a z e b = record { gives = λ k h. ap (λ x. continued x (g (family k))) e ∙ b.gives k (omega (arith, h)) }

pub below_token : {R A B : Type 0} {family : ℕ → R} (f : Reader Token A) (g : R → A → Reader Token B) (t : Token) (s : List Token) (a : A) (z : Result (B × List Token) ℕ)
    → f (t ∷ s) ≡ Ok (a, s) → BelowIn family (λ r. g r a) s z → BelowIn family (λ r. f >>= g r) (t ∷ s) z
below_token f g t s a z e b = below (λ r. f >>= g r) (t ∷ s) z (token_then f g t s a z e b)

module _ {R A B : Type 0} {family : ℕ → R} (f : R → Reader Token A) (g : R → A → Reader Token B) where
  pub below_then : (u q : List Token) (a : A) (z : Result (B × List Token) ℕ)
      → BelowIn family f (u ++ q) (Ok (a, q)) → BelowIn family (λ r. g r a) q z → BelowIn family (λ r. f r >>= g r) (u ++ q) z
  below_then u q a z b c = record {
    gives = λ k h.
        let l : length q ≤ length (u ++ q) = after-length u q in
        ap (λ x. continued x (g (family k))) (b.gives k h) ∙ c.gives k (omega (arith, h, l));
  }

  pub yields_then : (u q : List Token) (a : A) (z : Result (B × List Token) ℕ)
      → YieldsIn family f (u ++ q) (Ok (a, q)) → YieldsIn family (λ r. g r a) q z → YieldsIn family (λ r. f r >>= g r) (u ++ q) z
  yields_then u q a z b c = record {
    gives = λ k h.
        let l : length q ≤ length (u ++ q) = after-length u q in
        ap (λ x. continued x (g (family k))) (b.gives k h) ∙ c.gives k (omega (arith, h, l));
  }

  -- after at least one token
  pub after_then : (u q : List Token) (a : A) (z : Result (B × List Token) ℕ) → 0 < length u
      → YieldsIn family f (u ++ q) (Ok (a, q)) → BelowIn family (λ r. g r a) q z → YieldsIn family (λ r. f r >>= g r) (u ++ q) z
  after_then u q a z n b c = record {
    gives = λ k h.
        let l : length (u ++ q) ≡ length u + length q = length-append u q in
        ap (λ x. continued x (g (family k))) (b.gives k h) ∙ c.gives k (omega (arith, h, l, n));
  }

  -- where the list is another way to write one
  pub below_seq : (s u q : List Token) (a : A) (z : Result (B × List Token) ℕ)
      → s ≡ u ++ q → BelowIn family f s (Ok (a, q)) → BelowIn family (λ r. g r a) q z → BelowIn family (λ r. f r >>= g r) s z
  below_seq s u q a z e b c = record {
    gives = λ k h.
        let l : length q ≤ length (u ++ q) = after-length u q in
        let m : length s ≡ length (u ++ q) = ap length e in
        ap (λ x. continued x (g (family k))) (b.gives k h) ∙ c.gives k (omega (arith, h, l, m));
  }

module _ {R A : Type 0} {family : ℕ → R} (a : A) (s : List Token) where
  pub below_returned : BelowIn family (λ r. returned a) s (Ok (a, s))
  below_returned = record { gives = λ k h. refl }

  pub yields_returned : YieldsIn family (λ r. returned a) s (Ok (a, s))
  yields_returned = record { gives = λ k h. refl }

-- one of two
module _ {R A : Type 0} {family : ℕ → R} (test : Token → Bool) (met unmet : R → Reader Token A) (s : List Token) (z : Result (A × List Token) ℕ) where
  pub yields_met : next_is test s ≡ true → YieldsIn family met s z → YieldsIn family (λ r. branch test (met r) (unmet r)) s z
  yields_met e y = record { gives = λ k h. ap (λ b. if b then met (family k) s else unmet (family k) s) e ∙ y.gives k h }

  pub yields_unmet : next_is test s ≡ false → YieldsIn family unmet s z → YieldsIn family (λ r. branch test (met r) (unmet r)) s z
  yields_unmet e y = record { gives = λ k h. ap (λ b. if b then met (family k) s else unmet (family k) s) e ∙ y.gives k h }

  pub below_met : next_is test s ≡ true → BelowIn family met s z → BelowIn family (λ r. branch test (met r) (unmet r)) s z
  below_met e y = record { gives = λ k h. ap (λ b. if b then met (family k) s else unmet (family k) s) e ∙ y.gives k h }

  pub below_unmet : next_is test s ≡ false → BelowIn family unmet s z → BelowIn family (λ r. branch test (met r) (unmet r)) s z
  below_unmet e y = record { gives = λ k h. ap (λ b. if b then met (family k) s else unmet (family k) s) e ∙ y.gives k h }

-- loops

module _ {R A : Type 0} {family : ℕ → R} (test : A → Token → Bool) (step : R → A → Reader Token A) where
  pub loop_stops : (a : A) (s : List Token) → next_is (test a) s ≡ false → LoopsIn family test step a s (Ok (a, s))
  loop_stops a s e = record { gives = λ k n h i. while-stop test (step (family k)) n a s e }

  pub loop_goes : (a b : A) (t : Token) (s u q : List Token) (z : Result (A × List Token) ℕ)
      → s ≡ u ++ q → test a t ≡ true → YieldsIn family (λ r. step r a) (t ∷ s) (Ok (b, q)) → LoopsIn family test step b q z → LoopsIn family test step a (t ∷ s) z
  loop_goes a b t s u q z e h y l = record { gives = at }
    where
      at : (k n : ℕ) → length (t ∷ s) ≤ k → length (t ∷ s) ≤ n → while test (step (family k)) n a (t ∷ s) ≡ z
      at k zero i j = absurd (omega (arith, j))
      at k (suc n) i j =
          let m : length q ≤ length (u ++ q) = after-length u q in
          let o : length s ≡ length (u ++ q) = ap length e in
          ap (λ x. if x then (step (family k) a >>= while test (step (family k)) n) (t ∷ s) else returned a (t ∷ s)) h
          ∙ ap (λ x. continued x (while test (step (family k)) n)) (y.gives k i)
          ∙ l.gives k n (omega (arith, i, m, o)) (omega (arith, j, m, o))

  -- a loop that is bounded by the bound of its readers
  pub loop_within : (steps : R → ℕ) → ((k : ℕ) → steps (family k) ≡ k) → (a : A) (s : List Token) (z : Result (A × List Token) ℕ)
      → LoopsIn family test step a s z → YieldsIn family (λ r. while test (step r) (steps r) a) s z
  loop_within steps same a s z l = record {
    gives = λ k h. ap (λ n. while test (step (family k)) n a s) (same k) ∙ l.gives k k h h;
  }

-- what a part of the readers gives
module _ {R S A : Type 0} {family : ℕ → R} {parts : ℕ → S} (part : R → S) (same : (k : ℕ) → part (family k) ≡ parts k)
    (f : S → Reader Token A) (s : List Token) (z : Result (A × List Token) ℕ) where
  pub yields_part : YieldsIn parts f s z → YieldsIn family (λ r. f (part r)) s z
  yields_part y = record { gives = λ k h. ap (λ r. f r s) (same k) ∙ y.gives k h }

  pub below_part : BelowIn parts f s z → BelowIn family (λ r. f (part r)) s z
  below_part y = record { gives = λ k h. ap (λ r. f r s) (same k) ∙ y.gives k h }
