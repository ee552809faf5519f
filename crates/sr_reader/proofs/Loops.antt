-- Loops of readers.
use Rattle.std.proofs.Common.{◌≡◌, refl, ◌∙◌, ap, ℕ, zero, suc, ◌<◌, ◌≤◌, Bool, true, false, cond, List, [], ◌∷◌, ◌++◌, length, Ok, Err, arith}
use Rattle.sr_reader.specs.Reader.{Reader, returned, continued, ◌>>=◌, next_is, while}
use Rattle.sr_reader.proofs.Soundness.{Sound, SoundWhere, Then, joined, Returns, returns, returned-sound, weaker, weaker-where, then-where, branch-where}

-- if each step is local, so is the loop
pub while-sound : {T A : Type 0} (test : A → T → Bool) (step : A → Reader T A) (Q P : A → A → List T → Type 0)
    → ((a : A) → P a a []) → ((a b c : A) (u v : List T) → Q a b u → P b c v → P a c (u ++ v))
    → ((a : A) → SoundWhere (test a) (Q a) (step a)) → (n : ℕ) (a : A) → Sound (P a) (while test step n a)
while-sound {T = T} test step Q P none more local zero a = weaker (ended a) (returned-sound a)
  where
    ended : (a b : _) (u : List T) → Returns a b u → P a b u
    ended a b u returns = none a
while-sound {T = T} test step Q P none more local (suc n) a =
    branch-where (weaker-where (onward a) (then-where (local a) (while-sound test step Q P none more local n))) (weaker (ended a) (returned-sound a))
  where
    ended : (a b : _) (u : List T) → Returns a b u → P a b u
    ended a b u returns = none a

    onward : (a c : _) (w : List T) → Then (Q a) P c w → P a c w
    onward a c w (joined {a = b} {u = u} {v = v} q p) = more a b c u v q p

module _ {T A : Type 0} (test : A → T → Bool) (step : A → Reader T A) where
  -- where the test fails, the loop ends
  pub while-stop : (n : ℕ) (a : A) (s : List T) → next_is (test a) s ≡ false → while test step n a s ≡ Ok (a, s)
  while-stop zero a s e = refl
  while-stop (suc n) a s e = ap (λ b. cond b ((step a >>= while test step n) s) (returned a s)) e

  -- where the step fails, the loop does
  pub while-fail : (n : ℕ) (a : A) (s : List T) (left : ℕ) → length s ≤ n → next_is (test a) s ≡ true → step a s ≡ Err left → while test step n a s ≡ Err left
  while-fail n a [] left h e f = cc
  while-fail zero a (t ∷ s) left h e f = absurd (omega arith)
  while-fail (suc n) a (t ∷ s) left h e f = ap (λ b. cond b ((step a >>= while test step n) (t ∷ s)) (returned a (t ∷ s))) e ∙ ap (λ x. continued x (while test step n)) f

  -- otherwise it goes on after the step
  pub while-go : (n : ℕ) (a b : A) (s q : List T) → length s ≤ n → next_is (test a) s ≡ true → step a s ≡ Ok (b, q) → length q < length s
      → (m : ℕ) × (length q ≤ m) × (while test step n a s ≡ while test step m b q)
  while-go n a b [] q h e f l = cc
  while-go zero a b (t ∷ s) q h e f l = absurd (omega arith)
  while-go (suc n) a b (t ∷ s) q h e f l =
      (n, omega arith, ap (λ x. cond x ((step a >>= while test step n) (t ∷ s)) (returned a (t ∷ s))) e ∙ ap (λ x. continued x (while test step n)) f)
