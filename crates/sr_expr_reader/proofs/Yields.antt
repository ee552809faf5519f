-- What the readers of expressions of all bounds that suffice answer alike.
use Rattle.std.proofs.Common.{◌≡◌, refl, ℕ, zero, suc, ◌<◌, Bool, List, length, Result, arith}
use Rattle.sr_reader.specs.Reader.{Reader, while}
use Rattle.sr_tree.specs.declared.token.Token.{Token}
use Rattle.sr_expr_reader.specs.Readers.{Readers, readers, operand_at, factor_at, primary_at}
use Rattle.sr_expr_reader.proofs.Families.{YieldsIn, BelowIn, LoopsIn, loop_within}

abbrev pub Yields : {A : Type 0} → (Readers → Reader Token A) → List Token → Result (A × List Token) ℕ → Type 0
Yields f s z = YieldsIn readers f s z

abbrev pub Below : {A : Type 0} → (Readers → Reader Token A) → List Token → Result (A × List Token) ℕ → Type 0
Below f s z = BelowIn readers f s z

abbrev pub Loops : {A : Type 0} → (A → Token → Bool) → (Readers → A → Reader Token A) → A → List Token → Result (A × List Token) ℕ → Type 0
Loops test step a s z = LoopsIn readers test step a s z

pub below-operand : (limit : ℕ) (s : List Token) (z : _) → Yields (λ r. operand_at r limit) s z → Below (λ r. r.operand limit) s z
unfolding readers
below-operand limit s z y = record { gives = at }
  where
    at : (k : ℕ) → length s < k → (readers k).operand limit s ≡ z
    at zero h = absurd (omega (arith, h))
    at (suc k) h = y.gives k (omega (arith, h))

pub below-factor : (s : List Token) (z : _) → Yields factor_at s z → Below (λ r. r.factor) s z
unfolding readers
below-factor s z y = record { gives = at }
  where
    at : (k : ℕ) → length s < k → (readers k).factor s ≡ z
    at zero h = absurd (omega (arith, h))
    at (suc k) h = y.gives k (omega (arith, h))

pub below-primary : (s : List Token) (z : _) → Yields primary_at s z → Below (λ r. r.primary) s z
unfolding readers
below-primary s z y = record { gives = at }
  where
    at : (k : ℕ) → length s < k → (readers k).primary s ≡ z
    at zero h = absurd (omega (arith, h))
    at (suc k) h = y.gives k (omega (arith, h))

pub steps-readers : (k : ℕ) → (readers k).steps ≡ k
unfolding readers
steps-readers zero = refl
steps-readers (suc k) = refl

pub loop_yields : {A : Type 0} (test : A → Token → Bool) (step : Readers → A → Reader Token A) (a : A) (s : List Token) (z : Result (A × List Token) ℕ)
    → Loops test step a s z → Yields (λ r. while test (step r) r.steps a) s z
loop_yields test step a s z l = loop_within test step (λ r. r.steps) steps-readers a s z l
