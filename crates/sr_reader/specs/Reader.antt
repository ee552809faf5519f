-- Readers: what a parser reads from the front of a list of symbols.
use Rattle.std.specs.Prelude.{ℕ, zero, suc, Bool, false, List, [], ◌∷◌, length, Option, Some, None, Result, Ok, Err, if◌then◌else◌}

-- what is read and what stands after it, or how many symbols are left where nothing fits
abbrev pub Reader : Type 0 → Type 0 → Type 0
Reader T A = List T → Result (A × List T) ℕ

-- nothing is read
abbrev pub returned : {T A : Type 0} → A → Reader T A
returned a s = Ok (a, s)

-- nothing fits
abbrev pub unfit : {T A : Type 0} → Reader T A
unfit s = Err (length s)

abbrev pub continued : {T A B : Type 0} → Result (A × List T) ℕ → (A → Reader T B) → Result (B × List T) ℕ
continued (Ok x) f = f x.0 x.1
continued (Err left) f = Err left

-- one after the other
infixl 10 ◌>>=◌
abbrev pub ◌>>=◌ : {T A B : Type 0} → Reader T A → (A → Reader T B) → Reader T B
r >>= f = λ s. continued (r s) f

abbrev pub given : {T A : Type 0} → Option A → List T → ℕ → Result (A × List T) ℕ
given (Some a) s left = Ok (a, s)
given None s left = Err left

-- one symbol that stands for something
abbrev pub one : {T A : Type 0} → (T → Option A) → Reader T A
one meaning [] = Err 0
one meaning (t ∷ s) = given (meaning t) s (length (t ∷ s))

-- whether the next symbol passes a test
abbrev pub next_is : {T : Type 0} → (T → Bool) → List T → Bool
next_is test [] = false
next_is test (t ∷ s) = test t

-- one of two, by the next symbol
abbrev pub branch : {T A : Type 0} → (T → Bool) → Reader T A → Reader T A → Reader T A
branch test met unmet = λ s. if next_is test s then met s else unmet s

-- a step, as often as a test of the next symbol holds; the number bounds how often
abbrev pub while : {T A : Type 0} → (A → T → Bool) → (A → Reader T A) → ℕ → A → Reader T A
while test step zero a = returned a
while test step (suc n) a = branch (test a) (step a >>= while test step n) (returned a)
