-- So many values of one format, one after the other.
use Rattle.std.proofs.Common.{◌≡◌, refl, sym, ap, ℕ, zero, suc, List, [], ◌∷◌, ◌++◌, length, map, Ok, arith}
use Rattle.std.specs.List.{concat, AllByRecursion}
use Rattle.sr_journal.specs.Reading.{Reading, ◌>>=◌, many_at}
use Rattle.sr_journal.proofs.Formats.{Format, Judged, Left, ended, then}
use Rattle.sr_journal.proofs.Lists.{append-nil}

abbrev pub Many : {A : Type 0} → Format A → ℕ → Format (List A)
Many F k = record { Holds = λ xs. (length xs ≡ k) × AllByRecursion F.Holds xs; text = λ xs. concat (map F.text xs) }

module _ {A : Type 0} (F : Format A) (one : List ℕ → Reading A) (law : (s : List ℕ) → Judged F s (one s)) (any : A) (holds : F.Holds any) where
  abbrev first : List A → A
  first [] = any
  first (x ∷ xs) = x

  abbrev others : List A → List A
  others [] = []
  others (x ∷ xs) = xs

  abbrev rest-text : List A → List ℕ
  rest-text xs = concat (map F.text (others xs))

  abbrev nothing : List A → List ℕ
  nothing xs = []

  abbrev Holding : ℕ → List A → Type 0
  Holding k xs = (length xs ≡ k) × AllByRecursion F.Holds xs

  copies : (k : ℕ) → (xs : List A) × Holding k xs
  copies zero = ([], (refl, tt))
  copies (suc k) = let c = copies k in (any ∷ c.0, (ap suc c.1.0, (holds, c.1.1)))

  fits : (k : ℕ) (xs : List A) → Holding (suc k) xs → F.Holds (first xs)
  fits k [] h = let e : 0 ≡ suc k = h.0 in absurd (omega (arith, e))
  fits k (x ∷ xs) h = h.1.0

  fits-others : (k : ℕ) (xs : List A) → Holding (suc k) xs → Holding k (others xs)
  fits-others k [] h = let e : 0 ≡ suc k = h.0 in absurd (omega (arith, e))
  fits-others k (x ∷ xs) h = let e : suc (length xs) ≡ suc k = h.0 in (omega (arith, e), h.1.1)

  splits : (k : ℕ) (xs : List A) → Holding (suc k) xs → concat (map F.text xs) ≡ F.text (first xs) ++ rest-text xs
  splits k [] h = let e : 0 ≡ suc k = h.0 in absurd (omega (arith, e))
  splits k (x ∷ xs) h = refl

  same : (k : ℕ) (a : A) (ys xs : List A) → Holding (suc k) xs → first xs ≡ a → others xs ≡ ys → xs ≡ a ∷ ys
  same k a ys [] h p q = let e : 0 ≡ suc k = h.0 in absurd (omega (arith, e))
  same k a ys (x ∷ xs) h p q = λ i. p i ∷ q i

  empty : (xs : List A) → length xs ≡ 0 → xs ≡ []
  empty [] e = refl
  empty (x ∷ xs) e = absurd (omega (arith, e))

  pub many-judged : (k : ℕ) (s : List ℕ) → Judged (Many F k) s (many_at one k s)
  unfolding many_at
  many-judged zero s = ended (Many F 0) [] s (refl, tt) refl (λ b h. empty b h.0)
  many-judged (suc k) s =
      then F (Many F (suc k)) first rest-text (fits k) (splits k) (λ a h. let c = copies k in (a ∷ c.0, (ap suc c.1.0, (h, c.1.1)), refl))
      s (one s) (law s) (λ x. many_at one k x.1 >>= λ y. Ok (x.0 ∷ y.0, y.1))
      (λ a rest h.
      then (Many F k) (Left (Many F (suc k)) first rest-text a) others nothing (λ xs g. fits-others k xs g.0) (λ xs g. sym (append-nil (rest-text xs)))
      (λ ys g. (a ∷ ys, ((ap suc g.0, (h, g.1)), refl), refl))
      rest (many_at one k rest) (many-judged k rest) (λ y. Ok (a ∷ y.0, y.1))
      (λ ys left g.
      ended (Left (Left (Many F (suc k)) first rest-text a) others nothing ys) (a ∷ ys) left (((ap suc g.0, (h, g.1)), refl), refl) refl
      (λ xs e. same k a ys xs e.0.0 e.0.1 e.1)))
