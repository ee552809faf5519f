-- Lists whose items stand after separators.
use Rattle.std.proofs.Common.{sym, subst, ℕ, Bool, List, [], ◌∷◌, ◌++◌, append_assoc}
use Rattle.sr_reader.specs.Reader.{Reader, returned, ◌>>=◌, while}
use Rattle.sr_reader.proofs.Soundness.{Sound, Then, joined, Returns, anywhere, returned-sound, weaker, then-sound, append-nil}
use Rattle.sr_reader.proofs.Loops.{while-sound}
use Rattle.sr_tree.specs.declared.token.Token.{Token}
use Rattle.sr_expr_reader.proofs.TokensSound.{into}

-- more items after those so far
pub data Grows {A : Type 0} (More : List A → List Token → Type 0) (xs : List A) : List A → List Token → Type 0 where
  grows : {bs : List A} {u : List Token} → More bs u → Grows More xs (xs ++ bs) u

module _ {A S : Type 0} (Lead : S → List Token → Type 0) (P : A → List Token → Type 0) (More : List A → List Token → Type 0) where
  -- one more item
  data Adds (xs : List A) : List A → List Token → Type 0 where
    adds : {a : A} {u : List Token} → Then Lead (λ s. P) a u → Adds xs (xs ++ a ∷ []) u

  no_more : More [] [] → (xs : List A) → Grows More xs xs []
  no_more nil xs = subst (λ x. Grows More xs x []) (append-nil xs) (grows nil)

  goes_on : ((a : A) (bs : List A) (u v : List Token) → Then Lead (λ s. P) a u → More bs v → More (a ∷ bs) (u ++ v))
      → (xs bs cs : List A) (u v : List Token) → Adds xs bs u → Grows More bs cs v → Grows More xs cs (u ++ v)
  goes_on cons xs bs cs u v (adds {a = a} d) (grows {bs = ds} m) =
      subst (λ x. Grows More xs x (u ++ v)) (sym (append_assoc xs (a ∷ []) ds)) (grows (cons a ds u v d m))

  added : (xs bs : List A) (u : List Token) → Then Lead (λ s. Then P (λ a. Returns (xs ++ a ∷ []))) bs u → Adds xs bs u
  added xs bs w (joined {u = u} l (joined {a = a} {u = v} d end)) =
      into (λ y z. Adds xs y (u ++ (v ++ z))) (xs ++ a ∷ []) bs _ end
      (subst (λ x. Adds xs (xs ++ a ∷ []) (u ++ x)) (sym (append-nil v)) (adds (joined l d)))

  pub list-sound : (lead : Reader Token S) (item : Reader Token A) (test : List A → Token → Bool)
      → More [] [] → ((a : A) (bs : List A) (u v : List Token) → Then Lead (λ s. P) a u → More bs v → More (a ∷ bs) (u ++ v))
      → Sound Lead lead → Sound P item → (n : ℕ) (xs : List A)
      → Sound (Grows More xs) (while test (λ es. lead >>= λ s. item >>= λ e. returned (es ++ e ∷ [])) n xs)
  list-sound lead item test nil cons l i n xs =
      while-sound test (λ es. lead >>= λ s. item >>= λ e. returned (es ++ e ∷ [])) Adds (Grows More) (no_more nil) (goes_on cons)
      (λ es. anywhere (test es) (weaker (added es) (then-sound l (λ s. then-sound i (λ e. returned-sound (es ++ e ∷ [])))))) n xs
