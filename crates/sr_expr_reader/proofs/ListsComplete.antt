-- Lists whose items stand after separators are read whole.
use Rattle.std.proofs.Common.{◌≡◌, refl, sym, subst, ℕ, Bool, true, false, List, [], ◌∷◌, ◌++◌, Ok, append_assoc}
use Rattle.sr_reader.specs.Reader.{Reader, returned, ◌>>=◌, next_is}
use Rattle.sr_reader.proofs.Soundness.{append-nil}
use Rattle.sr_tree.specs.declared.token.Token.{Token}
use Rattle.sr_expr_reader.proofs.Families.{BelowIn, LoopsIn, token_then, below_then, below_returned, loop_stops, loop_goes}

abbrev next : {R A S : Type 0} → Reader Token S → (R → Reader Token A) → R → List A → Reader Token (List A)
next lead item r xs = lead >>= λ s. item r >>= λ a. returned (xs ++ a ∷ [])

module _ {R A S : Type 0} {family : ℕ → R} (lead : Reader Token S) (item : R → Reader Token A) (test : List A → Token → Bool) where
  -- no more items
  pub list-stops : (xs : List A) (q : List Token) → next_is (test xs) q ≡ false
      → LoopsIn family test (λ r es. lead >>= λ s. item r >>= λ a. returned (es ++ a ∷ [])) xs q (Ok (xs ++ [], q))
  list-stops xs q e = subst (λ ys. LoopsIn family test (next lead item) xs q (Ok (ys, q))) (sym (append-nil xs)) (loop_stops test (next lead item) xs q e)

  -- one more item
  pub list-goes : (xs : List A) (s : S) (a : A) (bs : List A) (t : Token) (u v q : List Token) → lead (t ∷ (u ++ (v ++ q))) ≡ Ok (s, u ++ (v ++ q)) → test xs t ≡ true
      → BelowIn family item (u ++ (v ++ q)) (Ok (a, v ++ q))
      → LoopsIn family test (λ r es. lead >>= λ s. item r >>= λ a. returned (es ++ a ∷ [])) (xs ++ a ∷ []) (v ++ q) (Ok ((xs ++ a ∷ []) ++ bs, q))
      → LoopsIn family test (λ r es. lead >>= λ s. item r >>= λ a. returned (es ++ a ∷ [])) xs (t ∷ ((u ++ v) ++ q)) (Ok (xs ++ a ∷ bs, q))
  list-goes xs s a bs t u v q l e b m =
      subst (λ w. LoopsIn family test (next lead item) xs (t ∷ w) (Ok (xs ++ a ∷ bs, q))) (sym (append_assoc u v q))
      (loop_goes test (next lead item) xs (xs ++ a ∷ []) t (u ++ (v ++ q)) u (v ++ q) _ refl e
      (token_then lead _ t (u ++ (v ++ q)) s _ l (below_then item _ u (v ++ q) a _ b (below_returned _ (v ++ q))))
      (subst (λ ys. LoopsIn family test (next lead item) (xs ++ a ∷ []) (v ++ q) (Ok (ys, q))) (append_assoc xs (a ∷ []) bs) m))
