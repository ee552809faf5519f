-- Lists of items, each after a sign.
use Rattle.std.proofs.Common.{◌≡◌, refl, sym, subst, ℕ, Bool, false, List, [], ◌∷◌, ◌++◌, Ok, append_assoc}
use Rattle.sr_reader.specs.Reader.{Reader, returned, ◌>>=◌, next_is}
use Rattle.sr_reader.proofs.Soundness.{append-nil}
use Rattle.sr_tree.specs.declared.token.Sign.{Sign}
use Rattle.sr_tree.specs.declared.token.Token.{Token}
use Rattle.sr_tree.specs.Tables.{IsSign}
use Rattle.sr_tree.specs.Tests.{is_sign}
use Rattle.sr_tree.specs.Tokens.{sign_at}
use Rattle.sr_expr_reader.proofs.Families.{YieldsIn, LoopsIn, below, token_then, below_then, below_returned, loop_stops, loop_goes}
use Rattle.sr_expr_reader.proofs.TokensComplete.{is_that_sign, sign-reads}

-- {sign X}
pub data Separated {A : Type 0} (s : Sign) (Spells : A → List Token → Type 0) : List A → List Token → Type 0 where
  none_after : Separated s Spells [] []
  one_after : {a : A} {more : List A} {u v : List Token} (t : Token) → IsSign s t → Spells a u → Separated s Spells more v
      → Separated s Spells (a ∷ more) (t ∷ (u ++ v))

-- one more after a list
abbrev pub one_more : {A : Type 0} → Sign → Reader Token A → List A → Reader Token (List A)
one_more s item before = sign_at s >>= (λ c. item >>= (λ a. returned (before ++ a ∷ [])))

abbrev pub is_next_sign : {A : Type 0} → Sign → A → Token → Bool
is_next_sign s a t = is_sign s t.kind

-- an item that is read where an end stands after it
pub record Complete {R A : Type 0} (family : ℕ → R) (item : R → Reader Token A) (End : List Token → Type 0) (a : A) (u : List Token) : Type 0 where
  pub yields : (q : List Token) → End q → YieldsIn family item (u ++ q) (Ok (a, q))

module _ {R A : Type 0} (family : ℕ → R) (s : Sign) (item : R → Reader Token A) (End : List Token → Type 0) (ends : (t : Token) (q : List Token) → IsSign s t → End (t ∷ q)) where
  pub separated-end : {more : List A} {v : List Token} → Separated s (Complete family item End) more v → (q : List Token) → End q → End (v ++ q)
  separated-end none_after q e = e
  separated-end (one_after {u = u} {v = v} t h d m) q e = ends t ((u ++ v) ++ q) h

  pub separated-complete : {more : List A} {v : List Token} → Separated s (Complete family item End) more v → (before : List A) (q : List Token) → End q
      → next_is (λ t. is_sign s t.kind) q ≡ false
      → LoopsIn family (is_next_sign s) (λ r. one_more s (item r)) before (v ++ q) (Ok (before ++ more, q))
  separated-complete none_after before q e n =
      subst (λ x. LoopsIn family (is_next_sign s) (λ r. one_more s (item r)) before q (Ok (x, q))) (sym (append-nil before))
      (loop_stops (is_next_sign s) (λ r. one_more s (item r)) before q n)
  separated-complete (one_after {a = a} {more = more} {u = u} {v = v} t h d m) before q e n =
      subst (λ w. LoopsIn family (is_next_sign s) (λ r. one_more s (item r)) before (t ∷ w) (Ok (before ++ a ∷ more, q))) (sym (append_assoc u v q))
      (loop_goes (is_next_sign s) (λ r. one_more s (item r)) before (before ++ a ∷ []) t (u ++ (v ++ q)) u (v ++ q) _ refl (is_that_sign s t h)
      (token_then (sign_at s) (λ r c. item r >>= (λ x. returned (before ++ x ∷ []))) t (u ++ (v ++ q)) t.span _ (sign-reads s t (u ++ (v ++ q)) h)
      (below_then item (λ r x. returned (before ++ x ∷ [])) u (v ++ q) a _ (below item (u ++ (v ++ q)) _ (d.yields (v ++ q) (separated-end m q e)))
      (below_returned (before ++ a ∷ []) (v ++ q))))
      (subst (λ x. LoopsIn family (is_next_sign s) (λ r. one_more s (item r)) (before ++ a ∷ []) (v ++ q) (Ok (x, q))) (append_assoc before (a ∷ []) more)
      (separated-complete m (before ++ a ∷ []) q e n)))
