-- One number more below a bound.
use Rattle.std.proofs.Common.{◌≡◌, ◌∙◌, ◌+◌, ◌++◌, ℕ, suc, Bool, List, [], cond, ap, sym, arith, append_assoc}
use Rattle.sr_class_text.specs.Lines.{texts_below}

module _ (test : ℕ → Bool) (text : ℕ → List ℕ) (count : ℕ) where
  more : texts_below test text (count + 1) ≡ texts_below test text count ++ cond (test count) (text count) []
  more = let next : count + 1 ≡ suc count = omega arith in ap (texts_below test text) next

  pub stepped : (initial old new : List ℕ) → old ≡ initial ++ texts_below test text count → new ≡ old ++ cond (test count) (text count) []
      → new ≡ initial ++ texts_below test text (count + 1)
  stepped initial old new before added =
      added ∙ ap (λ t. t ++ cond (test count) (text count) []) before ∙ append_assoc initial (texts_below test text count) (cond (test count) (text count) [])
      ∙ ap (λ t. initial ++ t) (sym more)
