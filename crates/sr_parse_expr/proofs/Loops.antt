-- Loops over tokens, as readers give them.
use Rattle.std.proofs.Common.{◌≡◌, sym, ◌∙◌, ap, ℕ, ◌<◌, ◌≤◌, Bool, true, false, List, length, Ok, Err, arith}
use Rattle.sr_reader.specs.Reader.{Reader, next_is, while}
use Rattle.sr_reader.proofs.Loops.{while-stop, while-fail, while-go}
use Rattle.sr_tree.specs.declared.token.Token.{Token}
use Rattle.sr_parse_tokens.specs.Gives.{Gives}
use Rattle.sr_parse_tokens.specs.declared.reading.ReadFail.{ReadFail}
use Rattle.sr_parse_tokens.specs.declared.reading.ReadFail.TheVariants as fail

-- what a loop gives from here is what it gives from the start
abbrev pub LeadsOn : {R A : Type 0} → (ℕ → R) → (A → Token → Bool) → (R → A → Reader Token A) → A → List Token → A → List Token → Type 0
LeadsOn family test step a s b q =
    (k : ℕ) → length s ≤ k → (n : ℕ) × (length q ≤ n) × (while test (step (family k)) k a s ≡ while test (step (family k)) n b q)

module _ {R X A : Type 0} (family : ℕ → R) (steps : R → ℕ) (same : (k : ℕ) → steps (family k) ≡ k)
    (view : X → A × List Token) (test : A → Token → Bool) (step : R → A → Reader Token A) (a : A) (s : List Token) (b : A) (q : List Token)
    (leads : LeadsOn family test step a s b q) (shorter : length q ≤ length s) where
  pub leads-step : (x : X) → next_is (test b) q ≡ true → ((k : ℕ) → length q ≤ k → Gives view (Ok x) (step (family k) b q)) → length (view x).1 < length q
      → LeadsOn family test step a s (view x).0 (view x).1
  leads-step x e reads lt k h =
      let l = leads k h in
      let w = while-go test (step (family k)) l.0 b (view x).0 q (view x).1 l.1 e (reads k (omega (arith, h, shorter))) lt in
      (w.0, w.1, l.2 ∙ w.2)

  pub leads-fail : (e : ReadFail) → next_is (test b) q ≡ true → ((k : ℕ) → length q ≤ k → Gives view (Err e) (step (family k) b q))
      → (k : ℕ) → length s ≤ k → Gives view (Err e) (while test (step (family k)) (steps (family k)) a s)
  leads-fail (fail.Unexpected left) e reads k h =
      let l = leads k h in
      ap (λ n. while test (step (family k)) n a s) (same k)
      ∙ l.2 ∙ while-fail test (step (family k)) l.0 b q left l.1 e (reads k (omega (arith, h, shorter)))
  leads-fail fail.NoMemory e reads k h = tt

  pub leads-end : (x : X) → view x ≡ (b, q) → next_is (test b) q ≡ false
      → (k : ℕ) → length s ≤ k → Gives view (Ok x) (while test (step (family k)) (steps (family k)) a s)
  leads-end x v e k h =
      let l = leads k h in
      ap (λ n. while test (step (family k)) n a s) (same k)
      ∙ l.2 ∙ while-stop test (step (family k)) l.0 b q e ∙ ap Ok (sym v)
