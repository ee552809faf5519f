-- Reading one after the other, as a loop does.
use Rattle.std.proofs.Common.{◌≡◌, refl, sym, ◌∙◌, ap, ℕ, suc, ◌-◌, ◌+◌, ◌≤◌, ◌<◌, List, [], ◌∷◌, ◌++◌, Ok, Err, append_assoc, arith}
use Rattle.std.proofs.lemmas.List.{append-nil}
use Rattle.sr_journal.specs.declared.fail.JournalFail.{JournalFail}
use Rattle.sr_journal.specs.Reading.{Reading, ◌>>=◌, many_at}

-- what was read before, and what is still read
abbrev pub with_front : {A : Type 0} → List A → Reading (List A) → Reading (List A)
with_front front read = read >>= λ x. Ok (front ++ x.0, x.1)

regroup : {A : Type 0} (front : List A) (a : A) (read : Reading (List A)) → with_front front (read >>= λ x. Ok (a ∷ x.0, x.1)) ≡ with_front (front ++ a ∷ []) read
regroup front a (Ok x) = ap (λ all. Ok (all, x.1)) (sym (append_assoc front (a ∷ []) x.0))
regroup front a (Err f) = refl

module _ {A : Type 0} (one : List ℕ → Reading A) (front : List A) (count i : ℕ) (bytes : List ℕ) (total : Reading (List A)) where
  step : i < count → many_at one (count - i) bytes ≡ (one bytes >>= λ first. many_at one (count - (i + 1)) first.1 >>= λ others. Ok (first.0 ∷ others.0, others.1))
  unfolding many_at
  step lt = let k : count - i ≡ suc (count - (i + 1)) = omega arith in ap (λ n. many_at one n bytes) k

  pub goes-on : (a : A) (after : List ℕ) → i < count → one bytes ≡ Ok (a, after) → with_front front (many_at one (count - i) bytes) ≡ total
      → with_front (front ++ a ∷ []) (many_at one (count - (i + 1)) after) ≡ total
  goes-on a after lt h so_far =
      sym (regroup front a (many_at one (count - (i + 1)) after))
      ∙ ap (with_front front) (ap (λ r. r >>= λ first. many_at one (count - (i + 1)) first.1 >>= λ others. Ok (first.0 ∷ others.0, others.1)) (sym h) ∙ sym (step lt))
      ∙ so_far

  pub fails : (e : JournalFail) → i < count → one bytes ≡ Err e → with_front front (many_at one (count - i) bytes) ≡ total → total ≡ Err e
  fails e lt h so_far =
      sym so_far ∙ ap (with_front front) (step lt ∙ ap (λ r. r >>= λ first. many_at one (count - (i + 1)) first.1 >>= λ others. Ok (first.0 ∷ others.0, others.1)) h)

  pub is-done : count ≤ i → with_front front (many_at one (count - i) bytes) ≡ total → total ≡ Ok (front, bytes)
  unfolding many_at
  is-done le so_far =
      let k : count - i ≡ 0 = omega arith in
      sym so_far ∙ ap (λ n. with_front front (many_at one n bytes)) k ∙ ap (λ all. Ok (all, bytes)) (append-nil front)
