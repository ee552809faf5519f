-- The operations of a group after its first, and lists with one entry more.
use Rattle.std.proofs.Common.{◌≡◌, ℕ, ◌+◌, ◌-◌, ◌<◌, ◌≤◌, ◌⊎◌, inl, inr, List, [], ◌∷◌, ◌++◌, fold, take, drop, length, get_or, arith, sym, ap, subst, ◌∙◌}
use Rattle.std.proofs.Math.ListN.{get_or-append}
use Rattle.std.proofs.Math.Nat.{eq-or-lt_of_le}
use Rattle.std.proofs.Math.Seq.{get_or-append_seam}
use Rattle.std.proofs.lemmas.List.{take_all}
use Rattle.sr_classes.specs.Joins.{joined, group_joined}

others-all : (rest : List ℕ) (n i : ℕ) → length rest ≤ n → length (take n rest) ≤ i → take i (take n rest) ≡ rest
others-all rest n i enough past = take_all i (take n rest) past ∙ take_all n rest enough

pub group-joined : (group : List ℕ) (otherwise i : ℕ) (of : ℕ → ℕ) → 1 ≤ length group
    → length (take (length group - 1) (drop 1 group)) ≤ i
    → fold (λ so_far other. joined so_far (get_or group 0 otherwise) other) of (take i (take (length group - 1) (drop 1 group)))
    ≡ group_joined of group
group-joined [] otherwise i of one past = absurd (omega (arith, one))
group-joined (first ∷ rest) otherwise i of one past =
    ap (λ others. fold (λ so_far other. joined so_far first other) of others) (others-all rest (length (first ∷ rest) - 1) i (omega arith) past)

-- one entry more
pub one-more : (classes new : List ℕ) (value n : ℕ) (of : ℕ → ℕ) → length classes ≡ n → new ≡ classes ++ value ∷ [] → value ≡ of n
    → ((op : ℕ) → op < n → get_or classes op 0 ≡ of op) → (op : ℕ) → op < n + 1 → get_or new op 0 ≡ of op
one-more classes new value n of counted pushed is so_far op within =
    subst (λ list. get_or list op 0 ≡ of op) (sym pushed) (go (eq-or-lt_of_le (omega (arith, within))))
  where
    go : (op ≡ n) ⊎ (op < n) → get_or (classes ++ value ∷ []) op 0 ≡ of op
    go (inl last) = ap (λ k. get_or (classes ++ value ∷ []) k 0) (last ∙ sym counted) ∙ get_or-append_seam classes value [] 0 ∙ is ∙ ap of (sym last)
    go (inr before) = get_or-append classes (value ∷ []) 0 op (subst (λ k. op < k) (sym counted) before) ∙ so_far op before
