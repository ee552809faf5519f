-- Entries of a part.
use Rattle.std.proofs.Common.{◌≡◌, ℕ, ◌<◌, ◌≤◌, List, [], ◌∷◌, ◌++◌, arith, subst, sym, zero, suc}
use Rattle.std.specs.Prelude.{All}
use Rattle.std.proofs.lemmas.List.Elements.{All-append}
use Rattle.sr_board_tests.specs.declared.parts.Entry.{Entry}

only_one : (P : Entry → Type 0) (e : Entry) → P e → All P (e ∷ [])
only_one P e h zero d less = h
only_one P e h (suc k) d less = absurd (omega arith)

-- no entry is later than the last one
pub low_more : (es new : List Entry) (e : Entry) (last : ℕ) → All (λ f. f.stamp ≤ last) es → last < e.stamp → new ≡ es ++ e ∷ [] → All (λ f. f.stamp ≤ e.stamp) new
low_more es new e last low less is = subst (All (λ f. f.stamp ≤ e.stamp)) (sym is) (All-append (λ f. f.stamp ≤ e.stamp) es (e ∷ []) up (only_one (λ f. f.stamp ≤ e.stamp) e (omega arith)))
  where
    up : All (λ f. f.stamp ≤ e.stamp) es
    up k d within = let l = low k d within in omega arith
