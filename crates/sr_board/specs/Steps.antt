-- What each step on a board tells the seat that makes it: of the step, the seat before, the number found, and the seat after.
use Rattle.std.specs.Prelude.{◌≡◌, ◌≢◌, ℕ, ◌*◌, ◌≤◌, Bool, List, ◌∷◌, Option, Some}
use mathlib.Core.Option as maybe
use Rattle.atomic_table.specs.Table.{Me, Step, rest}
use Rattle.sr_board.specs.declared.view.View.{View}
use Rattle.sr_board.specs.Views.{with_entry, with_part, with_refusal, without_last}

module _ {S E : Type 0} where
  -- the turn was free, and the part is in hand; or another seat has it, and that is noted
  abbrev pub TakesOrNotes : (S → List E) → (ℕ → S → Type 0) → ℕ → Me S (View E) → ℕ → Me S (View E) → Type 0
  TakesOrNotes journal belongs k before found after =
      (found ≡ 0 → (x : S) × belongs k x × (after ≡ (with_part before.0 k (journal x), (k, x) ∷ before.1)))
      × (found ≢ 0 → (found ≤ 16) × (found ≢ before.0.number) × (after ≡ (with_refusal before.0 k found, before.1)))

  abbrev pub took : (S → List E) → (ℕ → S → Type 0) → Step S → Me S (View E) → ℕ → Me S (View E) → Type 0
  took journal belongs st before found after = (k : ℕ) → st.word ≡ k * 16 → TakesOrNotes journal belongs k before found after

  -- what was said is in the history
  abbrev pub committed : (S → Option E) → (E → ℕ) → (ℕ → E → Bool) → Step S → Me S (View E) → ℕ → Me S (View E) → Type 0
  committed said stamp touches st before found after = (x : S) (e : E) → st.said ≡ maybe.some x → said x ≡ Some e → after ≡ (with_entry stamp touches e before.0, before.1)

  -- the part that was taken last is no longer in hand
  abbrev pub gave : Step S → Me S (View E) → ℕ → Me S (View E) → Type 0
  gave st before found after = after ≡ (without_last before.0, rest before.1)
