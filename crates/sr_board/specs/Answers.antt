-- What a seat is told that asks for a turn.
use Rattle.std.specs.Prelude.{◌≡◌, ◌≢◌, ℕ, ◌<◌, ◌≤◌, List, ◌∷◌}
use Rattle.atomic_table.specs.Table.{Me}
use Rattle.sr_board.specs.declared.board.Turn.{Turn}
use Rattle.sr_board.specs.declared.board.Turn.TheVariants.{Taken, Busy}
use Rattle.sr_board.specs.declared.view.View.{View}
use Rattle.sr_board.specs.Views.{with_part, with_refusal}

-- Taken: the part that belongs there is in hand. Busy: the refusal by this holder, which is another seat, is noted, and nothing else has changed
abbrev pub AnswersTake : {S E : Type 0} → (S → List E) → (ℕ → S → Type 0) → ℕ → Me S (View E) → Turn → Me S (View E) → Type 0
AnswersTake journal belongs k before Taken after = (x : _) × belongs k x × (after ≡ (with_part before.0 k (journal x), (k, x) ∷ before.1))
AnswersTake journal belongs k before (Busy holder) after = (0 < holder) × (holder ≤ 16) × (holder ≢ before.0.number) × (after ≡ (with_refusal before.0 k holder, before.1))
