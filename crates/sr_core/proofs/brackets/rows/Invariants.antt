-- What holds of the rows that are left holds of all, after those so far.
use Rattle.std.proofs.Common.{◌≡◌, ◌++◌, drop, Ok}
use Rattle.sr_value.specs.Parts.{with_ok}
use Rattle.sr_core.specs.Values.{rows_of}
use Rattle.sr_core.proofs.brackets.rows.Given as goal

abbrev pub invariant-loop-piece : goal.invariant-loop-piece
invariant-loop-piece l = with_ok (rows_of l.width (drop l.piece-index l.pieces)) (λ rest. Ok (l.items ++ rest)) ≡ rows_of l.width l.pieces
