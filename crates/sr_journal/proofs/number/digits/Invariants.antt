use Rattle.std.proofs.Common.{ℕ, ◌≡◌, drop}
use Rattle.sr_journal.specs.Reading.{capped, limit_of, digits_at}
use Rattle.sr_journal.proofs.number.digits.Given as goal

-- the number so far, as far as a `usize` can tell, and what is still read
abbrev pub invariant-loop-at : goal.invariant-loop-at
invariant-loop-at l = (n : ℕ) × (l.number ≡ capped n) × (digits_at (limit_of l.most) l.end n (drop l.at l.bytes) ≡ digits_at (limit_of l.most) l.end 0 l.bytes)
