-- A stretch has room for as many items as each worker may make, and for none where fewer are left than workers.
use Rattle.std.proofs.Common.{◌≡◌, ◌<◌, ◌/◌, ℕ, arith}
use Rattle.std.proofs.Math.Nat.{div-eq_of_lt, div-le_self, div-lt_iff_lt-mul}
use Rattle.sr_run.proofs.in_rounds.room_of.Goals as goal

none-left : (left workers : ℕ) → 0 < workers → left / workers ≡ 0 → left < workers
none-left left workers some is = let less = (div-lt_iff_lt-mul {k = workers} {x = left} {y = 1} some).0 (omega (arith, is)) in omega (arith, less)

pub returns-clause-within : goal.returns-clause-within
returns-clause-within c = omega (arith, div-le_self c.args.left c.args.workers)

pub returns-clause-none : goal.returns-clause-none
returns-clause-none c = (
  λ is. none-left c.args.left c.args.workers (omega arith) (omega (arith, is)),
  λ less. omega (arith, div-eq_of_lt less),
)
