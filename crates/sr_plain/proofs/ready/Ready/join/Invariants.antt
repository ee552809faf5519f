use Rattle.std.proofs.Common.{◌≡◌, ℕ, false}
use Rattle.std.specs.BTreeSet.{btree_set_len, contains}
use Rattle.std.specs.Ordering.{nat_cmp}
use Rattle.sr_plain.specs.Readiness.{holds}
use Rattle.sr_plain.proofs.ready.Ready.join.Given as goal

-- who isn't ready wasn't, and is still to come if it was
abbrev pub invariant-loop-process : goal.invariant-loop-process
invariant-loop-process l = (q : ℕ) → holds l.self q ≡ false → (holds l.fn.self q ≡ false) × (contains nat_cmp l.processes q ≡ contains nat_cmp l.fn.processes q)

abbrev pub decreases-loop-process : goal.decreases-loop-process
decreases-loop-process l = btree_set_len l.processes
