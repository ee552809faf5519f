-- it waits for the variables so far
use Rattle.std.proofs.Common.{◌≡◌, ◌<◌, ℕ, true, Some}
use Rattle.std.specs.Prelude.{slice_get}
use Rattle.sr_core.specs.declared.site.SharedRead.{SharedRead}
use Rattle.sr_select.specs.Guards.{guard_block, home_seen}
use Rattle.sr_plain.specs.Noting.{StillWait}
use Rattle.sr_plain.specs.Waiting.{at_block, waits}
use Rattle.sr_plain.proofs.aside.wait_for_reads.Given as goal

abbrev pub invariant-loop-read : goal.invariant-loop-read
invariant-loop-read l = StillWait l.fn.waiters l.waiters
    × ((number : ℕ) (read : SharedRead) → slice_get l.site.reads number ≡ Some read → number < l.read-index
    → at_block (λ key. waits l.waiters key l.me.process) read.var (guard_block l.me (home_seen l.site.names l.env) read.home) ≡ true)
