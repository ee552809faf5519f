use Rattle.std.proofs.Common.{◌≡◌, length}
use Rattle.std.specs.Prelude.{find}
use Rattle.sr_calls.specs.Calls.{is_held_as}
use Rattle.sr_calls.proofs.process_calls.held_in.Given as goal

abbrev pub invariant-loop-rest : goal.invariant-loop-rest
invariant-loop-rest l = find (is_held_as l.id) l.rest ≡ find (is_held_as l.id) l.held

abbrev pub decreases-loop-rest : goal.decreases-loop-rest
decreases-loop-rest l = length l.rest
