use Rattle.std.proofs.Common.{◌≡◌, take}
use Rattle.sr_calls.proofs.process_calls.copied_holds.Given as goal

abbrev pub invariant-loop-invocation : goal.invariant-loop-invocation
invariant-loop-invocation l = l.copies.items ≡ take l.invocation-index l.held
