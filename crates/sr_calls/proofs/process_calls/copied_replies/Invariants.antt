use Rattle.std.proofs.Common.{◌≡◌, map}
use Rattle.sr_calls.proofs.process_calls.copied_replies.Given as goal

abbrev pub invariant-loop-reply : goal.invariant-loop-reply
invariant-loop-reply l = l.copies.items ≡ map (λ reply. reply.now) l.yielded
