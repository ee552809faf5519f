use Rattle.std.proofs.Common.{◌≡◌, ◌+◌, MatchBool, inl, inr, length, refl, subst}
use Rattle.sr_worker.specs.Hands.{PassesOver}
use Rattle.sr_worker.proofs.Loops.{turn-went, turn-waits}
use Rattle.sr_worker.proofs.hand.Hand.turn.Goals as goal

pub returns-then-went-clause-turn : goal.returns-then-went-clause-turn
returns-then-went-clause-turn g c = inl (refl, turn-went c.in_ok-went.went _ _ c.if-went.true c.in_ok-went.ensures.turn)

pub returns-clause-turn : goal.returns-clause-turn
returns-clause-turn g c = inr (refl, turn-waits c.in_ok-went.went _ _ c.if-went.false c.in_ok-went.ensures.turn)
