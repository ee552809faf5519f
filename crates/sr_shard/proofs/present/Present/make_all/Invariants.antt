use Rattle.std.proofs.Common.{length}
use Rattle.sr_shard.proofs.ReadyLemmas.{IsMaking}
use Rattle.sr_shard.proofs.present.Present.make_all.Given as goal

abbrev pub invariant-making : goal.invariant-making
invariant-making l = IsMaking l.standing l.initial.self l.fn.changes l.self l.changes

abbrev pub decreases-making : goal.decreases-making
decreases-making l = length l.changes
