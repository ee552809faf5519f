use Rattle.std.proofs.Common.{arith, inl}
use Rattle.sr_replay.proofs.CrewLemmas.{if_ok}
use Rattle.sr_races.proofs.WholeLemmas.{walks-within}
use Rattle.sr_races.proofs.whole.follow_within.Goals as goal

pub returns-then-place-steps-clause-walks : goal.returns-then-place-steps-clause-walks
returns-then-place-steps-clause-walks g c = λ r items core walked. inl (omega arith)

pub returns-clause-most : goal.returns-clause-most
returns-clause-most g c = if_ok c.follow.result (λ legal can is. omega arith) c.follow.ensures.can

pub returns-clause-walks : goal.returns-clause-walks
returns-clause-walks g c = λ r items core walked.
    if_ok c.follow.result (λ legal walks. walks-within (g.A.Actor.asks_after c.args.program.now) c.args.steps r c.args.place c.follow.new.self legal walks) (c.follow.ensures.walks r items core walked)
