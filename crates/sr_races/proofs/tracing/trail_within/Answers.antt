-- As the walk does, where a run may have one item more.
use Rattle.std.proofs.Common.{arith, inl}
use Rattle.sr_races.proofs.TraceLemmas.{any-ok, trails-to}
use Rattle.sr_replay.proofs.CrewLemmas.{if_ok}
use Rattle.sr_races.proofs.tracing.trail_within.Goals as goal

pub returns-then-place-steps-clause-trails : goal.returns-then-place-steps-clause-trails
returns-then-place-steps-clause-trails g c = λ r items core trailed. inl (omega arith)

pub returns-clause-most : goal.returns-clause-most
returns-clause-most g c = any-ok c.follow.result (λ legal is. omega arith)

pub returns-clause-trails : goal.returns-clause-trails
returns-clause-trails g c = λ r items core trailed.
    if_ok c.follow.result (λ legal trails. trails-to (g.A.Actor.asks_after c.args.program.now) c.args.steps r c.args.place c.follow.new.self legal trails) (c.follow.ensures r items core trailed)
