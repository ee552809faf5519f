use Rattle.std.proofs.Common.{◌<◌, ℕ, Option, arith, subst, take}
use Rattle.std.specs.Prelude.{IfSome}
use Rattle.sr_replay.proofs.CrewLemmas.{if_ok}
use Rattle.sr_replay.proofs.FollowLemmas.{first-illegal, reached-so}
use Rattle.sr_replay.specs.Replaying.{FollowsAll}
use Rattle.sr_world.specs.Runs.{Goes, begun, run}
use Rattle.sr_replay.proofs.whole.replay_on.Goals as goal

pub overflow_add-result : goal.overflow_add-result
overflow_add-result g c =
    let within : c.in-Some.place < c.fewer-count.result = subst (λ (o : Option ℕ). IfSome o (λ p. p < c.fewer-count.result)) c.in-Some.is c.in_ok-found.ensures.within in
    omega (arith, within, c.fewer-count.ensures.most)

pub returns-in-Some : goal.returns-in-Some
returns-in-Some g c = λ ticks input at.
    let after = g.A.Actor.asks_after c.args.program.now in
    let core = g.A.Actor.core_of c.args.program.now in
    first-illegal after core c.args.steps ticks input c.args.items.now c.args.upto c.fewer-count.result c.follow.new.self c.fewer-count.ensures.most c.fewer-count.ensures.least c.in-Some.place
    (subst (λ (o : Option ℕ). FollowsAll after core ticks (Goes (begun input)) c.args.items.now c.fewer-count.result o c.follow.new.self) c.in-Some.is (c.in_ok-found.ensures.follows ticks (Goes (begun input)) at))

pub returns-in-None : goal.returns-in-None
returns-in-None g c = λ ticks input at.
    let after = g.A.Actor.asks_after c.args.program.now in
    let core = g.A.Actor.core_of c.args.program.now in
    let there = subst (λ (o : Option ℕ). FollowsAll after core ticks (Goes (begun input)) c.args.items.now c.fewer-count.result o c.follow.new.self) c.in-None.is (c.in_ok-found.ensures.follows ticks (Goes (begun input)) at) in
    if_ok c.reach.result
    (λ replayed reaches. reached-so after core c.args.steps ticks input c.args.items.now c.args.upto c.fewer-count.result c.follow.new.self there c.fewer-count.ensures.one c.fewer-count.ensures.other replayed reaches)
    (c.reach.ensures ticks (run core ticks input (take c.fewer-count.result c.args.items.now)) there)
