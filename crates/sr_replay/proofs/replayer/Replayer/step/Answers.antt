use Rattle.std.proofs.Common.{subst, sym}
use Rattle.sr_replay.specs.Replaying.{Follows}
use Rattle.sr_world.specs.Runs.{and_then, next}
use Rattle.sr_replay.proofs.replayer.Replayer.step.Goals as goal

pub returns : goal.returns
returns g c = λ limit now at.
    let after = g.A.Actor.asks_after c.args.program.now in
    let core = g.A.Actor.core_of c.args.program.now in
    subst (λ b. Follows after core limit (and_then now (λ state. next core limit state c.args.item)) b c.step_named.new.self) (sym c.is_some.ensures) (c.in_ok-named.ensures.follows limit now at)
