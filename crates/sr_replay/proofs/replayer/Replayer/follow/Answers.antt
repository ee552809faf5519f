use Rattle.std.proofs.Common.{◌≡◌, ◌<◌, ◌∙◌, ap, arith, length, subst, sym, take}
use Rattle.sr_replay.proofs.FollowLemmas.{at-legal, follows-false, follows-true, more-made}
use Rattle.sr_replay.specs.Replaying.{IsAt}
use Rattle.sr_world.specs.Runs.{is_legal, run_from}
use Rattle.sr_replay.proofs.replayer.Replayer.follow.Goals as goal

pub loop-place-preserved : goal.loop-place-preserved
loop-place-preserved g c = λ limit now at.
    let after = g.A.Actor.asks_after c.args.program.now in
    let core = g.A.Actor.core_of c.args.program.now in
    let before = c.loop-place.invariant limit now at in
    let made = run_from core limit now (take c.loop-place.place c.args.items.now) in
    let within : c.loop-place.place < length c.args.items.now = omega (arith, c.requires) in
    subst (λ n. IsAt after core limit n c.step.new.self) (sym (more-made after core limit now c.args.items.now c.loop-place.place _ within))
    (follows-true after core limit _ c.in_ok-legal.legal c.step.new.self (c.in_ok-legal.ensures limit made before) c.if-not-legal.false)

pub returns-then-not-legal-clause-follows : goal.returns-then-not-legal-clause-follows
returns-then-not-legal-clause-follows g c = λ limit now at.
    let after = g.A.Actor.asks_after c.args.program.now in
    let core = g.A.Actor.core_of c.args.program.now in
    let before = c.loop-place.invariant limit now at in
    let made = run_from core limit now (take c.loop-place.place c.args.items.now) in
    let within : c.loop-place.place < length c.args.items.now = omega (arith, c.requires) in (
      omega arith,
      at-legal after core limit made c.loop-place.self before,
      ap is_legal (more-made after core limit now c.args.items.now c.loop-place.place _ within)
          ∙ follows-false after core limit _ c.in_ok-legal.legal c.step.new.self (c.in_ok-legal.ensures limit made before) c.if-not-legal.true,
    )

pub returns-clause-follows : goal.returns-clause-follows
returns-clause-follows g c = λ limit now at.
    let after = g.A.Actor.asks_after c.args.program.now in
    let core = g.A.Actor.core_of c.args.program.now in
    let all : c.loop-place.place ≡ c.args.count = omega arith in
    subst (λ n. IsAt after core limit (run_from core limit now (take n c.args.items.now)) c.loop-place.self) all (c.loop-place.invariant limit now at)
