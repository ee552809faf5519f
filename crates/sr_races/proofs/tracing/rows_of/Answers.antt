-- One item more, or none.
use Rattle.std.proofs.Common.{◌≡◌, ◌<◌, ◌+◌, arith, subst}
use Rattle.sr_races.proofs.TraceLemmas.{first-illegal, found-trace}
use Rattle.sr_races.specs.Trails.{IsTrailed, TrailsTo}
use Rattle.sr_races.proofs.tracing.rows_of.Goals as goal

pub loop-place-init : goal.loop-place-init
loop-place-init g c = (λ r items core trailed. trailed, omega arith)

pub loop-place-preserved : goal.loop-place-preserved
loop-place-preserved g c = (
  λ r items core trailed.
      subst (λ b. TrailsTo (g.A.Actor.asks_after c.args.program.now) c.args.steps r (c.loop-place.place + 1) b c.trail_within.new.trail) c.if-not-legal.false
      (c.in_ok-legal.ensures.trails r items core (c.loop-place.invariant.0 r items core trailed)),
  let less : c.loop-place.place < c.args.steps = c.in_ok-legal.ensures.most c.if-not-legal.false in omega (arith, less),
)

pub returns-then-not-legal : goal.returns-then-not-legal
returns-then-not-legal g c = λ r items core trailed.
    let after = g.A.Actor.asks_after c.args.program.now in
    let before = c.loop-place.invariant.0 r items core trailed in
    first-illegal after c.args.steps r c.args.upto c.loop-place.place c.loop-place.trail c.trail_within.new.trail (omega arith) c.loop-place.invariant.1 before
    (subst (λ b. TrailsTo after c.args.steps r (c.loop-place.place + 1) b c.trail_within.new.trail) c.if-not-legal.true (c.in_ok-legal.ensures.trails r items core before))

pub returns : goal.returns
returns g c = λ r items core trailed.
    let after = g.A.Actor.asks_after c.args.program.now in
    let all : c.loop-place.place ≡ c.args.upto = omega arith in
    let most = c.loop-place.invariant.1 in
    found-trace after c.args.steps c.args.upto r c.loop-place.trail c.take_rows.result c.take_rows.ensures (omega (arith, all, most))
    (subst (λ n. IsTrailed after r n c.loop-place.trail) all (c.loop-place.invariant.0 r items core trailed))
