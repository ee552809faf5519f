-- The step was made, left what it leaves, and has its row; or there was none.
use Rattle.std.proofs.Common.{◌≡◌, ◌+◌, ◌∙◌, ap, arith, is_some, refl, subst, sym}
use Rattle.std.specs.Prelude.{IfSome, unwrap_or}
use Rattle.sr_ask.specs.declared.item.Item.TheVariants.{Step}
use Rattle.sr_core.specs.declared.component.Core.{Core}
use Rattle.sr_races.proofs.FollowLemmas.{now-at, step-made, told-made, told-none}
use Rattle.sr_races.proofs.TraceLemmas.{rows-more, runs-here, step-traced}
use Rattle.sr_races.specs.Items.{stands_after}
use Rattle.sr_races.specs.Links.{global_asked, instance_ready}
use Rattle.sr_races.specs.Origins.{AreOrigins, owed}
use Rattle.sr_races.specs.Traces.{AreTraced, runs_from}
use Rattle.sr_races.specs.Walks.{IsStepMade}
use Rattle.sr_replay.specs.Naming.{named_at}
use Rattle.sr_replay.specs.Replaying.{IsAt}
use Rattle.sr_replay.specs.declared.replayer.Replayer.{Replayer}
use Rattle.sr_world.specs.Callers.{duty_by, waits_as}
use Rattle.sr_world.specs.Invoking.{instance_of_process}
use Rattle.sr_world.specs.Runs.{Goes}
use Rattle.sr_world.specs.Worlds.{World, started}
use Rattle.sr_races.proofs.trail.Trail.follow_ask.Goals as goal

pub returns-in_ok-note-in-Some : goal.returns-in_ok-note-in-Some
returns-in_ok-note-in-Some g c = λ r is core asks trailed.
    let after = g.A.Actor.asks_after c.args.program.now in
    let k = g.A.Actor.core_of c.args.program.now in
    let place = c.args.place in
    let p = c.args.process in
    let name = c.args.name in
    let ask = c.args.ask.now in
    let before = c.new-before.result in
    let old = c.args.self.now.replayer in
    let new = c.step_named.new.self in
    let follows = told-made after r place k core (Step p name) is old new trailed.at (is_some c.in_ok-named.named) c.in_ok-named.ensures.follows (ap is_some c.in-Some.is) in
    let world : c.world-world.result.now ≡ old.world = c.world-world.ensures in
    let made = step-made after r place p name is ask old trailed.at asks new follows before c.in-Some.answered
    (c.new-before.ensures.instance ∙ ap (λ (w : World). instance_of_process w p) world)
    (c.new-before.ensures.was_ready ∙ ap (λ (w : World). instance_ready before.instance w) world)
    (c.new-before.ensures.duty ∙ ap (λ (w : World). owed (waits_as (duty_by w p name ask.request))) world)
    (c.new-before.ensures.global ∙ ap (λ (w : World). unwrap_or (global_asked w ask.request) 0) world)
    (λ state at.
    subst (λ (x : Core). c.in-Some.answered ≡ named_at x r.limit state (Step p name)) (sym core)
    (subst (λ o. IfSome o (λ n. n ≡ named_at k r.limit state (Step p name))) c.in-Some.is
    (c.in_ok-named.ensures.named r.limit state (subst (λ (x : Core). IsAt after x r.limit (Goes state) old) core at)))) in
    let within = made.within in
    record {
      within = omega (arith, within);
      at = subst (λ x. IsAt after r.core r.limit (stands_after r (place + 1)) x) (sym (c.note.ensures.replayer ∙ c.push_step.ensures.replayer))
          (now-at after r place p name is ask old trailed.at asks new follows);
      origins = c.in_ok-note-in-Some.ensures.left r ask c.in-Some.answered refl
          (subst (λ (x : Replayer _). IsStepMade r place p name ask before c.in-Some.answered x.world) (sym c.push_step.ensures.replayer) made)
          (subst (λ x. AreOrigins r place x) (sym c.push_step.ensures.origins) trailed.origins);
      rows = subst (λ xs. AreTraced r (place + 1) xs) (sym (c.note.ensures.rows ∙ c.in_ok-push_step-in-Some.ensures.rows))
          (rows-more r place c.args.self.now.rows _ trailed.rows
          (step-traced r place p name ask before c.in-Some.answered new.world made c.args.self.now.origins trailed.origins c.args.self.now.rows c.runs_in-runs.result
          (c.runs_in-runs.ensures ∙ ap (λ (w : World). runs_from (started w p)) world
          ∙ runs-here after r place p name made.state old is made.at (subst (λ now. IsAt after r.core r.limit now old) made.at trailed.at))));
    }

pub returns-in-None : goal.returns-in-None
returns-in-None g c = λ r is core asks trailed.
    told-none (g.A.Actor.asks_after c.args.program.now) r c.args.place (g.A.Actor.core_of c.args.program.now) core (Step c.args.process c.args.name) is c.args.self.now.replayer c.step_named.new.self trailed.at
    (is_some c.in_ok-named.named) c.in_ok-named.ensures.follows (ap is_some c.in-None.is)
