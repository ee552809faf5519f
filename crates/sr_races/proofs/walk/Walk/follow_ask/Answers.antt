use Rattle.std.proofs.Common.{◌≡◌, ◌+◌, ◌∙◌, ap, arith, is_some, length, refl, subst, sym}
use Rattle.std.specs.Prelude.{IfSome, unwrap_or}
use Rattle.sr_ask.specs.declared.item.Item.TheVariants.{Step}
use Rattle.sr_clock_rows.specs.declared.clocks.Clocks.{Clocks}
use Rattle.sr_core.specs.declared.component.Core.{Core}
use Rattle.sr_races.proofs.FollowLemmas.{entries-more, entry-is, length-pushed, now-at, step-made, still-entry, told-made, told-none}
use Rattle.sr_races.specs.Items.{stands_after}
use Rattle.sr_races.specs.Kept.{HasRows}
use Rattle.sr_races.specs.Links.{global_asked, instance_ready}
use Rattle.sr_races.specs.Origins.{AreOrigins, owed}
use Rattle.sr_races.specs.Walks.{AreEntries, CanGrow, HasGrown}
use Rattle.sr_replay.specs.Naming.{named_at}
use Rattle.sr_replay.specs.Replaying.{IsAt}
use Rattle.sr_world.specs.Callers.{duty_by, waits_as}
use Rattle.sr_world.specs.Invoking.{instance_of_process}
use Rattle.sr_world.specs.Runs.{Goes}
use Rattle.sr_world.specs.Worlds.{World}
use Rattle.sr_races.proofs.walk.Walk.follow_ask.Goals as goal

pub leave-requires : goal.leave-requires
leave-requires g c = subst (λ (x : Clocks). CanGrow c.args.process x) (sym c.push_entry.ensures.clocks) c.requires

pub returns-in_ok-leave-in-Some-clause-grows : goal.returns-in_ok-leave-in-Some-clause-grows
returns-in_ok-leave-in-Some-clause-grows g c = λ _. record {
  clocks = subst (λ (x : Clocks). HasGrown c.args.process x c.leave.new.self.clocks) c.push_entry.ensures.clocks c.in_ok-leave-in-Some.ensures.grows;
  entries = subst (λ xs. length xs ≡ length c.args.self.now.entries + 1) (sym (c.leave.ensures.entries ∙ c.in_ok-push_entry.ensures.entry)) (length-pushed c.args.self.now.entries _);
}

pub returns-in_ok-leave-in-Some-clause-walks : goal.returns-in_ok-leave-in-Some-clause-walks
returns-in_ok-leave-in-Some-clause-walks g c = λ r is core asks walked.
    let after = g.A.Actor.asks_after c.args.program.now in
    let k = g.A.Actor.core_of c.args.program.now in
    let place = c.args.place in
    let p = c.args.process in
    let name = c.args.name in
    let ask = c.args.ask.now in
    let before = c.new-before.result in
    let old = c.args.self.now.replayer in
    let new = c.step_named.new.self in
    let same = c.push_entry.ensures.replayer in
    let follows = told-made after r place k core (Step p name) is old new walked.at (is_some c.in_ok-named.named)
    (λ limit now at. c.in_ok-named.ensures.follows limit now (subst (λ x. IsAt after k limit now x) (sym same) at)) (ap is_some c.in-Some.is) in
    let world : c.world.result.now ≡ old.world = c.world.ensures in
    let made = step-made after r place p name is ask old walked.at asks new follows before c.in-Some.answered
    (c.new-before.ensures.instance ∙ ap (λ (w : World). instance_of_process w p) world)
    (c.new-before.ensures.was_ready ∙ ap (λ (w : World). instance_ready before.instance w) world)
    (c.new-before.ensures.duty ∙ ap (λ (w : World). owed (waits_as (duty_by w p name ask.request))) world)
    (c.new-before.ensures.global ∙ ap (λ (w : World). unwrap_or (global_asked w ask.request) 0) world)
    (λ state at.
    subst (λ (x : Core). c.in-Some.answered ≡ named_at x r.limit state (Step p name)) (sym core)
    (subst (λ o. IfSome o (λ n. n ≡ named_at k r.limit state (Step p name))) c.in-Some.is
    (c.in_ok-named.ensures.named r.limit state (subst (λ x. IsAt after k r.limit (Goes state) x) (sym same) (subst (λ (x : Core). IsAt after x r.limit (Goes state) old) core at))))) in
    let left = c.in_ok-leave-in-Some.ensures.left r ask refl made (record {
      rows = subst (λ (x : Clocks). HasRows r place x) (sym c.push_entry.ensures.clocks) walked.rows;
      origins = subst (λ x. AreOrigins r place x) (sym c.push_entry.ensures.origins) walked.origins;
    }) in
    let columns : c.leave.new.self.clocks.columns ≡ c.args.self.now.clocks.columns = c.in_ok-leave-in-Some.ensures.grows.adds.columns ∙ ap (λ (x : Clocks). x.columns) c.push_entry.ensures.clocks in
    let within = made.within in
    record {
      within = omega (arith, within);
      at = subst (λ x. IsAt after r.core r.limit (stands_after r (place + 1)) x) (sym c.leave.ensures.replayer) (now-at after r place p name is ask old walked.at asks new follows);
      origins = left.origins;
      rows = left.rows;
      entries = subst (λ xs. AreEntries r c.leave.new.self.clocks (place + 1) xs) (sym (c.leave.ensures.entries ∙ c.in_ok-push_entry.ensures.entry))
          (entries-more r c.args.self.now.clocks c.leave.new.self.clocks place c.args.self.now.entries _ columns walked.entries
          (still-entry r c.args.self.now.clocks c.leave.new.self.clocks place _ columns
          (entry-is after r place p name is ask old walked.at asks new follows c.args.self.now.clocks c.core.result.now (c.core.ensures ∙ sym core) c.requires.column)));
    }

pub returns-in-None-clause-walks : goal.returns-in-None-clause-walks
returns-in-None-clause-walks g c = λ r is core asks walked.
    let k = g.A.Actor.core_of c.args.program.now in
    told-none (g.A.Actor.asks_after c.args.program.now) r c.args.place k core (Step c.args.process c.args.name) is c.args.self.now.replayer c.step_named.new.self walked.at (is_some c.in_ok-named.named)
    (λ limit now at. c.in_ok-named.ensures.follows limit now (subst (λ x. IsAt (g.A.Actor.asks_after c.args.program.now) k limit now x) (sym c.push_entry.ensures.replayer) at)) (ap is_some c.in-None.is)
