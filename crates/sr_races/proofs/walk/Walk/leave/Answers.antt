use Rattle.std.proofs.Common.{◌≡◌, ◌∙◌, ap, subst, sym}
use Rattle.std.proofs.lemmas.Result.{on_ok_weaker}
use Rattle.std.specs.Prelude.{◌&&◌, ◌==◌, if◌then◌else◌, not}
use Rattle.sr_ask.specs.declared.request.Request.{Request}
use Rattle.sr_races.proofs.LeaveLemmas.{left-actor, left-ends, left-number, left-rows, on-any}
use Rattle.sr_races.specs.Links.{ends_all, instance_ready, is_stop}
use Rattle.sr_races.specs.Origins.{AreOrigins, origins_in, readied_at}
use Rattle.sr_races.specs.Walks.{IsRowFrom}
use Rattle.sr_replay.specs.declared.replayer.Replayer.{Replayer}
use Rattle.sr_world.specs.Worlds.{World}
use Rattle.sr_races.proofs.walk.Walk.leave.Goals as goal

pub returns-clause-grows : goal.returns-clause-grows
returns-clause-grows g c = on-any c.note.result c.in_ok-give_row.ensures.grows

pub returns-clause-left : goal.returns-clause-left
returns-clause-left g c = λ r ask asks made has.
    let before = c.args.before in
    let later = c.args.self.now.replayer.world in
    let place = c.args.place in
    let ends : ends_all r place ≡ c.ends_all-ends.result =
    left-ends r place c.args.process c.args.name ask before c.args.answered later made ∙ ap (λ (q : Request). not (c.args.name == 0) && is_stop q) asks ∙ sym c.ends_all-ends.ensures in
    let world : c.world.result.now ≡ later = c.world.ensures ∙ ap (λ (x : Replayer _). x.world) c.give_row.ensures.replayer in
    let readied : readied_at r place ≡ c.readied-readied.result =
    sym (c.readied-readied.ensures ∙ ap (λ (w : World). if (not before.was_ready) && instance_ready before.instance w then before.instance else 0) world ∙ made.readied) in
    on_ok_weaker c.note.result
    (λ origins. record {
      rows = left-rows r place c.args.process c.args.name ask before c.args.answered later made c.args.self.now.origins c.args.self.now.clocks c.give_row.new.self.clocks has.rows has.origins
          c.in_ok-give_row.ensures.grows c.ends_all-ends.result ends
          (subst (λ (q : Request). IsRowFrom c.ends_all-ends.result (origins_in c.args.self.now.origins c.args.process q c.args.answered before.global) c.args.process c.args.self.now.clocks c.give_row.new.self.clocks)
          (sym asks) c.in_ok-give_row.ensures.row);
      origins = origins;
    })
    (c.note.ensures r (subst (λ x. AreOrigins r place x) (sym c.give_row.ensures.origins) has.origins) (left-actor r place c.args.process c.args.name ask before c.args.answered later made)
    (left-number r place c.args.process c.args.name ask before c.args.answered later made) (sym made.duty) readied ends)
