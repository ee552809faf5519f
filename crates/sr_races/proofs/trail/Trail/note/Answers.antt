-- What it leaves is what the definitions say.
use Rattle.std.proofs.Common.{◌≡◌, ◌∙◌, ap, sym}
use Rattle.std.specs.Prelude.{◌&&◌, ◌==◌, if◌then◌else◌, not}
use Rattle.sr_ask.specs.declared.request.Request.{Request}
use Rattle.sr_races.proofs.LeaveLemmas.{left-actor, left-ends, left-number}
use Rattle.sr_races.specs.Links.{ends_all, instance_ready, is_stop}
use Rattle.sr_races.specs.Origins.{readied_at}
use Rattle.sr_world.specs.Worlds.{World}
use Rattle.sr_races.proofs.trail.Trail.note.Goals as goal

pub returns-clause-left : goal.returns-clause-left
returns-clause-left g c = λ r ask answered asks made origins.
    let before = c.args.before in
    let later = c.args.self.now.replayer.world in
    let place = c.args.place in
    let ends : ends_all r place ≡ c.ends_all-ends.result =
    left-ends r place c.args.process c.args.name ask before answered later made ∙ ap (λ (q : Request). not (c.args.name == 0) && is_stop q) asks ∙ sym c.ends_all-ends.ensures in
    let readied : readied_at r place ≡ c.readied-readied.result =
    sym (c.readied-readied.ensures ∙ ap (λ (w : World). if (not before.was_ready) && instance_ready before.instance w then before.instance else 0) c.world.ensures ∙ made.readied) in
    c.note.ensures r origins (left-actor r place c.args.process c.args.name ask before answered later made) (left-number r place c.args.process c.args.name ask before answered later made) (sym made.duty) readied ends
