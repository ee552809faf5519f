-- One component more is counted; two that show the name are enough.
use Rattle.std.proofs.Common.{sym, ◌∙◌}
use Rattle.sr_names.specs.Scopes.{shown_at}
use Rattle.sr_names.proofs.ShownLemmas.{counted-some, counted-none, often-all}
use Rattle.sr_names.proofs.place.Place.shown_by_declarers.Goals as goal
use Rattle.sr_names.proofs.place.Place.shown_by_declarers.Goals.{in-Some, in_default}

pub returns-then-is_often : goal.returns-then-is_often
returns-then-is_often c =
    often-all (shown_at c.args.self.now.specs c.args.self.now.visible c.args.name.now) c.args.declarers.now c.loop-index.index c.loop-index.shown c.loop-index.invariant (sym c.is_often.ensures ∙ c.if-is_often.true)

pub loop-index-preserved : goal.loop-index-preserved
loop-index-preserved c =
    let place = c.args.self.now in
    let gives = shown_at place.specs place.visible c.args.name.now in
    elim c.match-at.branch [
      | in-Some w ↦ counted-some gives c.args.declarers.now c.loop-index.index c.loop-index.shown c.match-at.shown c.loop-index.invariant c.at.result c.at.ensures
          w.in-Some.spot w.shown_at.result w.in-Some.is w.shown_at.ensures (w.shown-is ∙ w.and-shown.ensures)
      | in_default w ↦ counted-none gives c.args.declarers.now c.loop-index.index c.loop-index.shown c.match-at.shown c.loop-index.invariant c.at.result c.at.ensures w.in_default.is w.shown-is
    ]
