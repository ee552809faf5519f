use Rattle.std.proofs.Common.{subst, sym}
use Rattle.std.proofs.lemmas.Result.{on_ok_weaker}
use Rattle.sr_races.proofs.LeaveLemmas.{alone-rows, on-any}
use Rattle.sr_races.specs.Origins.{AreOrigins}
use Rattle.sr_races.proofs.walk.Walk.leave_alone.Goals as goal

pub returns-clause-grows : goal.returns-clause-grows
returns-clause-grows g c = on-any c.note.result c.in_ok-give_row_alone.ensures.grows

pub returns-clause-left : goal.returns-clause-left
returns-clause-left g c = λ r made has.
    on_ok_weaker c.note.result
    (λ origins. record {
      rows = alone-rows r c.args.place c.args.name c.args.self.now.origins c.args.self.now.clocks c.give_row_alone.new.self.clocks c.args.ends made has.rows has.origins c.in_ok-give_row_alone.ensures.grows
          c.in_ok-give_row_alone.ensures.row;
      origins = origins;
    })
    (c.note.ensures r (subst (λ x. AreOrigins r c.args.place x) (sym c.give_row_alone.ensures.origins) has.origins) made.nobody made.number made.duty made.readied made.ending)
