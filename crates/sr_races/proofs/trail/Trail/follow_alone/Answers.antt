-- The item was made, left its number, and has its row; or there was none.
use Rattle.std.proofs.Common.{◌≡◌, ◌+◌, ◌∙◌, arith, subst, sym}
use Rattle.std.specs.Prelude.{◌==◌, not}
use Rattle.sr_races.proofs.FollowLemmas.{comes-to, told-made, told-none}
use Rattle.sr_races.proofs.LeaveLemmas.{alone-made}
use Rattle.sr_races.proofs.TraceLemmas.{act-here, alone-traced, rows-more, runs-alone}
use Rattle.sr_races.specs.Items.{stands_after}
use Rattle.sr_races.specs.Origins.{AreOrigins}
use Rattle.sr_races.specs.Traces.{AreTraced}
use Rattle.sr_replay.specs.Replaying.{IsAt}
use Rattle.sr_races.proofs.trail.Trail.follow_alone.Goals as goal

pub returns-then-not-legal : goal.returns-then-not-legal
returns-then-not-legal g c = λ r is core trailed.
    told-none (g.A.Actor.asks_after c.args.program.now) r c.args.place (g.A.Actor.core_of c.args.program.now) core c.args.item is c.args.self.now.replayer c.step.new.self trailed.at c.in_ok-legal.legal c.in_ok-legal.ensures
    c.if-not-legal.true

pub returns : goal.returns
returns g c = λ r is core trailed.
    let after = g.A.Actor.asks_after c.args.program.now in
    let place = c.args.place in
    let ends = not (c.args.name == 0) in
    let moved = comes-to after r place c.args.item is c.step.new.self
    (told-made after r place (g.A.Actor.core_of c.args.program.now) core c.args.item is c.args.self.now.replayer c.step.new.self trailed.at c.in_ok-legal.legal c.in_ok-legal.ensures c.if-not-legal.false) in
    let made = alone-made r place c.args.item c.args.name ends c.requires.alone is in
    let within = made.within in
    record {
      within = omega (arith, within);
      at = subst (λ x. IsAt after r.core r.limit (stands_after r (place + 1)) x) (sym (c.note_alone.ensures.replayer ∙ c.push_alone.ensures.replayer)) (moved.1 moved.0);
      origins = c.in_ok-note_alone.ensures.left r made (subst (λ x. AreOrigins r place x) (sym c.push_alone.ensures.origins) trailed.origins);
      rows = subst (λ xs. AreTraced r (place + 1) xs) (sym (c.note_alone.ensures.rows ∙ c.in_ok-push_alone.ensures.rows))
          (rows-more r place c.args.self.now.rows _ trailed.rows
          (alone-traced r place c.args.name ends made c.args.self.now.rows c.args.act (runs-alone r place c.args.item c.args.name ends c.requires.alone is)
          (c.requires.act ∙ act-here r place c.args.item is made.asked)));
    }
