use Rattle.std.proofs.Common.{refl}
use Rattle.sr_actor.proofs.CrewLemmas.{updated-others}
use Rattle.sr_actor.proofs.crew.begin.Goals as goal

pub returns : goal.returns
returns g c = record {
  member = record { instance = c.args.start.now.instance; actor = c.in_ok-actor.actor };
  itself = c.in_ok-insert.ensures.updates.1;
  others = updated-others c.args.start.now.process c.args.crew.now c.insert.new.self _ c.in_ok-insert.ensures.updates;
  instance = refl;
  actor = λ program more. c.in_ok-actor.ensures program more;
}
