use Rattle.sr_classes.specs.Classes.{class_of}
use Rattle.sr_plain.proofs.PassLemmas.{passed-into}
use Rattle.sr_plain.proofs.SettleLemmas.{ok_then}
use Rattle.sr_plain.proofs.plain.Plain.pass.Goals as goal

pub returns-clause-passed : goal.returns-clause-passed
returns-clause-passed g c = ok_then c.push_all.result c.push_all.ensures.ok (λ pushed limit state events engine.
    passed-into (g.A.Actor.asks_after c.args.program.now) g.A.Actor.can_feed (g.A.Actor.core_of c.args.program.now) (class_of c.args.classes.now.of) limit state events c.args.room c.pass_round.new.made c.pass_round.new.self
    (c.in_ok-pass_round.ensures.passed limit state events engine) c.args.items.now c.push_all.new.self pushed)

pub returns-clause-added : goal.returns-clause-added
returns-clause-added g c = ok_then c.push_all.result c.push_all.ensures.ok (λ pushed.
    record { items = c.pass_round.new.made; added = pushed; within = c.in_ok-pass_round.ensures.within; fit = c.in_ok-pass_round.ensures.fit })
