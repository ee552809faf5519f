use Rattle.std.proofs.Common.{refl, sym, ◌∙◌, None, Some}
use Rattle.sr_plain.proofs.CrewLemmas.{lets-all-go, lets-go}
use Rattle.sr_plain.proofs.crew.let_go.Goals as goal

pub returns-then-is_everything : goal.returns-then-is_everything
returns-then-is_everything g c = lets-all-go c.args.world.now c.args.woken c.args.crew.now c.drop_ended.new.crew c.drop_ended.ensures.keeps c.drop_ended.ensures.live

pub returns-in-Some : goal.returns-in-Some
returns-in-Some g c = lets-go c.args.world.now c.args.woken c.args.crew.now c.remove.new.self (Some c.in-Some.process) c.in-Some.is (sym c.is_everything.ensures ∙ c.if-is_everything.false) c.remove.ensures.updates

pub returns-in-None : goal.returns-in-None
returns-in-None g c = lets-go c.args.world.now c.args.woken c.args.crew.now c.args.crew.now None c.in-None.is (sym c.is_everything.ensures ∙ c.if-is_everything.false) refl
