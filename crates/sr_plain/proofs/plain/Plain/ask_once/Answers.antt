use Rattle.std.proofs.Common.{◌≡◌, ◌∙◌, Option, subst, sym, true}
use Rattle.sr_ask.specs.declared.item.Item.{Item}
use Rattle.sr_classes.specs.Classes.{class_of}
use Rattle.sr_plain.specs.Passing.{AddsItem, item_of}
use Rattle.sr_plain.specs.Waiting.{is_ready}
use Rattle.sr_plain.specs.declared.waiters.Waiters.{Waiters}
use Rattle.sr_plain.proofs.PassLemmas.{adds-one, asked-for, asked-once, left-alone}
use Rattle.sr_plain.proofs.SettleLemmas.{ok_then}
use Rattle.sr_plain.proofs.plain.Plain.ask_once.Goals as goal

pub try_ready-requires-clause-ready : goal.try_ready-requires-clause-ready
try_ready-requires-clause-ready g c = subst (λ (w : Waiters). is_ready w c.args.process ≡ true) (sym c.is_left.ensures.waiters) c.requires.ready

pub try_ready-requires-clause-awake : goal.try_ready-requires-clause-awake
try_ready-requires-clause-awake g c = c.is_left.ensures.woken ∙ c.requires.awake

pub returns-then-left-clause-once : goal.returns-then-left-clause-once
returns-then-left-clause-once g c = λ limit state events engine.
    let after = g.A.Actor.asks_after c.args.program.now in
    let core = g.A.Actor.core_of c.args.program.now in
    left-alone after g.A.Actor.can_feed core (class_of c.args.classes.now.of) limit state events c.args.process (sym (c.in_ok-left.ensures.left limit state events engine) ∙ c.if-left.true)
    c.is_left.new.self (c.in_ok-left.ensures.engine limit state events engine) c.args.made.now

pub returns-clause-once : goal.returns-clause-once
returns-clause-once g c = ok_then c.note_step.result c.note_step.ensures.engine (λ noted limit state events engine.
    let after = g.A.Actor.asks_after c.args.program.now in
    let core = g.A.Actor.core_of c.args.program.now in
    let class = class_of c.args.classes.now.of in
    let engine1 = c.in_ok-left.ensures.engine limit state events engine in
    let tries = c.in_ok-came.ensures.tries limit state events engine1 in
    let left = sym (c.in_ok-left.ensures.left limit state events engine) ∙ c.if-left.false in
    asked-once after g.A.Actor.can_feed core class limit state events c.args.process (item_of c.in_ok-came.came) c.try_ready.new.self c.note_step.new.self
    (asked-for after g.A.Actor.can_feed core class limit state events c.args.process c.in_ok-came.came c.try_ready.new.self tries) left (λ s es. noted limit s es) c.args.made.now c.add_item.new.made
    (subst (λ (o : Option Item). AddsItem o c.args.made.now c.add_item.new.made) c.item_of.ensures c.in_ok-add_item.ensures.adds))

pub returns-clause-within : goal.returns-clause-within
returns-clause-within g c = ok_then c.note_step.result c.note_step.ensures.awake (λ awake. adds-one c.item_of.result c.args.made.now c.add_item.new.made c.in_ok-add_item.ensures.adds)

pub returns-clause-fit : goal.returns-clause-fit
returns-clause-fit g c = ok_then c.note_step.result c.note_step.ensures.awake (λ awake. c.add_item.ensures.fit)
