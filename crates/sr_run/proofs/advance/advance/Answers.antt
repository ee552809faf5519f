-- What each answer of the engine does to a run that is under way.
use Rattle.std.proofs.Common.{◌≡◌, subst}
use Rattle.sr_run.proofs.Advancing.{ends_with, out_of_memory, over_ticks, steps_on, wants_input}
use Rattle.sr_run.specs.UnderWay.{PutsItem, as_of}
use Rattle.sr_run.proofs.advance.advance.Goals as goal

pub returns-in-Ok-Stepped-clause-advances : goal.returns-in-Ok-Stepped-clause-advances
returns-in-Ok-Stepped-clause-advances g c =
    λ arrangement call fewer under_way.
    let present = as_of call (g.A.Actor.core_of c.args.program.now)
    (record { left = g.I.Source.left c.args.input.now; read_faults = g.I.Source.faults c.args.input.now; held = g.O.Sink.held c.args.output.now; write_faults = g.O.Sink.faults c.args.output.now }) c.args.items.now in
    let same : c.as_bytes.result.now ≡ c.in-Ok-Stepped.text = cc in
    steps_on (g.A.Actor.asks_after c.args.program.now) g.A.Actor.can_feed arrangement present c.args.intake.now c.args.plain.now under_way c.in-Ok-Stepped.item c.put_item.new.items
    c.in-Ok-Stepped.text (g.O.Sink.held c.put_item.new.output) (g.O.Sink.faults c.put_item.new.output) c.in-Ok-Stepped.field-0 c.step.new.self c.put_item.result c.in-Ok-Stepped.field-0-is
    (c.in-Ok-Stepped.ensures call.ticks under_way.state under_way.events under_way.engine)
    (subst
    (λ bytes. PutsItem c.in-Ok-Stepped.item bytes c.args.items.now c.put_item.new.items (g.O.Sink.held c.args.output.now) (g.O.Sink.held c.put_item.new.output)
    (g.O.Sink.faults c.args.output.now) (g.O.Sink.faults c.put_item.new.output) c.put_item.result)
    same c.put_item.ensures.puts)

pub returns-in-Ok-Wants-clause-advances : goal.returns-in-Ok-Wants-clause-advances
returns-in-Ok-Wants-clause-advances g c =
    λ arrangement call fewer under_way.
    let present = as_of call (g.A.Actor.core_of c.args.program.now)
    (record { left = g.I.Source.left c.args.input.now; read_faults = g.I.Source.faults c.args.input.now; held = g.O.Sink.held c.args.output.now; write_faults = g.O.Sink.faults c.args.output.now }) c.args.items.now in
    c.take_more.ensures.advances c.args.program.now arrangement present
    (wants_input (g.A.Actor.asks_after c.args.program.now) g.A.Actor.can_feed arrangement present c.args.intake.now c.args.plain.now under_way c.in-Ok-Wants.field-0 c.step.new.self fewer c.in-Ok-Wants.field-0-is (c.in-Ok-Wants.ensures call.ticks under_way.state under_way.events under_way.engine))

pub returns-in-Ok-Over-clause-advances : goal.returns-in-Ok-Over-clause-advances
returns-in-Ok-Over-clause-advances g c =
    λ arrangement call fewer under_way.
    let present = as_of call (g.A.Actor.core_of c.args.program.now)
    (record { left = g.I.Source.left c.args.input.now; read_faults = g.I.Source.faults c.args.input.now; held = g.O.Sink.held c.args.output.now; write_faults = g.O.Sink.faults c.args.output.now }) c.args.items.now in
    over_ticks (g.A.Actor.asks_after c.args.program.now) g.A.Actor.can_feed arrangement present c.args.intake.now c.args.plain.now under_way c.in-Ok-Over.field-0 c.in-Ok-Over.process c.step.new.self fewer c.in-Ok-Over.field-0-is (c.in-Ok-Over.ensures call.ticks under_way.state under_way.events under_way.engine)

pub returns-in-Ok-Ended-clause-advances : goal.returns-in-Ok-Ended-clause-advances
returns-in-Ok-Ended-clause-advances g c =
    λ arrangement call fewer under_way.
    let present = as_of call (g.A.Actor.core_of c.args.program.now)
    (record { left = g.I.Source.left c.args.input.now; read_faults = g.I.Source.faults c.args.input.now; held = g.O.Sink.held c.args.output.now; write_faults = g.O.Sink.faults c.args.output.now }) c.args.items.now in
    ends_with (g.A.Actor.asks_after c.args.program.now) g.A.Actor.can_feed arrangement present c.args.intake.now c.args.plain.now under_way c.in-Ok-Ended.item c.end_with.new.items
    c.in-Ok-Ended.field-0 c.step.new.self c.in-Ok-Ended.end c.end_with.result c.in-Ok-Ended.field-0-is (c.in-Ok-Ended.ensures call.ticks under_way.state under_way.events under_way.engine) c.end_with.ensures.ends

pub returns-in-Err-clause-advances : goal.returns-in-Err-clause-advances
returns-in-Err-clause-advances g c =
    λ arrangement call fewer under_way.
    let present = as_of call (g.A.Actor.core_of c.args.program.now)
    (record { left = g.I.Source.left c.args.input.now; read_faults = g.I.Source.faults c.args.input.now; held = g.O.Sink.held c.args.output.now; write_faults = g.O.Sink.faults c.args.output.now }) c.args.items.now in
    out_of_memory (g.A.Actor.asks_after c.args.program.now) g.A.Actor.can_feed arrangement present c.args.intake.now c.args.plain.now under_way
