-- The input has ended, or gave bytes, or failed.
use Rattle.std.proofs.Common.{◌≡◌, inl, refl, sym, subst, arith}
use Rattle.sr_run.proofs.Known.{at-end, passed-none}
use Rattle.sr_run.proofs.Waiting.{input_ended, input_failed, world_open}
use Rattle.sr_run.specs.UnderWay.{IsWaiting, as_of}
use Rattle.sr_run.proofs.taking.take_into.Goals as goal

pub returns-in-Ok-eq0-clause-advances : goal.returns-in-Ok-eq0-clause-advances
returns-in-Ok-eq0-clause-advances g c =
    λ program arrangement call waiting.
    let present = as_of call (g.A.Actor.core_of program) (record { left = g.I.Source.left c.args.input.now; read_faults = g.I.Source.faults c.args.input.now; held = call.now.held; write_faults = call.now.write_faults }) call.items in
    let zero : c.in-Ok-eq0.field-0 ≡ 0 = omega arith in
    let passed = passed-none (g.I.Source.left c.args.input.now) (g.I.Source.left c.take.new.self) c.in-Ok-eq0.field-0 c.take.new.room zero c.in-Ok-eq0.ensures.bytes.1 in
    inl (
      refl,
      input_ended (g.A.Actor.asks_after program) g.A.Actor.can_feed arrangement present c.args.intake.now c.args.plain.now waiting (g.I.Source.left c.take.new.self) passed
          (at-end (g.I.Source.left c.args.input.now) (g.I.Source.left c.take.new.self) c.in-Ok-eq0.field-0 zero passed c.in-Ok-eq0.ensures.end) (g.I.Source.faults c.take.new.self) c.in-Ok-eq0.ensures.cause c.end_input.new.self
          (c.end_input.ensures program call.ticks waiting.under_way.state waiting.under_way.events waiting.under_way.engine
          (world_open (g.A.Actor.asks_after program) g.A.Actor.can_feed arrangement present c.args.intake.now c.args.plain.now waiting)),
    )

pub returns-in-Ok-clause-advances : goal.returns-in-Ok-clause-advances
returns-in-Ok-clause-advances g c =
    λ program arrangement call waiting.
    let faults = g.I.Source.faults c.take.new.self in
    c.give.ensures.advances program arrangement (record call { now = record call.now { left = g.I.Source.left c.args.input.now; read_faults = faults } }) (g.I.Source.left c.take.new.self) c.in-Ok.ensures.bytes.1
    (subst
    (λ n. IsWaiting (g.A.Actor.asks_after program) g.A.Actor.can_feed arrangement
    (as_of call (g.A.Actor.core_of program) (record { left = g.I.Source.left c.args.input.now; read_faults = n; held = call.now.held; write_faults = call.now.write_faults }) call.items)
    c.args.intake.now c.args.plain.now)
    (sym c.in-Ok.ensures.cause) waiting)

pub returns-in-Err-clause-advances : goal.returns-in-Err-clause-advances
returns-in-Err-clause-advances g c =
    λ program arrangement call waiting.
    input_failed (g.A.Actor.asks_after program) g.A.Actor.can_feed arrangement
    (as_of call (g.A.Actor.core_of program) (record { left = g.I.Source.left c.args.input.now; read_faults = g.I.Source.faults c.args.input.now; held = call.now.held; write_faults = call.now.write_faults }) call.items)
    c.args.intake.now c.args.plain.now waiting (g.I.Source.left c.take.new.self) c.in-Err.ensures.bytes (g.I.Source.faults c.take.new.self) c.in-Err.ensures.cause
