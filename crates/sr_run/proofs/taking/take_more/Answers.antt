-- The most bytes were taken.
use Rattle.sr_run.proofs.Waiting.{input_full, still_open}
use Rattle.sr_run.specs.UnderWay.{as_of}
use Rattle.sr_run.proofs.taking.take_more.Goals as goal

pub returns-then-most-eq0-clause-advances : goal.returns-then-most-eq0-clause-advances
returns-then-most-eq0-clause-advances g c =
    λ program arrangement call waiting.
    let present = as_of call (g.A.Actor.core_of program) (record { left = g.I.Source.left c.args.input.now; read_faults = g.I.Source.faults c.args.input.now; held = call.now.held; write_faults = call.now.write_faults }) call.items in
    input_full (g.A.Actor.asks_after program) g.A.Actor.can_feed arrangement present c.args.intake.now c.args.plain.now waiting
    (c.piece_of-most.ensures.none c.if-most-eq0.true (still_open (g.A.Actor.asks_after program) g.A.Actor.can_feed arrangement present c.args.intake.now c.args.plain.now waiting))
