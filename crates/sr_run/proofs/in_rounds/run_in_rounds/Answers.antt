-- A run begins with no item, no stretch and no input, or memory runs out at once.
use Rattle.std.proofs.Common.{[], refl, subst, sym}
use Rattle.std.specs.List.{AllByRecursion}
use Rattle.sr_classes.specs.Classes.{class_of}
use Rattle.sr_run.proofs.Actors.{made-by, numbered}
use Rattle.sr_run.proofs.Begun.{begun, begun_early, fresh}
use Rattle.sr_run.specs.Arranged.{Arrangement, InRounds}
use Rattle.sr_run.specs.Numbers.{IsNumbered}
use Rattle.sr_run.specs.Runs.{Call, Devices}
use Rattle.sr_run.proofs.in_rounds.run_in_rounds.Goals as goal

pub returns-in-Ok-clause-cause : goal.returns-in-Ok-clause-cause
returns-in-Ok-clause-cause g c =
    let devices : Devices = record { left = g.I.Source.left c.args.input.now; read_faults = g.I.Source.faults c.args.input.now; held = g.O.Sink.held c.args.output.now; write_faults = g.O.Sink.faults c.args.output.now } in
    let call : Call = record { core = g.A.Actor.core_of c.args.program.now; steps = c.args.steps; ticks = c.args.ticks; before = devices; now = devices; items = [] } in
    let arrangement : Arrangement = InRounds (class_of c.args.classes.now.of) c.args.workers c.new-stretches.result in
    c.run_rounds_on-end.ensures.cause call refl
    (begun arrangement (fresh (class_of c.args.classes.now.of) c.args.workers c.new-stretches.result c.new-stretches.ensures) (g.A.Actor.core_of c.args.program.now) c.args.steps c.args.ticks devices c.new-items.result c.new-items.ensures
    (g.A.Actor.asks_after c.args.program.now) g.A.Actor.can_feed c.in-Ok.plain.value (c.in-Ok.ensures c.args.program.now))

pub returns-in-Err-clause-cause : goal.returns-in-Err-clause-cause
returns-in-Err-clause-cause g c =
    let devices : Devices = record { left = g.I.Source.left c.args.input.now; read_faults = g.I.Source.faults c.args.input.now; held = g.O.Sink.held c.args.output.now; write_faults = g.O.Sink.faults c.args.output.now } in
    let arrangement : Arrangement = InRounds (class_of c.args.classes.now.of) c.args.workers c.new-stretches.result in
    begun_early arrangement (fresh (class_of c.args.classes.now.of) c.args.workers c.new-stretches.result c.new-stretches.ensures) (g.A.Actor.core_of c.args.program.now) c.args.steps c.args.ticks devices c.new-items.result c.new-items.ensures

pub returns-in-Ok-clause-numbered : goal.returns-in-Ok-clause-numbered
returns-in-Ok-clause-numbered g c = numbered _ (made-by _ _ _ (returns-in-Ok-clause-cause g c)) c.run_rounds_on-end.ensures.fit

pub returns-in-Err-clause-numbered : goal.returns-in-Err-clause-numbered
returns-in-Err-clause-numbered g c = subst (AllByRecursion IsNumbered) (sym c.new-items.ensures) tt
