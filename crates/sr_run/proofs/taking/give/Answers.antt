-- The engine got the bytes, or there was no memory for them.
use Rattle.std.proofs.Common.{inl, refl}
use Rattle.sr_run.proofs.Waiting.{input_given, input_lost, world_open}
use Rattle.sr_run.specs.UnderWay.{as_of}
use Rattle.sr_run.proofs.taking.give.Goals as goal

pub returns-in-Ok-clause-advances : goal.returns-in-Ok-clause-advances
returns-in-Ok-clause-advances g c =
    λ program arrangement call left passed waiting.
    inl (
      refl,
      input_given (g.A.Actor.asks_after program) g.A.Actor.can_feed arrangement (as_of call (g.A.Actor.core_of program) call.now call.items) c.args.intake.now c.args.plain.now waiting c.args.bytes.now left passed c.requires.most
          c.give.new.self
          (c.in-Ok.ensures.ok program call.ticks waiting.under_way.state waiting.under_way.events waiting.under_way.engine
          (world_open (g.A.Actor.asks_after program) g.A.Actor.can_feed arrangement (as_of call (g.A.Actor.core_of program) call.now call.items) c.args.intake.now c.args.plain.now waiting)),
    )

pub returns-in-Err-clause-advances : goal.returns-in-Err-clause-advances
returns-in-Err-clause-advances g c =
    λ program arrangement call left passed waiting.
    input_lost (g.A.Actor.asks_after program) g.A.Actor.can_feed arrangement (as_of call (g.A.Actor.core_of program) call.now call.items) c.args.intake.now c.args.plain.now waiting c.args.bytes.now left passed c.requires.most
