-- Each turn carries the run on, and its stretch comes, or it ends there; after the last all items are made.
use Rattle.std.proofs.Common.{◌≡◌, ◌+◌, ◌-◌, ◌<◌, ◌≤◌, ℕ, List, length, ap, arith, subst, sym}
use Rattle.std.specs.List.{AllByRecursion}
use Rattle.sr_ask.specs.declared.answer.Answer.{Answer}
use Rattle.sr_ask.specs.declared.ask.Asks.{Asks}
use Rattle.sr_classes.specs.Classes.{class_of}
use Rattle.sr_plain.specs.Passing.{FitsItem}
use Rattle.sr_plain.specs.declared.plain.Plain.{Plain}
use Rattle.sr_run.proofs.Advancing.{all_made}
use Rattle.sr_run.proofs.Rounding.{opened, still, unmade}
use Rattle.sr_run.specs.Arranged.{Arrangement, InRounds}
use Rattle.sr_run.specs.Causes.{HasCauseIn}
use Rattle.sr_run.specs.Runs.{Call, Devices}
use Rattle.sr_run.specs.UnderWay.{IsUnderWay, Stage, as_of}
use Rattle.sr_run.specs.declared.end.RunEnd.TheVariants as end
use Rattle.sr_run.specs.declared.intake.Intake.{Intake}
use Rattle.sr_run.proofs.in_rounds.run_rounds_on.Goals as goal

-- the measure
less : (steps old now open_old open_now : ℕ) → old ≤ now → now ≤ steps → old + open_now < now + open_old → (steps - now) + open_now < (steps - old) + open_old
less steps old now open_old open_now more within moves = omega arith

-- the engine that is lent is the one in the box
lent : {A : Type 0} (after : A → List Answer → Asks) (can_feed : A → Type 0) (arrangement : Arrangement) (stage : Stage) (call : Call) (intake : Intake) (engine plain : Plain A) → engine ≡ plain
    → IsUnderWay after can_feed arrangement stage call intake plain → IsUnderWay after can_feed arrangement stage call intake engine
lent after can_feed arrangement stage call intake engine plain is under_way = subst (λ (p : Plain _). IsUnderWay after can_feed arrangement stage call intake p) (sym is) under_way

pub loop-intake-init : goal.loop-intake-init
loop-intake-init g c = record {
  within = omega (arith, ap length c.requires.no_items);
  fit = subst (AllByRecursion FitsItem) (sym c.requires.no_items) tt;
  most = omega arith;
  under_way = λ call steps under_way. under_way;
}

pub loop-intake-preserved : goal.loop-intake-preserved
loop-intake-preserved g c = record {
  within = omega arith;
  fit = c.in-None.ensures.fit c.loop-intake.invariant.fit;
  most = c.in-None.ensures.within;
  under_way = λ call steps begun.
      let arrangement : Arrangement = InRounds (class_of c.args.classes.now.of) c.args.workers c.loop-intake.stretches in
      let devices : Devices = (record { left = g.I.Source.left c.advance.new.input; read_faults = g.I.Source.faults c.advance.new.input; held = g.O.Sink.held c.advance.new.output; write_faults = g.O.Sink.faults c.advance.new.output }) in
      still (g.A.Actor.asks_after c.args.program.now) g.A.Actor.can_feed arrangement c.loop-intake.items (as_of call (g.A.Actor.core_of c.args.program.now) devices c.advance.new.items) c.advance.new.intake c.advance.new.plain (omega arith)
      (c.in-None.ensures.advances arrangement call (omega (arith, steps)) (lent _ _ _ _ _ _ _ _ c.deref_mut.ensures.value (c.loop-intake.invariant.under_way call steps begun)));
}

pub loop-intake-preserved-in-Ok : goal.loop-intake-preserved-in-Ok
loop-intake-preserved-in-Ok g c = record {
  within = c.in-Ok.ensures.within;
  fit = c.in-Ok.ensures.fit (c.in-None.ensures.fit c.loop-intake.invariant.fit);
  most = c.in-None.ensures.within;
  under_way = λ call steps begun.
      let arrangement : Arrangement = InRounds (class_of c.args.classes.now.of) c.args.workers c.loop-intake.stretches in
      let devices : Devices = (record { left = g.I.Source.left c.advance.new.input; read_faults = g.I.Source.faults c.advance.new.input; held = g.O.Sink.held c.advance.new.output; write_faults = g.O.Sink.faults c.advance.new.output }) in
      c.in-Ok.ensures.goes_on call devices c.advance.new.intake steps
      (opened (g.A.Actor.asks_after c.args.program.now) g.A.Actor.can_feed arrangement c.loop-intake.items (as_of call (g.A.Actor.core_of c.args.program.now) devices c.advance.new.items) c.advance.new.intake c.advance.new.plain (omega arith)
      (c.in-None.ensures.advances arrangement call (omega (arith, steps)) (lent _ _ _ _ _ _ _ _ c.deref_mut.ensures.value (c.loop-intake.invariant.under_way call steps begun))));
}

pub loop-intake-smaller : goal.loop-intake-smaller
loop-intake-smaller g c = let moves = c.in-None.ensures.moves in less _ _ _ _ _ moves.no_fewer (omega arith) moves.nearer

pub loop-intake-smaller-in-Ok : goal.loop-intake-smaller-in-Ok
loop-intake-smaller-in-Ok g c =
    let moves = c.in-None.ensures.moves in
    let longer = c.in-Ok.ensures.no_fewer in
    let fewer = moves.no_fewer in
    let nearer = moves.nearer in
    less _ _ _ _ _ (omega (arith, longer, fewer)) c.in-Ok.ensures.within (omega (arith, longer, nearer))

pub returns-in-Some-clause-cause : goal.returns-in-Some-clause-cause
returns-in-Some-clause-cause g c = λ call steps begun.
    c.in-Some.ensures.advances (InRounds (class_of c.args.classes.now.of) c.args.workers c.loop-intake.stretches) call (omega (arith, steps)) (lent _ _ _ _ _ _ _ _ c.deref_mut.ensures.value (c.loop-intake.invariant.under_way call steps begun))

pub returns-in-Err-clause-cause : goal.returns-in-Err-clause-cause
returns-in-Err-clause-cause g c = λ call steps begun.
    let arrangement : Arrangement = InRounds (class_of c.args.classes.now.of) c.args.workers c.loop-intake.stretches in
    let devices : Devices = (record { left = g.I.Source.left c.advance.new.input; read_faults = g.I.Source.faults c.advance.new.input; held = g.O.Sink.held c.advance.new.output; write_faults = g.O.Sink.faults c.advance.new.output }) in
    subst (λ stretches. HasCauseIn (InRounds (class_of c.args.classes.now.of) c.args.workers stretches) (as_of call (g.A.Actor.core_of c.args.program.now) devices c.add_stretch.new.items) end.NoMemory) (sym c.in-Err.ensures.same_stretches)
    (subst (λ items. HasCauseIn arrangement (as_of call (g.A.Actor.core_of c.args.program.now) devices items) end.NoMemory) (sym c.in-Err.ensures.same_items)
    (unmade (g.A.Actor.asks_after c.args.program.now) g.A.Actor.can_feed (class_of c.args.classes.now.of) c.args.workers c.loop-intake.stretches (as_of call (g.A.Actor.core_of c.args.program.now) devices c.advance.new.items) c.advance.new.intake c.advance.new.plain
    (opened (g.A.Actor.asks_after c.args.program.now) g.A.Actor.can_feed arrangement c.loop-intake.items (as_of call (g.A.Actor.core_of c.args.program.now) devices c.advance.new.items) c.advance.new.intake c.advance.new.plain (omega arith)
    (c.in-None.ensures.advances arrangement call (omega (arith, steps)) (lent _ _ _ _ _ _ _ _ c.deref_mut.ensures.value (c.loop-intake.invariant.under_way call steps begun))))))

pub returns-in-Err-clause-within : goal.returns-in-Err-clause-within
returns-in-Err-clause-within g c = let more = c.in-None.ensures.one_more in omega (arith, more, ap length c.in-Err.ensures.same_items)

pub returns-in-Err-clause-fit : goal.returns-in-Err-clause-fit
returns-in-Err-clause-fit g c = subst (AllByRecursion FitsItem) (sym c.in-Err.ensures.same_items) (c.in-None.ensures.fit c.loop-intake.invariant.fit)

pub returns-clause-cause : goal.returns-clause-cause
returns-clause-cause g c = λ call steps begun.
    all_made (g.A.Actor.asks_after c.args.program.now) g.A.Actor.can_feed (InRounds (class_of c.args.classes.now.of) c.args.workers c.loop-intake.stretches)
    (as_of call (g.A.Actor.core_of c.args.program.now)
    (record { left = g.I.Source.left c.loop-intake.input; read_faults = g.I.Source.faults c.loop-intake.input; held = g.O.Sink.held c.loop-intake.output; write_faults = g.O.Sink.faults c.loop-intake.output }) c.loop-intake.items)
    c.loop-intake.intake c.loop-intake.plain.value (c.loop-intake.invariant.under_way call steps begun) (omega (arith, steps))
