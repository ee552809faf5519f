-- There are no more items than steps, and the run is under way and whole if it was at the beginning.
use Rattle.std.proofs.Common.{◌≡◌, ◌+◌, ◌-◌, ◌≤◌, length}
use Rattle.std.specs.List.{AllByRecursion}
use Rattle.sr_classes.specs.Classes.{class_of}
use Rattle.sr_plain.specs.Passing.{FitsItem}
use Rattle.sr_run.proofs.Begun.{nothing_taken}
use Rattle.sr_run.specs.Arranged.{InRounds}
use Rattle.sr_run.specs.Runs.{Call}
use Rattle.sr_run.specs.UnderWay.{IsUnderWay, Whole, as_of, open_input}
use Rattle.sr_run.proofs.in_rounds.run_rounds_on.Given as goal

abbrev pub invariant-loop-intake : goal.invariant-loop-intake
invariant-loop-intake g l = record {
  within : length l.items ≤ l.steps;
  fit : AllByRecursion FitsItem l.items;
  most : l.intake.taken ≤ 67108864;
  under_way : (call : Call) → call.steps ≡ l.steps
      → IsUnderWay (g.A.Actor.asks_after l.program) g.A.Actor.can_feed (InRounds (class_of l.classes.of) l.workers l.fn.stretches) Whole
      (as_of call (g.A.Actor.core_of l.program) (record { left = g.I.Source.left l.fn.input; read_faults = g.I.Source.faults l.fn.input; held = g.O.Sink.held l.fn.output; write_faults = g.O.Sink.faults l.fn.output }) l.fn.items)
      nothing_taken l.fn.plain.value
      → IsUnderWay (g.A.Actor.asks_after l.program) g.A.Actor.can_feed (InRounds (class_of l.classes.of) l.workers l.stretches) Whole
      (as_of call (g.A.Actor.core_of l.program) (record { left = g.I.Source.left l.input; read_faults = g.I.Source.faults l.input; held = g.O.Sink.held l.output; write_faults = g.O.Sink.faults l.output }) l.items)
      l.intake l.plain.value;
}

abbrev pub decreases-loop-intake : goal.decreases-loop-intake
decreases-loop-intake g l = (l.steps - length l.items) + open_input l.intake
