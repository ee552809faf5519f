use Rattle.std.proofs.Common.{◌≡◌, ◌≤◌, take}
use Rattle.sr_world.specs.Parts.{KeepsReplies, people_of, without_all}
use Rattle.sr_world.proofs.ending.end_processes.Given as goal

abbrev pub invariant-loop-process : goal.invariant-loop-process
invariant-loop-process l = record {
  people : people_of l.processes l.calls ≡ without_all (people_of l.initial.processes l.initial.calls) (take l.process-index l.numbers);
  room : l.initial.processes.room ≤ l.processes.room;
  replies : KeepsReplies l.initial.processes l.initial.calls l.processes l.calls;
}
