-- The lines of all that came are there.
use Rattle.std.proofs.Common.{◌≡◌, ◌++◌, take}
use Rattle.std.specs.Prelude.{flat_map}
use Rattle.sr_replay.specs.Texts.{process_line}
use Rattle.sr_replay.proofs.texts.push_processes.Given as goal

abbrev pub invariant-loop-process : goal.invariant-loop-process
invariant-loop-process l = l.text ≡ l.fn.text ++ flat_map process_line (take l.process-index l.processes)
