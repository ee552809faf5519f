use Rattle.std.proofs.Common.{◌≡◌, map, option_map}
use Rattle.std.specs.List.{filter_map}
use Rattle.sr_ask.specs.declared.start.Start.{Start}
use Rattle.sr_processes.proofs.processes.Processes.numbers.Given as goal

abbrev pub invariant-loop-seat : goal.invariant-loop-seat
invariant-loop-seat l = l.numbers ≡ filter_map (option_map (λ (start : Start). start.process)) (map (λ seat. seat.now) l.yielded)
