use Rattle.std.proofs.Common.{◌≡◌, map}
use Rattle.std.specs.List.{filter_map}
use Rattle.sr_processes.specs.Tables.{number_in}
use Rattle.sr_processes.proofs.processes.Processes.of_instance.Given as goal

abbrev pub invariant-loop-seat : goal.invariant-loop-seat
invariant-loop-seat l = l.numbers ≡ filter_map (number_in l.instance) (map (λ seat. seat.now) l.yielded)
