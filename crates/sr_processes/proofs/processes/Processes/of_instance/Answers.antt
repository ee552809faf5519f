use Rattle.std.proofs.Common.{◌≡◌, ap, map, rules, ◌∙◌}
use Rattle.std.proofs.lemmas.Map.Iter.{iter_end}
use Rattle.std.specs.List.{filter_map}
use Rattle.std.specs.Map.{values_of}
use Rattle.sr_processes.specs.Living.{numbers_in}
use Rattle.sr_processes.specs.Tables.{number_in}
use Rattle.sr_processes.proofs.SeatLemmas.{numbers-instance, numbers-step}
use Rattle.sr_processes.proofs.processes.Processes.of_instance.Goals as goal

pub loop-seat-preserved : goal.loop-seat-preserved
loop-seat-preserved c =
    numbers-step (number_in c.args.instance) c.loop-seat.yielded c.in-Some.seat c.loop-seat.numbers _ _ c.loop-seat.invariant c.number_of_instance.ensures c.in_ok-note.ensures

pub returns : goal.returns
returns c =
    let all : map (λ seat. seat.now) c.loop-seat.yielded ≡ values_of c.self.inside.seats.entries = search (rules, iter_end) in
    c.loop-seat.invariant ∙ ap (filter_map (number_in c.args.instance)) all
    ∙ numbers-instance c.args.instance (values_of c.self.inside.seats.entries)
    ∙ ap (λ living. numbers_in living.starts c.args.instance) c.self.view_is
