use Rattle.std.proofs.Common.{◌≡◌, ap, map, option_map, rules, ◌∙◌}
use Rattle.std.proofs.lemmas.Map.Iter.{iter_end}
use Rattle.std.specs.List.{filter_map}
use Rattle.std.specs.Map.{values_of}
use Rattle.sr_ask.specs.declared.start.Start.{Start}
use Rattle.sr_processes.specs.Living.{numbers_of}
use Rattle.sr_processes.proofs.SeatLemmas.{numbers-all, numbers-step}
use Rattle.sr_processes.proofs.processes.Processes.numbers.Goals as goal

pub loop-seat-preserved : goal.loop-seat-preserved
loop-seat-preserved c =
    numbers-step (option_map (λ (start : Start). start.process)) c.loop-seat.yielded c.in-Some.seat c.loop-seat.numbers _ _ c.loop-seat.invariant c.number_of.ensures c.in_ok-note.ensures

pub returns : goal.returns
returns c =
    let all : map (λ seat. seat.now) c.loop-seat.yielded ≡ values_of c.self.inside.seats.entries = search (rules, iter_end) in
    c.loop-seat.invariant ∙ ap (filter_map (option_map (λ (start : Start). start.process))) all
    ∙ numbers-all (values_of c.self.inside.seats.entries) ∙ ap (λ living. numbers_of living.starts) c.self.view_is
