use Rattle.std.proofs.Common.{ap, is_some, position, rules, tests, ◌∙◌}
use Rattle.std.proofs.lemmas.Iterator.Consumers.{YieldsList-at, YieldsList-from_filter, YieldsList-from_rest}
use Rattle.std.proofs.lemmas.Iterator.Search.{position_from_yields_List}
use Rattle.std.specs.Map.{values_of}
use Rattle.sr_processes.specs.Living.{is_among}
use Rattle.sr_processes.proofs.SeatLemmas.{position-taken, seat_is_among}
use Rattle.sr_processes.proofs.processes.Processes.first_among.Goals as goal

pub returns : goal.returns
returns c =
    let seats = values_of c.self.inside.seats.entries in
    position_from_yields_List (seat_is_among c.args.numbers.now) _ _ _ c.position.ensures.ran
    (YieldsList-from_filter _ is_some (YieldsList-at c.filter.ensures.source (YieldsList-from_rest seats c.values.ensures.rest)) c.filter.ensures.closure (λ x b q k. search (rules, tests)))
    (λ x b q k. search (rules, tests))
    ∙ position-taken c.args.numbers.now seats ∙ ap (λ living. position (is_among c.args.numbers.now) living.starts) c.self.view_is
