use Rattle.std.proofs.Common.{is_some, rules, tests}
use Rattle.std.proofs.lemmas.Iterator.Consumers.{YieldsList-at, YieldsList-from_filter, YieldsList-from_rest, nth_from_yields_List}
use Rattle.std.specs.Map.{values_of}
use Rattle.sr_processes.proofs.processes.taken_at.Goals as goal

pub returns : goal.returns
returns c =
    nth_from_yields_List _ _ _ c.nth.ensures.ran
    (YieldsList-from_filter _ is_some (YieldsList-at c.filter.ensures.source (YieldsList-from_rest (values_of c.args.seats.now.entries) c.values.ensures.rest)) c.filter.ensures.closure (λ x b q k. search (rules, tests)))
