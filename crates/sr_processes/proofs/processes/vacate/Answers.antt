use Rattle.std.proofs.Common.{ap, is_some, nat_eq, ◌∙◌}
use Rattle.std.specs.Map.{set_value}
use Rattle.sr_processes.specs.Tables.{starts_in}
use Rattle.sr_processes.proofs.SeatLemmas.{count-vacated, starts-absent, starts-vacated, table-vacated}
use Rattle.sr_processes.proofs.processes.vacate.Goals as goal

pub returns-in-Some-clause-table : goal.returns-in-Some-clause-table
returns-in-Some-clause-table c =
    let written = c.get_mut.follows.holds c.take.new.self in
    table-vacated c.args.process c.args.seats.now.entries _ c.requires (written.0 ∙ ap (set_value (nat_eq c.args.process) c.args.seats.now.entries) c.take.ensures.after) written.4

pub returns-in-Some-clause-starts : goal.returns-in-Some-clause-starts
returns-in-Some-clause-starts c =
    let written = c.get_mut.follows.holds c.take.new.self in
    starts-vacated c.args.process c.args.seats.now.entries _ c.requires (written.0 ∙ ap (set_value (nat_eq c.args.process) c.args.seats.now.entries) c.take.ensures.after)

pub returns-in-Some-clause-counted : goal.returns-in-Some-clause-counted
returns-in-Some-clause-counted c =
    let written = c.get_mut.follows.holds c.take.new.self in
    count-vacated c.args.process c.args.seats.now.entries _ c.requires (written.0 ∙ ap (set_value (nat_eq c.args.process) c.args.seats.now.entries) c.take.ensures.after)
    c.in-Some.seat.now c.is_some.result c.in-Some.ensures.value (c.is_some.ensures ∙ ap is_some c.take.ensures.value)

pub returns-in-None-clause-starts : goal.returns-in-None-clause-starts
returns-in-None-clause-starts c =
    ap (λ m. starts_in m.entries) c.get_mut.follows.holds-at-none
    ∙ starts-absent c.args.process c.args.seats.now.entries c.requires c.in-None.ensures.value
