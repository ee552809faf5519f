use Rattle.std.proofs.Common.{ap, slice_get, sym, ◌∙◌}
use Rattle.std.specs.Option.{option_flatten, option_map}
use Rattle.sr_processes.proofs.SeatLemmas.{Entry, at-full}
use Rattle.sr_processes.proofs.processes.Processes.at.Goals as goal

pub returns-then-self-len : goal.returns-then-self-len
returns-then-self-len c =
    c.as_ref.ensures.value
    ∙ ap (λ o. option_flatten (option_map (λ (e : Entry). e.1) o)) c.in_ok-seat.ensures.entry
    ∙ sym (at-full c.self.inside.seats.entries c.args.place (sym c.self.invariant.counted ∙ c.if-self-len.true ∙ c.len.ensures.len))
    ∙ ap (λ living. slice_get living.starts c.args.place) c.self.view_is
