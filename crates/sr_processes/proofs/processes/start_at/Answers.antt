use Rattle.std.proofs.Common.{ap, option_copied, ◌∙◌}
use Rattle.std.specs.Map.{values_of}
use Rattle.std.specs.Option.{option_flatten}
use Rattle.sr_processes.proofs.SeatLemmas.{at-taken}
use Rattle.sr_processes.proofs.processes.start_at.Goals as goal

pub returns-in_err-taken_at : goal.returns-in_err-taken_at
returns-in_err-taken_at c =
    ap option_copied c.from_residual.ensures ∙ ap option_flatten c.in_err-taken_at.ensures
    ∙ at-taken (values_of c.args.seats.now.entries) c.args.place

pub returns : goal.returns
returns c =
    c.as_ref.ensures.value ∙ ap option_flatten c.in_ok-taken_at.ensures
    ∙ at-taken (values_of c.args.seats.now.entries) c.args.place
