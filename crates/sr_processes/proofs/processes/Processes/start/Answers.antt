use Rattle.std.proofs.Common.{ap, option_copied, sym, ◌∙◌}
use Rattle.std.specs.Option.{option_flatten}
use Rattle.sr_processes.specs.Living.{start_of}
use Rattle.sr_processes.proofs.SeatLemmas.{look-up}
use Rattle.sr_processes.proofs.processes.Processes.start.Goals as goal

pub returns-in_err-get : goal.returns-in_err-get
returns-in_err-get c =
    let table = c.self.invariant.table in
    ap option_copied c.from_residual.ensures ∙ ap option_flatten c.in_err-get.ensures.value
    ∙ sym (look-up c.args.process c.self.inside.seats.entries table.numbered table.distinct)
    ∙ ap (λ living. start_of living.starts c.args.process) c.self.view_is

pub returns : goal.returns
returns c =
    let table = c.self.invariant.table in
    c.as_ref.ensures.value ∙ ap option_flatten c.in_ok-get.ensures.value
    ∙ sym (look-up c.args.process c.self.inside.seats.entries table.numbered table.distinct)
    ∙ ap (λ living. start_of living.starts c.args.process) c.self.view_is
