use Rattle.std.proofs.Common.{◌∷◌, ◌++◌, ◌∙◌, [], ap}
use Rattle.sr_ask.specs.declared.start.Start.{Start}
use Rattle.sr_replay.proofs.CrewLemmas.{on_ok}
use Rattle.sr_replay.specs.Parts.{process_at}
use Rattle.sr_replay.proofs.shown.push_process.Goals as goal

pub returns-in_ok-asks-in-Some : goal.returns-in_ok-asks-in-Some
returns-in_ok-asks-in-Some c =
    let s : Start = c.in-Some.start.now in
    on_ok c.push.result
    (λ pushed.
    pushed ∙ ap (λ asks. c.args.shown.now ++ record { process = s.process; instance = s.instance; role = s.role; asks = asks } ∷ []) c.in_ok-asks-in-Some.ensures
    ∙ ap (λ o. c.args.shown.now ++ process_at c.args.asks.now o) c.in-Some.ensures)
    c.push.ensures.ok
