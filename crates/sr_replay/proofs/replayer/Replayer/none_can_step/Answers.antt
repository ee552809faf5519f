use Rattle.std.proofs.Common.{◌∙◌, ap, sym}
use Rattle.sr_replay.proofs.CrewLemmas.{if_ok, on_any}
use Rattle.sr_world.specs.Runs.{asks_in, no_step}
use Rattle.sr_replay.proofs.replayer.Replayer.none_can_step.Goals as goal

pub returns-clause-none : goal.returns-clause-none
returns-clause-none g c = λ limit state stands.
    if_ok c.none_can_step.result
    (λ none blocked.
    blocked limit state (sym (c.in_ok-asks.ensures.stands limit state stands).world) (c.in_ok-asks.ensures.asks limit state stands ∙ ap (λ k. asks_in k limit state) (sym c.core.ensures))
    ∙ ap (λ k. no_step k limit state) c.core.ensures)
    c.none_can_step.ensures.none

pub returns-clause-stands : goal.returns-clause-stands
returns-clause-stands g c = on_any c.none_can_step.result c.in_ok-asks.ensures.stands
