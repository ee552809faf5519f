use Rattle.std.proofs.Common.{ap, sym, ◌∙◌, unwrap_or}
use Rattle.std.specs.Prelude.{find}
use Rattle.sr_calls.specs.Calls.{is_held_as}
use Rattle.sr_calls.proofs.ProcessCallsLemmas.{held-here, no_process_calls, same_look}
use Rattle.sr_calls.proofs.bucket.Bucket.holding.Goals as goal

pub returns-in-Some : goal.returns-in-Some
returns-in-Some c =
    let es = c.self.inside.by_process.entries in
    c.holding.ensures
    ∙ sym (ap (find (is_held_as c.args.id)) (held-here es es c.args.self.now c.self.view_is c.args.actor ∙ ap (λ o. (unwrap_or o no_process_calls).held) (sym (same_look es c.args.actor) ∙ sym c.in-Some.ensures.value)))

pub returns-in-None : goal.returns-in-None
returns-in-None c =
    let es = c.self.inside.by_process.entries in
    sym (ap (find (is_held_as c.args.id)) (held-here es es c.args.self.now c.self.view_is c.args.actor ∙ ap (λ o. (unwrap_or o no_process_calls).held) (sym (same_look es c.args.actor) ∙ sym c.in-None.ensures.value)))
