use Rattle.std.proofs.Common.{ap, sym, ◌∙◌, unwrap_or}
use Rattle.std.specs.Prelude.{find}
use Rattle.sr_calls.specs.Calls.{answers_one}
use Rattle.sr_calls.proofs.ProcessCallsLemmas.{no_process_calls, replies-here, same_look}
use Rattle.sr_calls.proofs.bucket.Bucket.earliest.Goals as goal

pub returns-in-Some : goal.returns-in-Some
returns-in-Some c =
    let es = c.self.inside.by_process.entries in
    c.earliest.ensures
    ∙ sym (ap (find (answers_one c.args.ids.now)) (replies-here es es c.args.self.now c.self.view_is c.args.caller ∙ ap (λ o. (unwrap_or o no_process_calls).replies) (sym (same_look es c.args.caller) ∙ sym c.in-Some.ensures.value)))

pub returns-in-None : goal.returns-in-None
returns-in-None c =
    let es = c.self.inside.by_process.entries in
    sym (ap (find (answers_one c.args.ids.now)) (replies-here es es c.args.self.now c.self.view_is c.args.caller ∙ ap (λ o. (unwrap_or o no_process_calls).replies) (sym (same_look es c.args.caller) ∙ sym c.in-None.ensures.value)))
