-- What the row says is what the definitions say.
use Rattle.std.proofs.Common.{◌≡◌, ◌∙◌, ℕ, List, [], ◌∷◌, ◌++◌, ap}
use Rattle.std.proofs.lemmas.Result.{on_ok_weaker}
use Rattle.std.specs.Prelude.{Option, Some}
use Rattle.sr_clock_rows.specs.Lasts.{last_in}
use Rattle.sr_races.specs.Origins.{after_in, made_if}
use Rattle.sr_races.specs.Traces.{named_at}
use Rattle.sr_trace.specs.Asking.{act_of, subject_of}
use Rattle.sr_trace.specs.declared.traced.Act.{Act}
use Rattle.sr_trace.specs.declared.traced.Subject.{Subject}
use Rattle.sr_trace.specs.declared.traced.Traced.{Traced}
use Rattle.sr_races.proofs.trail.Trail.push_step.Goals as goal

pub returns-clause-rows : goal.returns-clause-rows
returns-clause-rows g c =
    let origins = c.args.self.now.origins in
    let rows = c.args.self.now.rows in
    let request = c.args.ask.now.request in
    let after : Option ℕ = after_in origins request c.args.answered c.args.global in
    let begun : Option ℕ = made_if (last_in origins.lasts c.args.process) (last_in origins.makers c.args.process) in
    let row : Act → Subject → Option ℕ → Option ℕ → Traced =
    λ act subject begun after.
    record { item = c.args.place; process = c.args.process; runs = c.args.runs; act = act; subject = subject; begun_by = begun; after = after; place = Some c.args.ask.now.place } in
    let named : c.operation_at-named.result ≡ named_at rows after =
    c.operation_at-named.ensures ∙ ap (λ (xs : List Traced). named_at xs c.after-after.result) c.as_slice.ensures ∙ ap (λ o. named_at rows o) c.after-after.ensures in
    let subject : c.subject_of-subject.result ≡ subject_of request (named_at rows after) = c.subject_of-subject.ensures ∙ ap (λ o. subject_of request o) named in
    on_ok_weaker c.push.result
    (λ is.
    is ∙ ap (λ act. rows ++ row act c.subject_of-subject.result c.maker-begun_by.result c.after-after.result ∷ []) c.act_of-act.ensures
    ∙ ap (λ subject. rows ++ row (act_of request) subject c.maker-begun_by.result c.after-after.result ∷ []) subject
    ∙ ap (λ begun. rows ++ row (act_of request) (subject_of request (named_at rows after)) begun c.after-after.result ∷ []) c.maker-begun_by.ensures
    ∙ ap (λ after-is. rows ++ row (act_of request) (subject_of request (named_at rows after)) begun after-is ∷ []) c.after-after.ensures)
    c.push.ensures.ok
