use Rattle.std.proofs.Common.{◌∙◌, ap}
use Rattle.sr_clock_rows.specs.Lasts.{last_in}
use Rattle.sr_races.specs.Links.{is_take}
use Rattle.sr_races.specs.Origins.{first_some, only_if}
use Rattle.sr_world.specs.Deciding.{is_select}
use Rattle.sr_races.proofs.origins.Origins.after.Goals as goal

pub returns : goal.returns
returns c =
    let origins = c.args.self.now in
    let request = c.args.request.now in
    let service = only_if (is_select request) (last_in origins.makers c.args.answered) in
    let answer = only_if (is_take request) (last_in origins.answerers c.args.answered) in
    c.first_some.ensures ∙ ap (λ o. first_some o c.first_some-other.result) c.service-service.ensures
    ∙ ap (λ o. first_some service o)
    (c.first_some-other.ensures ∙ ap (λ o. first_some o c.of-readier.result) c.answer-answer.ensures ∙ ap (λ o. first_some answer o) c.of-readier.ensures)
