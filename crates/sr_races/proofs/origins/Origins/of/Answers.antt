use Rattle.std.proofs.Common.{◌∙◌}
use Rattle.sr_clock_rows.specs.Lasts.{last_in}
use Rattle.sr_replay.proofs.CrewLemmas.{if_ok}
use Rattle.sr_races.proofs.OriginLemmas.{six-same}
use Rattle.sr_races.specs.Links.{is_take}
use Rattle.sr_world.specs.Deciding.{is_select}
use Rattle.sr_races.specs.Origins.{made_if, only_if}
use Rattle.sr_races.proofs.origins.Origins.of.Goals as goal

pub returns : goal.returns
returns c =
    let origins = c.args.self.now in
    let request = c.args.request.now in
    let last = last_in origins.lasts c.args.process in
    let made = last_in origins.makers c.args.process in
    let service = last_in origins.makers c.args.answered in
    let answer = last_in origins.answerers c.args.answered in
    let ready = last_in origins.readiers c.args.global in
    if_ok c.six.result
    (λ items is.
    is
    ∙ six-same origins.closing c.of-last.result c.maker-maker.result c.service-service.result c.answer-answer.result c.of-readier.result
    last (made_if last made) (only_if (is_select request) service) (only_if (is_take request) answer) ready
    c.of-last.ensures c.maker-maker.ensures c.service-service.ensures c.answer-answer.ensures c.of-readier.ensures)
    c.six.ensures
