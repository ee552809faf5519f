use Rattle.std.proofs.Common.{◌∙◌, ap}
use Rattle.sr_races.specs.Origins.{only_if}
use Rattle.sr_world.specs.Deciding.{is_select}
use Rattle.sr_races.proofs.origins.Origins.service.Goals as goal

pub returns : goal.returns
returns c = c.only_if.ensures ∙ ap (λ b. only_if b c.of.result) c.is_select.ensures ∙ ap (λ o. only_if (is_select c.args.request.now) o) c.of.ensures
