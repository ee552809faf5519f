use Rattle.std.proofs.Common.{◌∙◌, ap}
use Rattle.sr_clock_rows.specs.Lasts.{last_in}
use Rattle.sr_races.specs.Origins.{made_if}
use Rattle.sr_races.proofs.origins.Origins.maker.Goals as goal

pub returns : goal.returns
returns c = c.made_if.ensures ∙ ap (λ o. made_if o c.of-2.result) c.of.ensures ∙ ap (λ o. made_if (last_in c.args.self.now.lasts c.args.process) o) c.of-2.ensures
