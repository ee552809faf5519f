use Rattle.std.proofs.Common.{◌∙◌, ◌++◌, ap}
use Rattle.sr_races.specs.Origins.{listed}
use Rattle.sr_races.proofs.origins.Origins.closing_only.Goals as goal

pub returns : goal.returns
returns c = c.in_ok-push_some.ensures ∙ ap (λ xs. xs ++ listed c.args.self.now.closing) c.new-items.ensures
