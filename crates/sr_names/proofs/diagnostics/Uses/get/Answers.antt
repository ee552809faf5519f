-- The look-up is the map's own.
use Rattle.std.proofs.Common.{ap, ◌∙◌}
use Rattle.sr_names.specs.Uses.{meaning_at}
use Rattle.sr_names.proofs.diagnostics.Uses.get.Goals as goal

pub returns : goal.returns
returns c = c.copied.ensures ∙ c.get.ensures.value ∙ ap (λ meanings. meaning_at meanings c.args.spot) c.self.view_is
