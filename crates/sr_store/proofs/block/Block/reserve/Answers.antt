use Rattle.std.proofs.Common.{ap, ◌∙◌}
use Rattle.sr_store.proofs.BlockLemmas.{same-table}
use Rattle.sr_store.proofs.block.Block.reserve.Goals as goal

pub returns-clause-variables : goal.returns-clause-variables
returns-clause-variables c = same-table c.self.inside.variables.entries c.try_reserve.new.self.entries c.try_reserve.ensures.entries.2 ∙ ap (λ k. k.variables) c.self.view_is
