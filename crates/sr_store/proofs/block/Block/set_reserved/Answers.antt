use Rattle.std.proofs.Common.{ap, ◌∙◌}
use Rattle.std.specs.FinMap as map
use Rattle.sr_store.proofs.BlockLemmas.{set-table}
use Rattle.sr_store.proofs.block.Block.set_reserved.Goals as goal

pub returns : goal.returns
returns c = set-table c.self.inside.variables.entries c.set_entry.new.table.entries c.args.var c.args.variable c.set_entry.ensures.0 ∙ ap (λ k. map.insert k.variables c.args.var c.args.variable) c.self.view_is
