-- The tables are those of the components.
use Rattle.std.proofs.Common.{◌≡◌, IfOk, subst}
use Rattle.sr_tables.specs.declared.tables.Tables.{Tables}
use Rattle.sr_tables.specs.Parts.{components_in}
use Rattle.sr_desugar.specs.Core.{core_by}
use Rattle.sr_desugar.proofs.program.to_core.Goals as goal

pub returns : goal.returns
returns c =
    subst (λ (tables : Tables). IfOk c.core_in.result (λ program. program ≡ core_by c.args.facts (components_in c.args.files.now) tables))
    c.in_ok-tables.ensures c.core_in.ensures
