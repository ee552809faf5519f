-- What was taken out is what was there.
use Rattle.std.proofs.Common.{◌≡◌, List, IfOk, subst}
use Rattle.sr_core.specs.declared.component.Operation.{Operation}
use Rattle.sr_names.specs.declared.spot.Spot.{Spot}
use Rattle.sr_tables.specs.Tables.{things_in}
use Rattle.sr_desugar.proofs.program.take_operations.Goals as goal

pub returns : goal.returns
returns c =
    subst (λ (table : List (Spot × Operation)). IfOk c.into_things.result (λ operations. operations ≡ things_in table))
    c.replace-operations.ensures.value c.into_things.ensures
