-- There is no picture of too many items.
use Rattle.std.proofs.Common.{◌∙◌, refl, sym}
use Rattle.sr_top.proofs.Rooms.{no_room}
use Rattle.sr_top.proofs.tracing.drawn.Goals as goal

pub returns-in-Ok-None-clause-ends : goal.returns-in-Ok-None-clause-ends
returns-in-Ok-None-clause-ends c =
    (refl, no_room c.program.result.now.core c.args.names.now c.args.rows.now (sym c.in-Ok-None.ensures ∙ c.in-Ok-None.field-0-is))
