-- The operation is the one that the name means.
use Rattle.std.proofs.Common.{◌≡◌, OnOk, subst}
use Rattle.sr_names.specs.declared.spot.Spot.{Spot}
use Rattle.sr_outline.specs.Numbers.{receive_names, received_names}
use Rattle.sr_tables.specs.Tables.{with_spots}
use Rattle.sr_outline.proofs.variables.note_received.Goals as goal

pub returns : goal.returns
unfolding received_names
returns c =
    subst (λ (spot : Spot). OnOk c.note_receive.result (c.note_receive.new.names ≡ with_spots c.args.names.now (receive_names c.args.facts.now c.args.span spot c.args.places.now)))
    c.meant_by.ensures
    c.note_receive.ensures
