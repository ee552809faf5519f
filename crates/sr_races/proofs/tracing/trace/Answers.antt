-- From the beginning on.
use Rattle.std.proofs.Common.{◌≤◌, List, length, refl, subst, sym}
use Rattle.sr_ask.specs.declared.item.Item.{Item}
use Rattle.sr_races.specs.Items.{Run}
use Rattle.sr_races.proofs.tracing.trace.Goals as goal

pub rows_of-requires : goal.rows_of-requires
rows_of-requires g c = subst (λ (xs : List Item). c.args.upto ≤ length xs) (sym c.as_slice.ensures) c.requires

pub returns : goal.returns
returns g c =
    let r : Run = record { core = g.A.Actor.core_of c.args.program.now; limit = c.args.ticks; input = c.args.input.now; items = c.args.items.now } in
    c.rows_of.ensures r (sym c.as_slice.ensures) refl (c.in_ok-trail.ensures c.args.program.now r refl refl refl)
