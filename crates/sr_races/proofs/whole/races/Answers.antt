use Rattle.std.proofs.Common.{◌≤◌, List, Some, length, refl, subst, sym}
use Rattle.sr_ask.specs.declared.item.Item.{Item}
use Rattle.sr_races.proofs.WholeLemmas.{few-items}
use Rattle.sr_races.specs.Items.{Run}
use Rattle.sr_races.specs.Races.{HasColumns}
use Rattle.sr_races.specs.Walks.{CanWalk}
use Rattle.sr_races.proofs.whole.races.Goals as goal

pub races_on-requires-clause-most : goal.races_on-requires-clause-most
races_on-requires-clause-most g c =
    let has : HasColumns c.args.items.now (Some c.in-Some.columns) =
    subst (λ o. HasColumns c.args.items.now o) c.in-Some.is (subst (λ xs. HasColumns xs c.in_ok-columns.columns) c.as_slice.ensures c.in_ok-columns.ensures) in
    subst (λ (xs : List Item). length xs ≤ 65536) (sym c.as_slice-in-Some.ensures) (few-items c.args.items.now has.0)

pub races_on-requires-clause-can : goal.races_on-requires-clause-can
races_on-requires-clause-can g c =
    let has : HasColumns c.args.items.now (Some c.in-Some.columns) =
    subst (λ o. HasColumns c.args.items.now o) c.in-Some.is (subst (λ xs. HasColumns xs c.in_ok-columns.columns) c.as_slice.ensures c.in_ok-columns.ensures) in
    subst (λ (xs : List Item). CanWalk xs 0 c.in_ok-walk-in-Some.walk) (sym c.as_slice-in-Some.ensures) (c.in_ok-walk-in-Some.ensures.can c.args.items.now has.1)

pub returns-in_ok-walk-in-Some : goal.returns-in_ok-walk-in-Some
returns-in_ok-walk-in-Some g c =
    let has : HasColumns c.args.items.now (Some c.in-Some.columns) =
    subst (λ o. HasColumns c.args.items.now o) c.in-Some.is (subst (λ xs. HasColumns xs c.in_ok-columns.columns) c.as_slice.ensures c.in_ok-columns.ensures) in
    let r : Run = record { core = g.A.Actor.core_of c.args.program.now; limit = c.args.ticks; input = c.args.input.now; items = c.args.items.now } in
    c.races_on.ensures r (sym c.as_slice-in-Some.ensures) refl has.0 (c.in_ok-walk-in-Some.ensures.walked c.args.program.now r refl refl refl has.1)

pub returns-in-None : goal.returns-in-None
returns-in-None g c = subst (λ o. HasColumns c.args.items.now o) c.in-None.is (subst (λ xs. HasColumns xs c.in_ok-columns.columns) c.as_slice.ensures c.in_ok-columns.ensures)
