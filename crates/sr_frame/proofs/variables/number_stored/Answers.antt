use Rattle.std.proofs.Common.{rules, w32, List, [], Option, subst}
use Rattle.std.proofs.lemmas.Int.{to_z-of_z}
use mir.Val.{SFits}
use Rattle.sr_value.specs.declared.value.Value.TheVariants.{Int}
use Rattle.sr_ask.specs.declared.environment.Own.{Own}
use Rattle.sr_in_place.specs.Puts.{Wrote}
use Rattle.sr_frame.specs.Variables.{own_stored}
use Rattle.sr_frame.proofs.Stores.{left_there, number_put}
use Rattle.sr_frame.proofs.variables.number_stored.Goals as goal

pub returns-then-put_number : goal.returns-then-put_number
returns-then-put_number c =
    let fits : SFits w32 c.args.number = search rules in
    let put = simp to_z-of_z at c.put_number.ensures.put in
    number_put c.args.own.now c.args.var c.at_mut.result.now c.put_number.new.held c.args.number c.at_mut.ensures.value
    (c.put_number.ensures.numbers c.if-put_number.true) (put c.if-put_number.true)

pub returns : goal.returns
returns c =
    let fits : SFits w32 c.args.number = search rules in
    let stored = simp to_z-of_z at c.part_stored.ensures in
    let same = left_there c.args.own.now c.args.var c.at_mut.result.now c.put_number.new.held c.at_mut.ensures.value (c.put_number.ensures.left c.if-put_number.false) in
    let P : List (Option Own) → Type 0 = λ own. Wrote c.part_stored.result own c.part_stored.new.own (own_stored own c.args.var [] (Int c.args.number)) in
    subst P same stored
