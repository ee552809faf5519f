use Rattle.std.proofs.Common.{ℤ, Some, rules, w32, subst}
use Rattle.std.specs.Prelude.{IfSome}
use Rattle.std.proofs.lemmas.Int.{to_z-of_z}
use Rattle.std.proofs.lemmas.Option.{IfSome_then}
use mir.Val.{SFits}
use Rattle.sr_code.specs.Operands.{put_place}
use Rattle.sr_process.specs.Together.{Does, place_in}
use Rattle.sr_process.proofs.Leading.{item_does}
use Rattle.sr_process.proofs.together.stretch_of_number.Goals as goal

pub returns-in-Some : goal.returns-in-Some
returns-in-Some c =
    let fits : SFits w32 c.in-Some.index.number = search rules in
    let P : ℤ → Type 0 = λ index. IfSome c.stretch_of_item.result (λ stretch. Does c.args.code.now c.args.own.now (put_place (place_in (record { var = c.args.var; index = Some index }))) c.in-Some.index.after stretch) in
    IfSome_then c.stretch_of_item.result (subst P (to_z-of_z w32 c.in-Some.index.number fits) c.stretch_of_item.ensures) (λ stretch does.
    item_does c.args.code.now c.args.own.now c.args.var c.args.address c.args.number c.in-Some.index stretch c.requires c.in-Some.ensures does)
