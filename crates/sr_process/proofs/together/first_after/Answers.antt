use Rattle.std.proofs.Common.{rules, w32, subst, sym}
use Rattle.std.proofs.lemmas.Int.{to_z-of_z}
use Rattle.std.proofs.lemmas.Option.{IfSome_then}
use mir.Val.{SFits}
use Rattle.sr_process.specs.Together.{Follows}
use Rattle.sr_process.specs.declared.together.Found.{Found}
use Rattle.sr_process.proofs.Leading.{load_again_leads, number_follows}
use Rattle.sr_process.proofs.together.first_after.Goals as goal

pub returns-in_ok-number_in-in-LoadAgain : goal.returns-in_ok-number_in-in-LoadAgain
returns-in_ok-number_in-in-LoadAgain c =
    let P : Found → Type 0 = λ found. Follows c.args.code.now c.args.own.now c.args.part c.args.address found in
    let fits : SFits w32 c.in_ok-number_in-in-LoadAgain.field-0 = search rules in
    let made = simp to_z-of_z at c.new.ensures in
    subst P (sym made) (load_again_leads c.args.code.now c.args.own.now c.in_ok-instruction_at.field-0.now c.args.part c.args.address c.in_ok-number_in-in-LoadAgain.field-0 (sym c.in_ok-instruction_at.ensures) c.in-LoadAgain.is c.in_ok-number_in-in-LoadAgain.ensures)

pub returns-in_default : goal.returns-in_default
returns-in_default c = IfSome_then c.number_at.result c.number_at.ensures (λ found puts. number_follows c.args.code.now c.args.own.now c.args.part c.args.address found puts)
