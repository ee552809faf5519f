use Rattle.std.proofs.Common.{rules, w32, subst, sym}
use Rattle.std.proofs.lemmas.Int.{to_z-of_z}
use mir.Val.{SFits}
use Rattle.sr_process.specs.Together.{Loads}
use Rattle.sr_process.specs.declared.together.Found.{Found}
use Rattle.sr_process.proofs.Leading.{load_leads}
use Rattle.sr_process.proofs.together.loaded.Goals as goal

pub returns-in_ok-number_in-in-Load : goal.returns-in_ok-number_in-in-Load
returns-in_ok-number_in-in-Load c =
    let P : Found → Type 0 = λ found. Loads c.args.code.now c.args.own.now c.args.part c.args.address found in
    let fits : SFits w32 c.in_ok-number_in-in-Load.field-0 = search rules in
    let made = simp to_z-of_z at c.new.ensures in
    subst P (sym made) (load_leads c.args.code.now c.args.own.now c.in_ok-instruction_at.field-0.now c.args.part c.args.address c.in_ok-number_in-in-Load.field-0 (sym c.in_ok-instruction_at.ensures) c.in-Load.is c.in_ok-number_in-in-Load.ensures)
