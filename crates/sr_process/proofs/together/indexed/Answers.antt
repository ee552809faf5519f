use Rattle.std.proofs.Common.{rules, w32, subst, sym}
use Rattle.std.proofs.lemmas.Int.{to_z-of_z}
use mir.Val.{SFits}
use Rattle.sr_process.specs.Together.{Indexes}
use Rattle.sr_process.specs.declared.together.Found.{Found}
use Rattle.sr_process.proofs.Leading.{then_indexes}
use Rattle.sr_process.proofs.together.indexed.Goals as goal

pub returns-in-At : goal.returns-in-At
returns-in-At c =
    let P : Found → Type 0 = λ index. Indexes c.args.code.now c.args.first index in
    let fits : SFits w32 c.args.first.number = search rules in
    let made = simp to_z-of_z at c.new.ensures in
    subst P (sym made) (then_indexes c.args.code.now c.in_ok-instruction_at.field-0.now c.in_ok-instruction_at-2.field-0.now c.args.first (sym c.in_ok-instruction_at.ensures) c.in-ToNumber.is (sym c.in_ok-instruction_at-2.ensures) c.in-At.is)
