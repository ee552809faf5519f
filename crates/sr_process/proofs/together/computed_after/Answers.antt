use Rattle.std.proofs.Common.{rules, w32, subst, sym}
use Rattle.std.proofs.lemmas.Int.{to_z-of_z}
use mir.Val.{SFits}
use Rattle.sr_process.specs.Together.{Replaces}
use Rattle.sr_process.specs.declared.together.Found.{Found}
use Rattle.sr_process.proofs.Leading.{two_replace}
use Rattle.sr_process.proofs.together.computed_after.Goals as goal

pub returns-in_ok-computed-in-Operate : goal.returns-in_ok-computed-in-Operate
returns-in_ok-computed-in-Operate c =
    let P : Found → Type 0 = λ found. Replaces c.args.code.now c.args.own.now c.args.first found in
    let fits : SFits w32 c.in_ok-computed-in-Operate.field-0 = search rules in
    let one_fits : SFits w32 c.args.first.number = search rules in
    let two_fits : SFits w32 c.in_ok-second.second.number = search rules in
    let made = simp to_z-of_z at c.new.ensures in
    let gives = simp to_z-of_z at c.in_ok-computed-in-Operate.ensures in
    subst P (sym made) (two_replace c.args.code.now c.args.own.now c.args.first c.in_ok-second.second c.in_ok-op.field-0.now c.in-Operate.op c.in_ok-computed-in-Operate.field-0
    c.in_ok-second.ensures (sym c.in_ok-op.ensures) c.in-Operate.is gives)
