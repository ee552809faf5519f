use Rattle.std.proofs.Common.{◌∙◌, rules, w32, ap, subst, sym}
use Rattle.std.proofs.lemmas.Int.{to_z-of_z}
use Rattle.std.proofs.lemmas.Option.{IfSome_then}
use mir.Val.{SFits}
use Rattle.sr_value.specs.declared.value.Value.{Value}
use Rattle.sr_core.specs.declared.owner.Root.{Root}
use Rattle.sr_code.specs.declared.instruction.Instruction.TheVariants.{Constant, Spot as spot_instruction}
use Rattle.sr_process.specs.Together.{Puts}
use Rattle.sr_process.specs.declared.together.Found.{Found}
use Rattle.sr_process.proofs.Leading.{constant_leads, spot_then_loads}
use Rattle.sr_process.proofs.together.whole_number_at.Goals as goal

pub returns-in_ok-number_of-in-Constant : goal.returns-in_ok-number_of-in-Constant
returns-in_ok-number_of-in-Constant c =
    let P : Found → Type 0 = λ found. Puts c.args.code.now c.args.own.now c.args.address found in
    let fits : SFits w32 c.in_ok-number_of-in-Constant.field-0 = search rules in
    let made = simp to_z-of_z at c.new.ensures in
    subst P (sym made) (constant_leads c.args.code.now c.args.own.now c.in_ok-value.field-0.now c.args.address c.in_ok-number_of-in-Constant.field-0 (sym c.in_ok-value.ensures)
    (c.in-Constant.is ∙ ap (λ (value : Value). Constant value) c.in_ok-number_of-in-Constant.ensures))

pub returns-in_ok-var-in-Spot : goal.returns-in_ok-var-in-Spot
returns-in_ok-var-in-Spot c =
    IfSome_then c.loaded.result c.loaded.ensures (λ found loads.
    spot_then_loads c.args.code.now c.args.own.now c.in_ok-value.field-0.now c.args.address c.in_ok-var-in-Spot.var found (sym c.in_ok-value.ensures)
    (c.in-Spot.is ∙ ap (λ (root : Root). spot_instruction root) c.in_ok-var-in-Spot.ensures) loads)
