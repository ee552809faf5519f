use Rattle.std.proofs.Common.{rules, w32, subst, sym}
use Rattle.std.proofs.lemmas.Int.{to_z-of_z}
use mir.Val.{SFits}
use Rattle.sr_code.specs.Operands.{put_place}
use Rattle.sr_process.specs.Together.{Does, place_in}
use Rattle.sr_process.specs.declared.together.Found.{Found}
use Rattle.sr_process.specs.declared.together.Stretch.TheVariants.{Stores}
use Rattle.sr_process.proofs.Leading.{then_stores}
use Rattle.sr_process.proofs.together.stored_next.Goals as goal

pub returns-in-Store : goal.returns-in-Store
returns-in-Store c =
    let P : Found → Type 0 = λ found. Does c.args.code.now c.args.own.now (put_place (place_in c.args.part)) c.args.address (Stores (record { part = c.args.part; found = found })) in
    let fits : SFits w32 c.args.number.number = search rules in
    let made = simp to_z-of_z at c.new.ensures in
    subst P (sym made) (then_stores c.args.code.now c.args.own.now c.in_ok-instruction_at.field-0.now c.args.part c.args.address c.args.number c.requires (sym c.in_ok-instruction_at.ensures) c.in-Store.is)
