use Rattle.std.proofs.Common.{rules, w32, sym}
use Rattle.std.proofs.lemmas.Int.{to_z-of_z}
use Rattle.std.proofs.lemmas.Option.{IfSome_then}
use mir.Val.{SFits}
use Rattle.sr_process.proofs.Leading.{two_decide}
use Rattle.sr_process.proofs.together.decided.Goals as goal

pub returns-in_ok-compared-in-Operate : goal.returns-in_ok-compared-in-Operate
returns-in_ok-compared-in-Operate c =
    let one_fits : SFits w32 c.args.first.number = search rules in
    let two_fits : SFits w32 c.in_ok-second.second.number = search rules in
    let gives = simp to_z-of_z at c.in_ok-compared-in-Operate.ensures in
    IfSome_then c.jumped.result c.jumped.ensures (λ to jumps.
    two_decide c.args.code.now c.args.own.now c.args.first c.in_ok-second.second c.in_ok-op.field-0.now c.in-Operate.op c.in_ok-compared-in-Operate.field-0 to c.in_ok-second.ensures (sym c.in_ok-op.ensures) c.in-Operate.is gives (jumps c.args.own.now))
