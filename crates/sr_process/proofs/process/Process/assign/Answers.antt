use Rattle.std.proofs.Common.{rules, w32, refl}
use Rattle.std.proofs.lemmas.Int.{to_z-of_z}
use mir.Val.{SFits}
use Rattle.sr_process.proofs.process.Process.assign.Goals as goal

pub returns-in-Ok : goal.returns-in-Ok
returns-in-Ok c =
    let fits : SFits w32 c.args.assigned.found.number = search rules in
    let stored = simp to_z-of_z at c.in-Ok.ensures.stored in
    (c.requires.assigns c.store_number.new.own stored c.args.self.now.frame.operands).carries c.args.program.now c.args.self.now refl c.requires.runs
