use Rattle.std.proofs.Common.{rules, w32, true, List, Ok, refl, subst, sym}
use Rattle.std.proofs.lemmas.Int.{to_z-of_z}
use mir.Val.{SFits}
use Rattle.sr_value.specs.declared.value.Value.{Value}
use Rattle.sr_value.specs.declared.value.Value.TheVariants.{Int}
use Rattle.sr_code.specs.Operands.{put_value}
use Rattle.sr_process.specs.Processes.{Carries}
use Rattle.sr_process.specs.Together.{stand}
use Rattle.sr_process.proofs.Leading.{leads_then}
use Rattle.sr_process.proofs.process.Process.put_found.Goals as goal

pub returns-in-Some : goal.returns-in-Some
returns-in-Some c =
    (leads_then c.args.program.now.code (stand c.args.self.now.frame.own c.args.self.now.address c.args.self.now.frame.operands)
    (stand c.args.self.now.frame.own c.args.found.after (put_value (Int c.args.found.number) c.args.self.now.frame.operands)) (stand c.args.self.now.frame.own c.in-Some.to c.args.self.now.frame.operands)
    (c.requires.puts c.args.self.now.frame.operands) (c.in-Some.ensures c.args.self.now.frame.operands)).carries c.args.program.now c.args.self.now refl c.requires.runs

pub returns-in_ok-push-in-None : goal.returns-in_ok-push-in-None
returns-in_ok-push-in-None c =
    let fits : SFits w32 c.args.found.number = search rules in
    let pushed = simp to_z-of_z at c.in_ok-push-in-None.ensures in
    let P : List Value → Type 0 = λ values.
    Carries c.args.program.now (Ok true) c.args.self.now
    (record c.args.self.now { address = c.args.found.after; frame = record c.args.self.now.frame { operands = record c.args.self.now.frame.operands { values = values } } }) in
    subst P (sym pushed) ((c.requires.puts c.args.self.now.frame.operands).carries c.args.program.now c.args.self.now refl c.requires.runs)
