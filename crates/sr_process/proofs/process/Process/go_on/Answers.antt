use Rattle.std.proofs.Common.{◌-◌, ℕ, true, Ok, ap, subst, sym}
use Rattle.sr_code.specs.declared.instruction.Instruction.{Instruction}
use Rattle.sr_execute.specs.Executes.{begun}
use Rattle.sr_process.specs.Processes.{Carries}
use Rattle.sr_process.proofs.Leading.{jump_carries}
use Rattle.sr_process.proofs.process.Process.go_on.Goals as goal

pub tick-requires-clause-ticks : goal.tick-requires-clause-ticks
tick-requires-clause-ticks c = λ names here frame. ap (λ (i : Instruction). begun names i here (c.args.self.now.address - 1) frame.operands frame) c.in-Tick.is

pub tick-requires-in-Again-clause-ticks : goal.tick-requires-in-Again-clause-ticks
tick-requires-in-Again-clause-ticks c = λ names here frame. ap (λ (i : Instruction). begun names i here (c.args.self.now.address - 1) frame.operands frame) c.in-Again.is

pub returns-in-Jump : goal.returns-in-Jump
returns-in-Jump c =
    let P : ℕ → Type 0 = λ to. Carries c.args.program.now (Ok true) c.args.self.now (record c.args.self.now { address = to }) in
    subst P (sym c.min-self.ensures) (jump_carries c.args.program.now c.args.self.now c.args.coded.now c.in-Jump.to c.requires.runs c.requires.at c.in-Jump.is)
