use Rattle.sr_process.proofs.Moves.{carry_falls, carry_same}
use Rattle.sr_process.proofs.process.Process.carry_out.Goals as goal

pub returns-clause-same : goal.returns-clause-same
returns-clause-same c =
    carry_same c.args.program.now c.args.self.now c.take_step.new.self c.args.coded.now c.execute.new.frame c.in_ok-step.step c.requires.runs c.requires.at c.in_ok-step.ensures c.take_step.ensures

pub returns-clause-falls : goal.returns-clause-falls
returns-clause-falls c =
    carry_falls c.args.program.now c.args.self.now c.take_step.new.self c.args.coded.now c.execute.new.frame c.in_ok-step.step c.requires.runs c.requires.at c.in_ok-step.ensures c.take_step.ensures
