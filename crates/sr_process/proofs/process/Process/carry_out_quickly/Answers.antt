use Rattle.std.proofs.Common.{◌-◌, refl}
use Rattle.sr_execute.specs.Executes.{begun}
use Rattle.sr_process.specs.Processes.{here_in}
use Rattle.sr_process.proofs.Moves.{fails_quickly, goes_quickly, left_quickly}
use Rattle.sr_process.proofs.process.Process.carry_out_quickly.Goals as goal

pub returns-in-Goes : goal.returns-in-Goes
returns-in-Goes c =
    goes_quickly c.args.program.now c.args.self.now (record c.args.self.now { frame = c.execute_quickly.new.frame; address = c.in-Goes.to }) c.args.coded.now c.execute_quickly.new.frame c.in_ok-carried.carried c.in-Goes.to c.requires.runs c.requires.at
    c.in_ok-carried.ensures c.in-Goes.is refl

pub returns-in-Faults : goal.returns-in-Faults
returns-in-Faults c =
    fails_quickly c.args.program.now c.args.self.now c.fail.new.self c.args.coded.now c.execute_quickly.new.frame c.in_ok-carried.carried c.in-Faults.fault c.requires.runs c.requires.at
    c.in_ok-carried.ensures c.in-Faults.is c.fail.ensures

pub returns-in-Left : goal.returns-in-Left
returns-in-Left c =
    left_quickly c.args.self.now c.execute_quickly.new.frame c.in_ok-carried.carried
    (begun c.args.program.now.core.names c.args.coded.now.instruction (here_in c.args.self.now c.args.coded.now.place) (c.args.self.now.address - 1) c.args.self.now.frame.operands c.args.self.now.frame)
    c.in_ok-carried.ensures c.in-Left.is
