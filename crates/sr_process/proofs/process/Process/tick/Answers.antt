use Rattle.std.proofs.Common.{arith}
use Rattle.sr_process.proofs.Leading.{tick_carries}
use Rattle.sr_process.proofs.process.Process.tick.Goals as goal

pub returns-in-Some : goal.returns-in-Some
returns-in-Some c =
    let taken = c.in-Some.ensures in
    tick_carries c.args.program.now c.args.self.now c.args.coded.now c.in-Some.left c.args.to c.requires.runs c.requires.at c.requires.ticks (omega (arith, taken))
