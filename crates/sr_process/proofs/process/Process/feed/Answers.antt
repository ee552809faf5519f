use Rattle.sr_process.proofs.Moves.{fed_hears, fed_stands}
use Rattle.sr_process.proofs.process.Process.feed.Goals as goal

pub returns-clause-hears : goal.returns-clause-hears
returns-clause-hears c = fed_hears c.args.self.now c.args.answer

pub returns-clause-stands : goal.returns-clause-stands
returns-clause-stands c = fed_stands c.args.self.now c.args.answer
