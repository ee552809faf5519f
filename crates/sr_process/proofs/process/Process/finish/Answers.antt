use Rattle.sr_process.proofs.Moves.{finish_same}
use Rattle.sr_process.proofs.process.Process.finish.Goals as goal

pub returns-clause-same : goal.returns-clause-same
returns-clause-same c =
    finish_same c.args.program.now c.args.self.now c.ask.new.self c.entry_place-place.result c.in_ok-results.results c.requires.runs c.requires.at c.entry_place-place.ensures c.in_ok-results.ensures c.ask.ensures
