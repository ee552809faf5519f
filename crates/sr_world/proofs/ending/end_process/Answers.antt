use Rattle.sr_world.proofs.EndLemmas.{keeps_one}
use Rattle.sr_world.proofs.ending.end_process.Goals as goal

pub returns-clause-replies : goal.returns-clause-replies
returns-clause-replies c = keeps_one c.args.processes.now c.end.new.self c.args.calls.now c.forget.new.self c.args.process c.end.ensures.starts c.forget.ensures.answers
