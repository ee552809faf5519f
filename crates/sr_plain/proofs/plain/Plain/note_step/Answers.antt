use Rattle.sr_plain.proofs.SettleLemmas.{ok_then}
use Rattle.sr_plain.proofs.plain.Plain.note_step.Goals as goal

pub returns-clause-engine : goal.returns-clause-engine
returns-clause-engine g c = ok_then c.settle.result c.settle.ensures.engine (λ settled limit state events engine. settled limit state events (c.in_ok-wake_up.ensures.engine c.args.program.now limit state events engine))
