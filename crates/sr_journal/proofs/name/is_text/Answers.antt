use Rattle.sr_journal.proofs.Names.{text-is, text-is-not}
use Rattle.sr_journal.proofs.name.is_text.Goals as goal

pub returns-in-Ok : goal.returns-in-Ok
returns-in-Ok c = text-is c.args.bytes.now c.in-Ok.ensures.cases.1

pub returns-in-Err : goal.returns-in-Err
returns-in-Err c = text-is-not c.args.bytes.now c.in-Err.ensures.cases.0
