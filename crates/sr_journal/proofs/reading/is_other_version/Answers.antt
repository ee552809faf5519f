use Rattle.sr_journal.proofs.Finals.{version-read, version-unread, letters-unread}
use Rattle.sr_journal.proofs.reading.is_other_version.Goals as goal

pub returns-in-Ok-number : goal.returns-in-Ok-number
returns-in-Ok-number c =
    version-read c.args.bytes.now c.in-Ok.rest.now c.in-Ok-number.version c.in-Ok-number.field-0-1.now c.is_known.result c.is_known.ensures.0 c.is_known.ensures.1 c.in-Ok.ensures
    c.in-Ok-number.ensures

pub returns-in-Err-number : goal.returns-in-Err-number
returns-in-Err-number c = version-unread c.args.bytes.now c.in-Ok.rest.now c.in-Err-number.field-0 c.in-Ok.ensures c.in-Err-number.ensures

pub returns-in-Err : goal.returns-in-Err
returns-in-Err c = letters-unread c.args.bytes.now c.in-Err.field-0 c.in-Err.ensures
