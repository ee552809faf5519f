use Rattle.std.proofs.Common.{◌≡◌, true}
use Rattle.sr_journal.specs.Causes.{IsOtherVersion}
use Rattle.sr_journal.proofs.Finals.{other-answer, this-answer}
use Rattle.sr_journal.proofs.reading.read_journal.Goals as goal

pub returns-then-is_other_version : goal.returns-then-is_other_version
returns-then-is_other_version c =
    let a = other-answer c.args.bytes.now (c.is_other_version.ensures.0 c.if-is_other_version.true) in
    record { read = a.read; read_again = a.read_again; version = a.version; truncated = a.truncated; not_journal = a.not_journal }

pub returns : goal.returns
returns c =
    let none : IsOtherVersion c.args.bytes.now → ⊥ = λ o. let yes : c.is_other_version.result ≡ true = c.is_other_version.ensures.1 o in cc in
    let a = this-answer c.args.bytes.now c.journal.result none c.journal.ensures in
    record { read = a.read; read_again = a.read_again; version = a.version; truncated = a.truncated; not_journal = a.not_journal }
