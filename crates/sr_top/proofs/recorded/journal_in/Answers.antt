-- The journal was read by its name, and its bytes are one, or none.
use Rattle.std.proofs.Common.{◌∙◌, refl, rules, subst, sym}
use Rattle.std.specs.Str.{IsUtf8}
use Rattle.sr_top.proofs.JournalFiles.{bytes_as, first_failed, journal_as, no_journal_as}
use Rattle.sr_top.specs.Reading.{reads_by}
use Rattle.sr_top.specs.Replaying.{AreBytesOf}
use Rattle.sr_top.proofs.recorded.journal_in.Goals as goal

pub returns-in-Ok-read-clause-read : goal.returns-in-Ok-read-clause-read
returns-in-Ok-read-clause-read g c =
    journal_as _ _ _ c.journal_of.result
    (subst (AreBytesOf _ _) (sym c.as_slice.ensures.value) (bytes_as _ _ _ _ (c.in-Ok.ensures.cases.0 ∙ c.as_bytes.ensures) (subst IsUtf8 c.as_bytes.ensures c.in-Ok.ensures.cases.1) c.in-Ok-read.ensures.bytes.1))
    c.journal_of.ensures.is

pub returns-in-Ok-read-clause-ends : goal.returns-in-Ok-read-clause-ends
returns-in-Ok-read-clause-ends g c =
    no_journal_as _ _ _ (reads_by (g.F.Files.readings c.args.files.now) (g.F.Files.faults c.args.files.now)) (reads_by (g.F.Files.readings c.read.new.self) (g.F.Files.faults c.read.new.self)) c.journal_of.result
    (subst (AreBytesOf _ _) (sym c.as_slice.ensures.value) (bytes_as _ _ _ _ (c.in-Ok.ensures.cases.0 ∙ c.as_bytes.ensures) (subst IsUtf8 c.as_bytes.ensures c.in-Ok.ensures.cases.1) c.in-Ok-read.ensures.bytes.1))
    c.in-Ok-read.ensures.cause c.journal_of.ensures.ends

pub returns-in-Err-Failed-clause-ends : goal.returns-in-Err-Failed-clause-ends
returns-in-Err-Failed-clause-ends g c =
    (refl, first_failed (reads_by (g.F.Files.readings c.args.files.now) (g.F.Files.faults c.args.files.now)) (reads_by (g.F.Files.readings c.read.new.self) (g.F.Files.faults c.read.new.self)) (search rules) (search rules) (search rules))
