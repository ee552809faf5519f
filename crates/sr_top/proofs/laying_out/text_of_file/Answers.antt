-- The file was read by its name, and has a text, or none.
use Rattle.std.proofs.Common.{◌∙◌, refl, rules, subst, sym}
use Rattle.std.specs.Str.{IsUtf8}
use Rattle.sr_top.proofs.JournalFiles.{first_failed}
use Rattle.sr_top.proofs.Layouts.{file_text_as, no_file_text_as}
use Rattle.sr_top.proofs.Readings.{read_as}
use Rattle.sr_top.specs.Reading.{IsRead, reads_by}
use Rattle.sr_top.proofs.laying_out.text_of_file.Goals as goal

pub returns-in-Ok-read-clause-text : goal.returns-in-Ok-read-clause-text
returns-in-Ok-read-clause-text g c =
    file_text_as _ _ c.as_slice.result.now
    (subst (λ bytes. IsRead (g.F.Files.content c.args.files.now) (c.args.name.now, bytes)) (sym c.as_slice.ensures.value)
    (read_as _ _ _ _ (c.in-Ok.ensures.cases.0 ∙ c.as_bytes.ensures) (subst IsUtf8 c.as_bytes.ensures c.in-Ok.ensures.cases.1) c.in-Ok-read.ensures.bytes.1))
    c.text_of_source.result c.text_of_source.ensures.text

pub returns-in-Ok-read-clause-ends : goal.returns-in-Ok-read-clause-ends
returns-in-Ok-read-clause-ends g c =
    no_file_text_as _ _ c.as_slice.result.now
    (subst (λ bytes. IsRead (g.F.Files.content c.args.files.now) (c.args.name.now, bytes)) (sym c.as_slice.ensures.value)
    (read_as _ _ _ _ (c.in-Ok.ensures.cases.0 ∙ c.as_bytes.ensures) (subst IsUtf8 c.as_bytes.ensures c.in-Ok.ensures.cases.1) c.in-Ok-read.ensures.bytes.1))
    (reads_by (g.F.Files.readings c.args.files.now) (g.F.Files.faults c.args.files.now)) (reads_by (g.F.Files.readings c.read.new.self) (g.F.Files.faults c.read.new.self)) c.text_of_source.result
    c.in-Ok-read.ensures.cause c.text_of_source.ensures.ends

pub returns-in-Err-Failed-clause-ends : goal.returns-in-Err-Failed-clause-ends
returns-in-Err-Failed-clause-ends g c =
    (refl, first_failed (reads_by (g.F.Files.readings c.args.files.now) (g.F.Files.faults c.args.files.now)) (reads_by (g.F.Files.readings c.read.new.self) (g.F.Files.faults c.read.new.self)) (search rules) (search rules) (search rules))
