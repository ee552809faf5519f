-- The files that were read are those of the program and of the journal.
use Rattle.sr_top.proofs.Journals.{prepared_as, unprepared_as}
use Rattle.sr_top.specs.Reading.{reads_by}
use Rattle.sr_top.proofs.preparing.prepare.Goals as goal

pub returns-in-Ok-clause-prepared : goal.returns-in-Ok-clause-prepared
returns-in-Ok-clause-prepared g c =
    prepared_as _ _ _ _ _ _ _ c.as_slice.result.now c.with_header.result c.as_slice.ensures c.in-Ok.ensures.read c.in-Ok.ensures.core c.with_header.ensures.program c.with_header.ensures.header

pub returns-in-Ok-clause-ends : goal.returns-in-Ok-clause-ends
returns-in-Ok-clause-ends g c = unprepared_as _ _ (reads_by (g.F.Files.readings c.args.files.now) (g.F.Files.faults c.args.files.now)) (reads_by (g.F.Files.readings c.compile_into.new.files) (g.F.Files.faults c.compile_into.new.files)) c.with_header.result c.in-Ok.ensures.no_fault c.with_header.ensures.ends
