-- The files were read after the journal, and are a program, or none.
use Rattle.std.proofs.Common.{arith, subst, sym}
use Rattle.sr_top.proofs.JournalFiles.{no_program_as, program_as, unread_after}
use Rattle.sr_top.specs.Reading.{AreRead, reads_by}
use Rattle.sr_top.specs.Stages.{EndsProgram}
use Rattle.sr_top.proofs.told_files.program_of.Goals as goal

pub returns-in-Ok-clause-program : goal.returns-in-Ok-clause-program
returns-in-Ok-clause-program g c =
    program_as _ _ _ c.as_slice.result.now c.program_in.result (subst (AreRead _ _) (sym c.as_slice.ensures) c.in-Ok.ensures.read) c.program_in.ensures.program

pub returns-in-Ok-clause-ends : goal.returns-in-Ok-clause-ends
returns-in-Ok-clause-ends g c =
    no_program_as _ _ _ c.as_slice.result.now (reads_by (g.F.Files.readings c.args.files.now) (g.F.Files.faults c.args.files.now)) (reads_by (g.F.Files.readings c.read_files.new.files) (g.F.Files.faults c.read_files.new.files)) c.program_in.result
    (subst (AreRead _ _) (sym c.as_slice.ensures) c.in-Ok.ensures.read) c.in-Ok.ensures.no_fault c.program_in.ensures.ends

pub returns-clause-ends : goal.returns-clause-ends
returns-clause-ends g c =
    let before = reads_by (g.F.Files.readings c.args.files.now) (g.F.Files.faults c.args.files.now) in
    let now = reads_by (g.F.Files.readings c.read_files.new.files) (g.F.Files.faults c.read_files.new.files) in
    subst (EndsProgram _ _ _ before now) (sym c.after_journal.ensures) (unread_after _ _ _ before now (omega arith) c.in-Err.ending c.in-Err.ensures.ends)
