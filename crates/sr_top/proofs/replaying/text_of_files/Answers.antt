-- The program, and what comes after it.
use Rattle.std.proofs.Common.{inl, refl}
use Rattle.sr_top.proofs.Replayed.{no_text_of_as, text_of_as}
use Rattle.sr_top.proofs.replaying.text_of_files.Goals as goal

pub returns-in-Ok-clause-text : goal.returns-in-Ok-clause-text
returns-in-Ok-clause-text g c = text_of_as _ _ _ _ _ _ c.args.journal.now _ _ _ c.in-Ok.ensures.program c.in-Ok.ensures.no_fault c.text_of_program.result c.text_of_program.ensures.lines

pub returns-in-Ok-clause-ends : goal.returns-in-Ok-clause-ends
returns-in-Ok-clause-ends g c = no_text_of_as _ _ _ _ _ _ c.args.journal.now _ _ _ c.in-Ok.ensures.program c.in-Ok.ensures.no_fault c.text_of_program.result c.text_of_program.ensures.ends

pub returns-in-Err-clause-ends : goal.returns-in-Err-clause-ends
returns-in-Err-clause-ends g c = inl (c.in-Err.ensures.ends, refl)
