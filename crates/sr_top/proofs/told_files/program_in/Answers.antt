-- The first file that differs from what the journal tells, or the program in the files.
use Rattle.std.proofs.Common.{◌∙◌, subst}
use Rattle.sr_top.proofs.JournalFiles.{not_told_as, told_as}
use Rattle.sr_top.specs.Reading.{sizes_of}
use Rattle.sr_top.specs.Replaying.{IsFirstOther}
use Rattle.sr_top.proofs.told_files.program_in.Goals as goal

pub returns-in-Some-clause-ends : goal.returns-in-Some-clause-ends
returns-in-Some-clause-ends c = subst (λ told. IsFirstOther (sizes_of c.args.texts.now) told c.in-Some.file) c.as_slice.ensures c.in-Some.ensures.other

pub returns-in-None-clause-program : goal.returns-in-None-clause-program
returns-in-None-clause-program c = told_as c.args.header.now c.args.texts.now c.compiled.result (c.in-None.ensures.same ∙ c.as_slice.ensures) c.compiled.ensures.core

pub returns-in-None-clause-ends : goal.returns-in-None-clause-ends
returns-in-None-clause-ends c = not_told_as c.args.header.now c.args.texts.now c.compiled.result (c.in-None.ensures.same ∙ c.as_slice.ensures) c.compiled.ensures.ends
