-- The texts that were read are those of the program.
use Rattle.std.proofs.Common.{subst, sym}
use Rattle.std.specs.Prelude.{IfOk}
use Rattle.sr_front.specs.Cores.{IsCoreOf}
use Rattle.sr_front.specs.Reading.{contents_of}
use Rattle.sr_top.proofs.Readings.{stopped_as}
use Rattle.sr_top.specs.Programs.{classes_in, core_in}
use Rattle.sr_top.specs.Reading.{AreRead, reads_by}
use Rattle.sr_top.proofs.compiling.compile_into.Goals as goal

pub returns-in-Ok-clause-core : goal.returns-in-Ok-clause-core
returns-in-Ok-clause-core g c =
    subst (λ texts. IfOk c.compiled.result (λ program. IsCoreOf (contents_of texts) (core_in program, classes_in program))) c.as_slice.ensures c.compiled.ensures.core

pub returns-in-Ok-clause-ends : goal.returns-in-Ok-clause-ends
returns-in-Ok-clause-ends g c =
    stopped_as _ _ c.as_slice.result.now (reads_by (g.F.Files.readings c.args.files.now) (g.F.Files.faults c.args.files.now)) (reads_by (g.F.Files.readings c.read_files.new.files) (g.F.Files.faults c.read_files.new.files)) _ (subst (AreRead _ _) (sym c.as_slice.ensures) c.in-Ok.ensures.read) c.in-Ok.ensures.no_fault c.compiled.ensures.ends
