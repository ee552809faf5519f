-- The files that were read are those of the program.
use Rattle.sr_top.proofs.Readings.{compiled_as}
use Rattle.sr_top.specs.Programs.{classes_in, core_in}
use Rattle.sr_top.proofs.compiling.compile_files.Goals as goal

pub returns-clause-compiled : goal.returns-clause-compiled
returns-clause-compiled g c = compiled_as core_in classes_in _ _ c.compile_into.new.texts c.compile_into.result c.compile_into.ensures.read c.compile_into.ensures.core
