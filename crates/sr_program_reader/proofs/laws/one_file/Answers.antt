-- The law of the grammar follows from the readers, which give one answer.
use Rattle.sr_program_reader.proofs.FileLaws.{one-file}
use Rattle.sr_program_reader.proofs.laws.one_file.Goals as goal

pub returns : goal.returns
returns c = one-file
