-- The laws of the readers.
use Rattle.sr_program_reader.proofs.FileLaws.{spelled, none, within, dead}
use Rattle.sr_program_reader.proofs.laws.reads_file.Goals as goal

pub returns : goal.returns
returns c = record { spelled = spelled; none = none; within = within; dead = dead }
