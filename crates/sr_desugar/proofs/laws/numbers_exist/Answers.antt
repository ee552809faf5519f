-- The law of the numbers of the core.
use Rattle.sr_desugar.proofs.CoreNumbers.{codes, procs}
use Rattle.sr_desugar.proofs.laws.numbers_exist.Goals as goal

pub returns : goal.returns
returns c = record { codes = codes; procs = procs }
