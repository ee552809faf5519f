use Rattle.sr_gen.proofs.Endings.{acts_lined, acts_through}
use Rattle.sr_gen.proofs.statement.gen_declared.Goals as goal

pub returns : goal.returns
returns c ways line = acts_lined (acts_through ways c.in_ok-gen_declaration.ensures) line
