use Rattle.sr_world.proofs.InputLemmas.{same-answer, same-rest, still-decided}
use Rattle.sr_world.proofs.laws.later_input_changes_nothing.Goals as goal

pub returns-clause-decided : goal.returns-clause-decided
returns-clause-decided c = λ kind rest more is. still-decided rest more kind is

pub returns-clause-answer : goal.returns-clause-answer
returns-clause-answer c = λ kind rest more is. same-answer rest more kind is

pub returns-clause-rest : goal.returns-clause-rest
returns-clause-rest c = λ kind rest more is. same-rest rest more kind is
