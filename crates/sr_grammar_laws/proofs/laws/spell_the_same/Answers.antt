-- Each alternative of the grammar spells the same again.
use Rattle.sr_grammar_laws.proofs.AgainComponents.{again_file}
use Rattle.sr_grammar_laws.proofs.laws.spell_the_same.Goals as goal

pub returns : goal.returns
returns c = λ retell keeps tokens tree d. again_file retell keeps d
