-- The laws of the table.
use Rattle.sr_lexer.proofs.SymbolLemmas.{word_known, word_spelled, longest_sign, no_sign}
use Rattle.sr_lexer.proofs.laws.one_spelling.Goals as goal

pub returns : goal.returns
returns c = record { known = word_known; spelled = word_spelled; longest = longest_sign; none = no_sign }
