-- The tokens of a file are in order.
use Rattle.sr_lexer.proofs.OrderLemmas.{tokens-ascend}
use Rattle.sr_lexer.proofs.laws.tokens_ascend.Goals as goal

pub returns : goal.returns
returns c = tokens-ascend
