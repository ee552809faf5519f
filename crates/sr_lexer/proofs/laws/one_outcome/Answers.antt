-- The laws of chains.
use Rattle.sr_lexer.proofs.OutcomeLemmas.{one_list, one_refusal, not_both, some_outcome}
use Rattle.sr_lexer.proofs.laws.one_outcome.Goals as goal

pub returns : goal.returns
returns c = record { list = one_list; refusal = one_refusal; apart = not_both; some = some_outcome }
