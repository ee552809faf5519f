use Rattle.std.proofs.Common.{length}
use Rattle.sr_ask.specs.Numbers.{is_number}
use Rattle.sr_ask.proofs.NumberLemmas.{Searches}
use Rattle.sr_ask.proofs.numbers.place_in.Given as goal

abbrev pub invariant-loop-rest : goal.invariant-loop-rest
invariant-loop-rest l = Searches (is_number l.number) l.blocks l.before l.rest

abbrev pub decreases-loop-rest : goal.decreases-loop-rest
decreases-loop-rest l = length l.rest
