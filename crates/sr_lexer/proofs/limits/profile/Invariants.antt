-- What was counted is what there is in the tokens so far, and none of them is refused.
use Rattle.std.proofs.Common.{◌≡◌, take}
use Rattle.sr_lexer.specs.Limits.{IsWithinLimits}
use Rattle.sr_lexer.specs.Tallies.{tally_of}
use Rattle.sr_lexer.proofs.limits.profile.Given as goal

abbrev pub invariant-loop-token : goal.invariant-loop-token
invariant-loop-token l = record {
  counted : l.tally ≡ tally_of (take l.token-index l.token-items);
  fine : IsWithinLimits l.token-items l.token-index;
}
