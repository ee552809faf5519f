-- What is counted while the limits are tested.
use Rattle.std.specs.Prelude.{◌+◌, if◌then◌else◌, List}
use Rattle.sr_tree.specs.declared.token.Token.{Token}
use Rattle.sr_tree.specs.declared.token.TokenKind.{TokenKind}
use Rattle.sr_lexer.specs.declared.limits.Tally.{Tally}
use Rattle.sr_lexer.specs.Roles.{opens_level, closes_level, breaks_run, counts_in_run}
use Rattle.sr_lexer.specs.Limits.{count_of, run_of}

-- what was counted of these tokens
abbrev pub tally_of : List Token → Tally
tally_of tokens = record {
  openers = count_of opens_level tokens;
  closers = count_of closes_level tokens;
  run = count_of counts_in_run (run_of tokens);
}

-- what is counted with one more token
abbrev pub tally_with : Tally → TokenKind → Tally
tally_with tally kind = record {
  openers = if opens_level kind then tally.openers + 1 else tally.openers;
  closers = if closes_level kind then tally.closers + 1 else tally.closers;
  run = if breaks_run kind then 0 else (if counts_in_run kind then tally.run + 1 else tally.run);
}
