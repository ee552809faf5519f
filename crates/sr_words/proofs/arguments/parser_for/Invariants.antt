-- The parser has the options so far.
use Rattle.std.proofs.Common.{◌≡◌, map, take}
use Rattle.clap.specs.Simple.{app_of}
use Rattle.sr_words.specs.Arguments.{option_argument, parser_with}
use Rattle.sr_words.proofs.arguments.parser_for.Given as goal

abbrev pub invariant-loop-option : goal.invariant-loop-option
invariant-loop-option l = app_of l.parser ≡ parser_with (map option_argument (take l.option-index l.option-items))
