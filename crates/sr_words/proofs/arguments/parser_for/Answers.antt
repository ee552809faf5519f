-- An option joins the end of the parser's arguments.
use Rattle.std.proofs.Common.{◌∙◌, ◌<◌, ap, ap₂, sym, length, arith}
use Rattle.clap.specs.Simple.{with_rule}
use Rattle.sr_words.specs.Arguments.{parser_with}
use Rattle.sr_words.proofs.Rules.{arguments_more}
use Rattle.sr_words.proofs.arguments.parser_for.Goals as goal

pub loop-option-preserved : goal.loop-option-preserved
loop-option-preserved c =
    let within : c.loop-option.option-index < length c.options_of-option-items.result.now = omega arith in
    c.in_ok-parser.ensures.shape c.option_argument.ensures.local
    ∙ (ap₂ with_rule c.loop-option.invariant c.option_argument.ensures.rule
    ∙ ap parser_with (sym (arguments_more c.options_of-option-items.result.now c.loop-option.option-index _ within)))
