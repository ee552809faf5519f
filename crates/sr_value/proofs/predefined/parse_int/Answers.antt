-- `parse` reads the number that the text writes; bytes that are no text write none.
use Rattle.std.proofs.Common.{◌∙◌, ap}
use Rattle.sr_value.specs.Predefined.{written_int}
use Rattle.sr_value.proofs.Numerals.{parsed_is_written, not_text_writes_none}
use Rattle.sr_value.proofs.predefined.parse_int.Goals as goal

pub returns-in-Ok : goal.returns-in-Ok
returns-in-Ok c = c.ok.ensures.value ∙ parsed_is_written c.in-Ok.text.now c.parse.result c.parse.ensures.value.0 ∙ ap written_int c.in-Ok.ensures.cases.0

pub returns-in-Err : goal.returns-in-Err
returns-in-Err c = not_text_writes_none c.args.bytes.now c.in-Err.ensures.cases.0
