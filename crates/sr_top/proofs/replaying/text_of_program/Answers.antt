-- The input, and what comes after it.
use Rattle.std.proofs.Common.{inl}
use Rattle.sr_top.proofs.Replayed.{lines_as, no_lines_as}
use Rattle.sr_top.proofs.replaying.text_of_program.Goals as goal

pub returns-in-Ok-clause-lines : goal.returns-in-Ok-clause-lines
returns-in-Ok-clause-lines g c = lines_as _ _ _ _ _ _ c.in-Ok.taken c.in-Ok.ensures.whole c.in-Ok.ensures.no_fault c.text_of_items.result c.text_of_items.ensures.lines

pub returns-in-Ok-clause-ends : goal.returns-in-Ok-clause-ends
returns-in-Ok-clause-ends g c = no_lines_as _ _ c.args.names.now _ _ _ c.in-Ok.taken c.in-Ok.ensures.whole c.in-Ok.ensures.no_fault c.text_of_items.result c.text_of_items.ensures.ends

pub returns-in-Err-clause-ends : goal.returns-in-Err-clause-ends
returns-in-Err-clause-ends g c = inl c.in-Err.ensures.ends
