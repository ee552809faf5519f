use Rattle.std.proofs.Common.{rules}
use Rattle.sr_select.proofs.CountedLemmas.{counted-record}
use Rattle.sr_select.proofs.counted.+counting.Goals as goal

pub counted-returns-in_ok-each_counted-in-Rec-value : goal.counted-returns-in_ok-each_counted-in-Rec-value
counted-returns-in_ok-each_counted-in-Rec-value t c = let e = counted-record c.in-Rec.shapes c.in-Rec-value.fields in search rules

pub counted-returns-in_err-each_counted-in-Rec-value : goal.counted-returns-in_err-each_counted-in-Rec-value
counted-returns-in_err-each_counted-in-Rec-value t c = let e = counted-record c.in-Rec.shapes c.in-Rec-value.fields in search rules
