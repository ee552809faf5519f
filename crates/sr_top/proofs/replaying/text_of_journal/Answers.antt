-- The items, and what comes after them.
use Rattle.std.proofs.Common.{◌∙◌, inl, refl, sym}
use Rattle.sr_top.proofs.replaying.text_of_journal.Goals as goal

pub returns-then-long-clause-ends : goal.returns-then-long-clause-ends
returns-then-long-clause-ends g c = inl (record { ends = sym c.in-Ok.ensures ∙ c.if-long.true; no_reads = refl; no_input = refl })

pub returns-in-Err-clause-ends : goal.returns-in-Err-clause-ends
returns-in-Err-clause-ends g c = inl (record { ends = tt; no_reads = refl; no_input = refl })
