-- The text of the journal is put.
use Rattle.std.proofs.Common.{◌∙◌, subst, sym}
use Rattle.std.specs.Prelude.{IfSome}
use Rattle.sr_journal.specs.Journal.{journal_text}
use Rattle.sr_top.specs.Report.{GotAsFar}
use Rattle.sr_top.proofs.journal.put_journal.Goals as goal

pub returns-in-Ok-clause-put : goal.returns-in-Ok-clause-put
returns-in-Ok-clause-put g c =
    let before = c.args.journal.now in
    let after = c.put_text.new.sink in
    subst
    (λ header. IfSome header (λ h. GotAsFar c.put_text.result (journal_text h c.args.items.now) (g.J.Sink.held before) (g.J.Sink.held after) (g.J.Sink.faults before) (g.J.Sink.faults after)))
    (sym c.in-Some.is)
    (subst (λ text. GotAsFar c.put_text.result text (g.J.Sink.held before) (g.J.Sink.held after) (g.J.Sink.faults before) (g.J.Sink.faults after)) (c.as_bytes.ensures ∙ c.in-Ok.ensures) c.put_text.ensures)
