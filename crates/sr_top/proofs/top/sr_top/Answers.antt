-- What the call did follows from why it ended, and its journal from what stands before it.
use Rattle.std.proofs.Common.{◌∙◌, ap, subst}
use Rattle.sr_top.proofs.Endings.{complete, headline}
use Rattle.sr_top.proofs.Journals.{journal_of}
use Rattle.sr_top.specs.Report.{GotAsFar, diag_text}
use Rattle.sr_top.proofs.top.sr_top.Goals as goal

pub returns-clause-call : goal.returns-clause-call
returns-clause-call g c = record {
  cause = c.obey_words-obeyed.ensures.cause;
  headline = headline _ _ c.obey_words-obeyed.ensures.cause;
  complete = complete _ _ c.obey_words-obeyed.ensures.cause;
  kept = journal_of _ _ _ c.obey_words-obeyed.result.header _ _ _ _ _ c.obey_words-obeyed.ensures.header c.put_journal-journal.ensures.put c.put_journal-journal.ensures.whole c.put_journal-journal.ensures.untouched;
}

pub returns-clause-diag : goal.returns-clause-diag
returns-clause-diag g c =
    let before = c.args.diag.now in
    let after = c.put_diag-diag.new.diag in
    subst (λ text. GotAsFar c.put_diag-diag.result text (g.D.Sink.held before) (g.D.Sink.held after) (g.D.Sink.faults before) (g.D.Sink.faults after))
    (ap (λ names. diag_text c.obey_words-obeyed.result.replayed names c.obey_words-obeyed.result.ending) c.as_slice.ensures ∙ c.obey_words-obeyed.ensures.names) c.put_diag-diag.ensures
