-- The journal, and what comes after it.
use Rattle.std.proofs.Common.{inl, refl, subst}
use Rattle.std.specs.Prelude.{IfErr, IfOk}
use Rattle.sr_top.proofs.Replayed.{no_text_as, text_as}
use Rattle.sr_top.specs.Reading.{reads_by}
use Rattle.sr_top.specs.Stages.{EndsAfterJournal, HasTextOf, inputs}
use Rattle.sr_top.proofs.replaying.replayed_text.Goals as goal

pub returns-in-Ok-clause-text : goal.returns-in-Ok-clause-text
returns-in-Ok-clause-text g c =
    let before = reads_by (g.F.Files.readings c.args.files.now) (g.F.Files.faults c.args.files.now) in
    let mid = reads_by (g.F.Files.readings c.journal_in.new.files) (g.F.Files.faults c.journal_in.new.files) in
    let now = reads_by (g.F.Files.readings c.text_of_journal.new.files) (g.F.Files.faults c.text_of_journal.new.files) in
    let input = inputs (g.I.Source.left c.args.input.now) (g.I.Source.faults c.args.input.now) in
    let input_now = inputs (g.I.Source.left c.text_of_journal.new.input) (g.I.Source.faults c.text_of_journal.new.input) in
    text_as (g.F.Files.content c.args.files.now) c.args.names.now c.args.question before input input_now c.args.journal.now c.in-Ok.journal mid now c.text_of_journal.result c.in-Ok.ensures.read c.in-Ok.ensures.no_fault
    (subst (λ told. IfOk c.text_of_journal.result (HasTextOf told c.in-Ok.journal c.args.names.now c.args.question mid now input input_now)) c.in-Ok.ensures.kept c.text_of_journal.ensures.text)

pub returns-in-Ok-clause-ends : goal.returns-in-Ok-clause-ends
returns-in-Ok-clause-ends g c =
    let before = reads_by (g.F.Files.readings c.args.files.now) (g.F.Files.faults c.args.files.now) in
    let mid = reads_by (g.F.Files.readings c.journal_in.new.files) (g.F.Files.faults c.journal_in.new.files) in
    let now = reads_by (g.F.Files.readings c.text_of_journal.new.files) (g.F.Files.faults c.text_of_journal.new.files) in
    let input = inputs (g.I.Source.left c.args.input.now) (g.I.Source.faults c.args.input.now) in
    let input_now = inputs (g.I.Source.left c.text_of_journal.new.input) (g.I.Source.faults c.text_of_journal.new.input) in
    no_text_as (g.F.Files.content c.args.files.now) c.args.names.now c.args.question before input input_now c.args.journal.now c.in-Ok.journal mid now c.text_of_journal.result c.in-Ok.ensures.read c.in-Ok.ensures.reads c.in-Ok.ensures.no_fault
    (subst (λ told. IfErr c.text_of_journal.result (EndsAfterJournal told c.in-Ok.journal c.args.names.now c.args.question mid now input input_now)) c.in-Ok.ensures.kept c.text_of_journal.ensures.ends)

pub returns-in-Err-clause-ends : goal.returns-in-Err-clause-ends
returns-in-Err-clause-ends g c = inl (c.in-Err.ensures.ends, refl)
