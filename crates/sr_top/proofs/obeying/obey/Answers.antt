-- What each command does is handed on with the names of its files.
use Rattle.std.proofs.Common.{◌∙◌, List, [], ◌∷◌, Some, ap, false, inl, inr, refl, subst, sym}
use Rattle.std.specs.Prelude.{IfSome, unwrap_or}
use Rattle.std.specs.Option.{option_map}
use Rattle.sr_ask.specs.declared.item.Item.{Item}
use Rattle.sr_journal.specs.Journal.{IsInRange}
use Rattle.sr_run.specs.declared.stretch.Stretch.{Stretch}
use Rattle.sr_top.proofs.Asked.{handed_on, named_as, task_is}
use Rattle.sr_top.proofs.Commands.{can_be_asked}
use Rattle.sr_top.specs.Causes.{Call, HasCause, call_of, devices}
use Rattle.sr_top.specs.Journal.{CanBeAsked, EndsBeforeRun, HasHeaderIf, without}
use Rattle.sr_top.specs.Tasks.{Checks, ListsClasses, Named, Replays, Runs, keeps_journal}
use Rattle.sr_top.specs.Reading.{reads_by}
use Rattle.sr_top.specs.declared.question.Question.TheVariants as question
use Rattle.sr_top.proofs.obeying.obey.Goals as goal

pub returns-in-Run-clause-cause : goal.returns-in-Run-clause-cause
returns-in-Run-clause-cause g c = λ words told.
    let call : List Item → List Stretch → Call =
    call_of words (g.F.Files.content c.args.files.now) (reads_by (g.F.Files.readings c.args.files.now) (g.F.Files.faults c.args.files.now)) (reads_by (g.F.Files.readings c.run_files-outcome.new.files) (g.F.Files.faults c.run_files-outcome.new.files))
    (devices (g.I.Source.left c.args.input.now) (g.I.Source.faults c.args.input.now) (g.O.Sink.held c.args.output.now) (g.O.Sink.faults c.args.output.now))
    (devices (g.I.Source.left c.run_files-outcome.new.input) (g.I.Source.faults c.run_files-outcome.new.input) (g.O.Sink.held c.run_files-outcome.new.output) (g.O.Sink.faults c.run_files-outcome.new.output)) in
    handed_on (λ items rounds ending header. HasCause (call items rounds) ending) _ _ _ _ _ _ _ _ c.named.ensures.items c.named.ensures.rounds c.named.ensures.ending c.named.ensures.header
    (c.run_files-outcome.ensures.cause words (task_is words _ _ _ told c.in-Run.is refl ∙ ap (λ names. Some (Runs (Named names) c.in-Run.workers c.in-Run.steps c.in-Run.ticks c.in-Run.journal)) (sym c.as_slice.ensures)))

pub returns-in-Run-clause-header : goal.returns-in-Run-clause-header
returns-in-Run-clause-header g c = λ words told.
    let call : List Item → List Stretch → Call =
    call_of words (g.F.Files.content c.args.files.now) (reads_by (g.F.Files.readings c.args.files.now) (g.F.Files.faults c.args.files.now)) (reads_by (g.F.Files.readings c.run_files-outcome.new.files) (g.F.Files.faults c.run_files-outcome.new.files))
    (devices (g.I.Source.left c.args.input.now) (g.I.Source.faults c.args.input.now) (g.O.Sink.held c.args.output.now) (g.O.Sink.faults c.args.output.now))
    (devices (g.I.Source.left c.run_files-outcome.new.input) (g.I.Source.faults c.run_files-outcome.new.input) (g.O.Sink.held c.run_files-outcome.new.output) (g.O.Sink.faults c.run_files-outcome.new.output)) in
    handed_on (λ items rounds ending header. HasHeaderIf (call items rounds) ending header) _ _ _ _ _ _ _ _ c.named.ensures.items c.named.ensures.rounds c.named.ensures.ending c.named.ensures.header
    (c.run_files-outcome.ensures.header words (task_is words _ _ _ told c.in-Run.is refl ∙ ap (λ names. Some (Runs (Named names) c.in-Run.workers c.in-Run.steps c.in-Run.ticks c.in-Run.journal)) (sym c.as_slice.ensures)))

pub returns-in-Run-clause-in_range : goal.returns-in-Run-clause-in_range
returns-in-Run-clause-in_range g c = λ words told.
    handed_on (λ items rounds ending header. IfSome header (λ h. IsInRange h items)) _ _ _ _ _ _ _ _ c.named.ensures.items c.named.ensures.rounds c.named.ensures.ending c.named.ensures.header
    (c.run_files-outcome.ensures.in_range (subst (λ names. CanBeAsked names c.in-Run.steps c.in-Run.ticks) (sym c.as_slice.ensures) (can_be_asked _ _ _ _ _ words (told ∙ ap Some c.in-Run.is))))

pub returns-in-Run-clause-names : goal.returns-in-Run-clause-names
returns-in-Run-clause-names g c = λ words told. named_as words c.named.result.names c.named.result.replayed _ _ (task_is words _ _ _ told c.in-Run.is refl) c.named.ensures.names c.named.ensures.replayed

pub returns-in-Check-clause-cause : goal.returns-in-Check-clause-cause
returns-in-Check-clause-cause g c = λ words told.
    let call : List Item → List Stretch → Call =
    call_of words (g.F.Files.content c.args.files.now) (reads_by (g.F.Files.readings c.args.files.now) (g.F.Files.faults c.args.files.now)) (reads_by (g.F.Files.readings c.check_files-outcome.new.files) (g.F.Files.faults c.check_files-outcome.new.files))
    (devices (g.I.Source.left c.args.input.now) (g.I.Source.faults c.args.input.now) (g.O.Sink.held c.args.output.now) (g.O.Sink.faults c.args.output.now))
    (devices (g.I.Source.left c.args.input.now) (g.I.Source.faults c.args.input.now) (g.O.Sink.held c.args.output.now) (g.O.Sink.faults c.args.output.now)) in
    handed_on (λ items rounds ending header. HasCause (call items rounds) ending) _ _ _ _ _ _ _ _ c.named-in-Check.ensures.items c.named-in-Check.ensures.rounds c.named-in-Check.ensures.ending c.named-in-Check.ensures.header
    (c.check_files-outcome.ensures.cause words (call [] []).before (task_is words _ _ _ told c.in-Check.is refl ∙ ap (λ names. Some (Checks names)) (sym c.as_slice-in-Check.ensures)))

pub returns-in-Check-clause-header : goal.returns-in-Check-clause-header
returns-in-Check-clause-header g c = λ words told.
    subst (HasHeaderIf _ _) (sym (c.named-in-Check.ensures.header ∙ c.check_files-outcome.ensures.header)) (without (inl (ap (λ t. unwrap_or (option_map keeps_journal t) false) (task_is words _ _ _ told c.in-Check.is refl))))

pub returns-in-Check-clause-in_range : goal.returns-in-Check-clause-in_range
returns-in-Check-clause-in_range g c = λ words told. subst (λ o. IfSome o (λ h. IsInRange h c.named-in-Check.result.items)) (sym (c.named-in-Check.ensures.header ∙ c.check_files-outcome.ensures.header)) tt

pub returns-in-Check-clause-names : goal.returns-in-Check-clause-names
returns-in-Check-clause-names g c = λ words told. named_as words c.named-in-Check.result.names c.named-in-Check.result.replayed _ _ (task_is words _ _ _ told c.in-Check.is refl) c.named-in-Check.ensures.names c.named-in-Check.ensures.replayed

pub returns-in-Classes-clause-cause : goal.returns-in-Classes-clause-cause
returns-in-Classes-clause-cause g c = λ words told.
    let call : List Item → List Stretch → Call =
    call_of words (g.F.Files.content c.args.files.now) (reads_by (g.F.Files.readings c.args.files.now) (g.F.Files.faults c.args.files.now)) (reads_by (g.F.Files.readings c.list_classes-outcome.new.files) (g.F.Files.faults c.list_classes-outcome.new.files))
    (devices (g.I.Source.left c.args.input.now) (g.I.Source.faults c.args.input.now) (g.O.Sink.held c.args.output.now) (g.O.Sink.faults c.args.output.now))
    (devices (g.I.Source.left c.args.input.now) (g.I.Source.faults c.args.input.now) (g.O.Sink.held c.list_classes-outcome.new.output) (g.O.Sink.faults c.list_classes-outcome.new.output)) in
    handed_on (λ items rounds ending header. HasCause (call items rounds) ending) _ _ _ _ _ _ _ _ c.named-in-Classes.ensures.items c.named-in-Classes.ensures.rounds c.named-in-Classes.ensures.ending c.named-in-Classes.ensures.header
    (c.list_classes-outcome.ensures.cause words _ _ (task_is words _ _ _ told c.in-Classes.is refl ∙ ap (λ names. Some (ListsClasses names)) (sym c.as_slice-in-Classes.ensures)))

pub returns-in-Classes-clause-header : goal.returns-in-Classes-clause-header
returns-in-Classes-clause-header g c = λ words told.
    subst (HasHeaderIf _ _) (sym (c.named-in-Classes.ensures.header ∙ c.list_classes-outcome.ensures.header)) (without (inl (ap (λ t. unwrap_or (option_map keeps_journal t) false) (task_is words _ _ _ told c.in-Classes.is refl))))

pub returns-in-Classes-clause-in_range : goal.returns-in-Classes-clause-in_range
returns-in-Classes-clause-in_range g c = λ words told. subst (λ o. IfSome o (λ h. IsInRange h c.named-in-Classes.result.items)) (sym (c.named-in-Classes.ensures.header ∙ c.list_classes-outcome.ensures.header)) tt

pub returns-in-Classes-clause-names : goal.returns-in-Classes-clause-names
returns-in-Classes-clause-names g c = λ words told. named_as words c.named-in-Classes.result.names c.named-in-Classes.result.replayed _ _ (task_is words _ _ _ told c.in-Classes.is refl) c.named-in-Classes.ensures.names c.named-in-Classes.ensures.replayed

pub returns-in-Ok-clause-cause : goal.returns-in-Ok-clause-cause
returns-in-Ok-clause-cause g c = λ words told.
    let call : List Item → List Stretch → Call =
    call_of words (g.F.Files.content c.args.files.now) (reads_by (g.F.Files.readings c.args.files.now) (g.F.Files.faults c.args.files.now)) (reads_by (g.F.Files.readings c.args.files.now) (g.F.Files.faults c.args.files.now))
    (devices (g.I.Source.left c.args.input.now) (g.I.Source.faults c.args.input.now) (g.O.Sink.held c.args.output.now) (g.O.Sink.faults c.args.output.now))
    (devices (g.I.Source.left c.run_sample-outcome.new.input) (g.I.Source.faults c.run_sample-outcome.new.input) (g.O.Sink.held c.run_sample-outcome.new.output) (g.O.Sink.faults c.run_sample-outcome.new.output)) in
    handed_on (λ items rounds ending header. HasCause (call items rounds) ending) _ _ _ _ _ _ _ _ c.named-in-Ok.ensures.items c.named-in-Ok.ensures.rounds c.named-in-Ok.ensures.ending c.named-in-Ok.ensures.header
    (c.run_sample-outcome.ensures.cause words _ _ (task_is words _ _ _ told c.in-Gen.is refl))

pub returns-in-Ok-clause-header : goal.returns-in-Ok-clause-header
returns-in-Ok-clause-header g c = λ words told.
    subst (HasHeaderIf _ _) (sym (c.named-in-Ok.ensures.header ∙ c.run_sample-outcome.ensures.header)) (without (inl (ap (λ t. unwrap_or (option_map keeps_journal t) false) (task_is words _ _ _ told c.in-Gen.is refl))))

pub returns-in-Ok-clause-in_range : goal.returns-in-Ok-clause-in_range
returns-in-Ok-clause-in_range g c = λ words told. subst (λ o. IfSome o (λ h. IsInRange h c.named-in-Ok.result.items)) (sym (c.named-in-Ok.ensures.header ∙ c.run_sample-outcome.ensures.header)) tt

pub returns-in-Ok-clause-names : goal.returns-in-Ok-clause-names
returns-in-Ok-clause-names g c = λ words told. named_as words c.named-in-Ok.result.names c.named-in-Ok.result.replayed _ _ (task_is words _ _ _ told c.in-Gen.is refl) (c.named-in-Ok.ensures.names ∙ c.in-Ok.ensures) c.named-in-Ok.ensures.replayed

pub returns-in-Replay-clause-cause : goal.returns-in-Replay-clause-cause
returns-in-Replay-clause-cause g c = λ words told.
    let call : List Item → List Stretch → Call =
    call_of words (g.F.Files.content c.args.files.now)
    (reads_by (g.F.Files.readings c.args.files.now) (g.F.Files.faults c.args.files.now)) (reads_by (g.F.Files.readings c.replay_journal-outcome.new.files) (g.F.Files.faults c.replay_journal-outcome.new.files))
    (devices (g.I.Source.left c.args.input.now) (g.I.Source.faults c.args.input.now) (g.O.Sink.held c.args.output.now) (g.O.Sink.faults c.args.output.now))
    (devices (g.I.Source.left c.replay_journal-outcome.new.input) (g.I.Source.faults c.replay_journal-outcome.new.input) (g.O.Sink.held c.replay_journal-outcome.new.output) (g.O.Sink.faults c.replay_journal-outcome.new.output)) in
    handed_on (λ items rounds ending header. HasCause (call items rounds) ending) _ _ _ _ _ _ _ _ c.named-in-Replay.ensures.items c.named-in-Replay.ensures.rounds c.named-in-Replay.ensures.ending c.named-in-Replay.ensures.header
    (c.replay_journal-outcome.ensures.cause words
    (task_is words _ _ _ told c.in-Replay.is refl ∙ ap (λ names. Some (Replays c.in-Replay.journal names (question.Seen (record { upto = c.in-Replay.upto; places = c.in-Replay.places })))) (sym c.as_slice-in-Replay.ensures)))

pub returns-in-Replay-clause-header : goal.returns-in-Replay-clause-header
returns-in-Replay-clause-header g c = λ words told.
    subst (HasHeaderIf _ _) (sym (c.named-in-Replay.ensures.header ∙ c.replay_journal-outcome.ensures.header)) (without (inl (ap (λ t. unwrap_or (option_map keeps_journal t) false) (task_is words _ _ _ told c.in-Replay.is refl))))

pub returns-in-Replay-clause-in_range : goal.returns-in-Replay-clause-in_range
returns-in-Replay-clause-in_range g c = λ words told. subst (λ o. IfSome o (λ h. IsInRange h c.named-in-Replay.result.items)) (sym (c.named-in-Replay.ensures.header ∙ c.replay_journal-outcome.ensures.header)) tt

pub returns-in-Replay-clause-names : goal.returns-in-Replay-clause-names
returns-in-Replay-clause-names g c = λ words told. named_as words c.named-in-Replay.result.names c.named-in-Replay.result.replayed _ _ (task_is words _ _ _ told c.in-Replay.is refl) c.named-in-Replay.ensures.names c.named-in-Replay.ensures.replayed

pub returns-in-Races-clause-cause : goal.returns-in-Races-clause-cause
returns-in-Races-clause-cause g c = λ words told.
    let call : List Item → List Stretch → Call =
    call_of words (g.F.Files.content c.args.files.now)
    (reads_by (g.F.Files.readings c.args.files.now) (g.F.Files.faults c.args.files.now)) (reads_by (g.F.Files.readings c.replay_journal-outcome-in-Races.new.files) (g.F.Files.faults c.replay_journal-outcome-in-Races.new.files))
    (devices (g.I.Source.left c.args.input.now) (g.I.Source.faults c.args.input.now) (g.O.Sink.held c.args.output.now) (g.O.Sink.faults c.args.output.now))
    (devices (g.I.Source.left c.replay_journal-outcome-in-Races.new.input) (g.I.Source.faults c.replay_journal-outcome-in-Races.new.input) (g.O.Sink.held c.replay_journal-outcome-in-Races.new.output) (g.O.Sink.faults c.replay_journal-outcome-in-Races.new.output)) in
    handed_on (λ items rounds ending header. HasCause (call items rounds) ending) _ _ _ _ _ _ _ _ c.named-in-Races.ensures.items c.named-in-Races.ensures.rounds c.named-in-Races.ensures.ending c.named-in-Races.ensures.header
    (c.replay_journal-outcome-in-Races.ensures.cause words
    (task_is words _ _ _ told c.in-Races.is refl ∙ ap (λ names. Some (Replays c.in-Races.journal names question.Races)) (sym c.as_slice-in-Races.ensures)))

pub returns-in-Races-clause-header : goal.returns-in-Races-clause-header
returns-in-Races-clause-header g c = λ words told.
    subst (HasHeaderIf _ _) (sym (c.named-in-Races.ensures.header ∙ c.replay_journal-outcome-in-Races.ensures.header)) (without (inl (ap (λ t. unwrap_or (option_map keeps_journal t) false) (task_is words _ _ _ told c.in-Races.is refl))))

pub returns-in-Races-clause-in_range : goal.returns-in-Races-clause-in_range
returns-in-Races-clause-in_range g c = λ words told. subst (λ o. IfSome o (λ h. IsInRange h c.named-in-Races.result.items)) (sym (c.named-in-Races.ensures.header ∙ c.replay_journal-outcome-in-Races.ensures.header)) tt

pub returns-in-Races-clause-names : goal.returns-in-Races-clause-names
returns-in-Races-clause-names g c = λ words told. named_as words c.named-in-Races.result.names c.named-in-Races.result.replayed _ _ (task_is words _ _ _ told c.in-Races.is refl) c.named-in-Races.ensures.names c.named-in-Races.ensures.replayed

pub returns-in-Trace-clause-cause : goal.returns-in-Trace-clause-cause
returns-in-Trace-clause-cause g c = λ words told.
    let call : List Item → List Stretch → Call =
    call_of words (g.F.Files.content c.args.files.now)
    (reads_by (g.F.Files.readings c.args.files.now) (g.F.Files.faults c.args.files.now)) (reads_by (g.F.Files.readings c.replay_journal-outcome-in-Trace.new.files) (g.F.Files.faults c.replay_journal-outcome-in-Trace.new.files))
    (devices (g.I.Source.left c.args.input.now) (g.I.Source.faults c.args.input.now) (g.O.Sink.held c.args.output.now) (g.O.Sink.faults c.args.output.now))
    (devices (g.I.Source.left c.replay_journal-outcome-in-Trace.new.input) (g.I.Source.faults c.replay_journal-outcome-in-Trace.new.input) (g.O.Sink.held c.replay_journal-outcome-in-Trace.new.output) (g.O.Sink.faults c.replay_journal-outcome-in-Trace.new.output)) in
    handed_on (λ items rounds ending header. HasCause (call items rounds) ending) _ _ _ _ _ _ _ _ c.named-in-Trace.ensures.items c.named-in-Trace.ensures.rounds c.named-in-Trace.ensures.ending c.named-in-Trace.ensures.header
    (c.replay_journal-outcome-in-Trace.ensures.cause words
    (task_is words _ _ _ told c.in-Trace.is refl ∙ ap (λ names. Some (Replays c.in-Trace.journal names (question.Trace (record { upto = c.in-Trace.upto; picture = c.in-Trace.picture })))) (sym c.as_slice-in-Trace.ensures)))

pub returns-in-Trace-clause-header : goal.returns-in-Trace-clause-header
returns-in-Trace-clause-header g c = λ words told.
    subst (HasHeaderIf _ _) (sym (c.named-in-Trace.ensures.header ∙ c.replay_journal-outcome-in-Trace.ensures.header)) (without (inl (ap (λ t. unwrap_or (option_map keeps_journal t) false) (task_is words _ _ _ told c.in-Trace.is refl))))

pub returns-in-Trace-clause-in_range : goal.returns-in-Trace-clause-in_range
returns-in-Trace-clause-in_range g c = λ words told. subst (λ o. IfSome o (λ h. IsInRange h c.named-in-Trace.result.items)) (sym (c.named-in-Trace.ensures.header ∙ c.replay_journal-outcome-in-Trace.ensures.header)) tt

pub returns-in-Trace-clause-names : goal.returns-in-Trace-clause-names
returns-in-Trace-clause-names g c = λ words told. named_as words c.named-in-Trace.result.names c.named-in-Trace.result.replayed _ _ (task_is words _ _ _ told c.in-Trace.is refl) c.named-in-Trace.ensures.names c.named-in-Trace.ensures.replayed

pub returns-in-Gen-clause-header : goal.returns-in-Gen-clause-header
returns-in-Gen-clause-header g c = λ words told.
    subst (HasHeaderIf _ _) (sym c.early.ensures.header)
    (without (inr (record { no_items = (c.early.ensures.items, c.early.ensures.rounds); untouched = refl }, subst EndsBeforeRun (sym c.early.ensures.ending) tt)))

pub returns-in-Ok-one_name-clause-cause : goal.returns-in-Ok-one_name-clause-cause
returns-in-Ok-one_name-clause-cause g c = λ words told.
    let call : List Item → List Stretch → Call =
    call_of words (g.F.Files.content c.args.files.now)
    (reads_by (g.F.Files.readings c.args.files.now) (g.F.Files.faults c.args.files.now)) (reads_by (g.F.Files.readings c.lay_out_file-outcome.new.files) (g.F.Files.faults c.lay_out_file-outcome.new.files))
    (devices (g.I.Source.left c.args.input.now) (g.I.Source.faults c.args.input.now) (g.O.Sink.held c.args.output.now) (g.O.Sink.faults c.args.output.now))
    (devices (g.I.Source.left c.args.input.now) (g.I.Source.faults c.args.input.now) (g.O.Sink.held c.lay_out_file-outcome.new.output) (g.O.Sink.faults c.lay_out_file-outcome.new.output)) in
    handed_on (λ items rounds ending header. HasCause (call items rounds) ending) _ _ _ _ _ _ _ _ c.named-in-Ok-one_name.ensures.items c.named-in-Ok-one_name.ensures.rounds c.named-in-Ok-one_name.ensures.ending c.named-in-Ok-one_name.ensures.header
    (c.lay_out_file-outcome.ensures.cause words _ _ (task_is words _ _ _ told c.in-Fmt.is refl))

pub returns-in-Ok-one_name-clause-header : goal.returns-in-Ok-one_name-clause-header
returns-in-Ok-one_name-clause-header g c = λ words told.
    subst (HasHeaderIf _ _) (sym (c.named-in-Ok-one_name.ensures.header ∙ c.lay_out_file-outcome.ensures.header))
    (without (inl (ap (λ t. unwrap_or (option_map keeps_journal t) false) (task_is words _ _ _ told c.in-Fmt.is refl))))

pub returns-in-Ok-one_name-clause-in_range : goal.returns-in-Ok-one_name-clause-in_range
returns-in-Ok-one_name-clause-in_range g c = λ words told.
    subst (λ o. IfSome o (λ h. IsInRange h c.named-in-Ok-one_name.result.items)) (sym (c.named-in-Ok-one_name.ensures.header ∙ c.lay_out_file-outcome.ensures.header)) tt

pub returns-in-Ok-one_name-clause-names : goal.returns-in-Ok-one_name-clause-names
returns-in-Ok-one_name-clause-names g c = λ words told.
    named_as words c.named-in-Ok-one_name.result.names c.named-in-Ok-one_name.result.replayed _ _ (task_is words _ _ _ told c.in-Fmt.is refl)
    (c.named-in-Ok-one_name.ensures.names ∙ c.in-Ok-one_name.ensures ∙ ap (λ name. name ∷ []) c.as_bytes.ensures) c.named-in-Ok-one_name.ensures.replayed

pub returns-clause-header : goal.returns-clause-header
returns-clause-header g c = λ words told.
    subst (HasHeaderIf _ _) (sym c.early-in-Err-one_name.ensures.header)
    (without (inr (record { no_items = (c.early-in-Err-one_name.ensures.items, c.early-in-Err-one_name.ensures.rounds); untouched = refl }, subst EndsBeforeRun (sym c.early-in-Err-one_name.ensures.ending) tt)))
