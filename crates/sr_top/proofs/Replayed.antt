-- From the stages of a replay to why the call ends.
use Rattle.std.proofs.Common.{◌≡◌, ◌∙◌, ◌+◌, ◌<◌, ◌≤◌, ◌⊎◌, ℕ, zero, suc, List, min, Some, add-one, ap, arith, false, inl, inr, refl, subst, sym}
use Rattle.std.proofs.Math.Nat.{min-eq_left, min-eq_right}
use Rattle.std.proofs.lemmas.Bool.{cases_lt}
use Rattle.std.specs.Prelude.{Result, Ok, Err, IfOk, IfErr}
use Rattle.sr_core.specs.declared.component.Core.{Core}
use Rattle.sr_core.specs.declared.owner.Classes.{Classes}
use Rattle.sr_ports.specs.Faults.{Rose}
use Rattle.sr_ports.specs.Files.{next_read}
use Rattle.sr_races.specs.Items.{Run}
use Rattle.sr_races.specs.Races.{Races}
use Rattle.sr_races.specs.declared.race.Race.{Race}
use Rattle.sr_races.specs.declared.race.Raced.TheVariants as raced
use Rattle.sr_races.specs.declared.tracing.Traces.TheVariants as traces
use Rattle.sr_replay.specs.declared.snapshot.Snapshot.{Snapshot}
use Rattle.sr_replay.specs.declared.whole.Replayed.TheVariants as replayed
use Rattle.sr_top.proofs.Endings.{devices_same}
use Rattle.sr_top.specs.Causes.{Call, HasCause, HasNoItems, PutsNothing, RunsNothing}
use Rattle.sr_top.specs.Placing.{shown_text}
use Rattle.sr_top.specs.Racing.{races_text}
use Rattle.sr_top.specs.Reading.{FailsAt, Reads, reads_after}
use Rattle.sr_top.specs.Replaying.{AreBytesOf, AreLines, AreRacesOf, AreSeen, AreTracedOf, AsksReplay, HasAnswer, HasInput, HasItems, HasJournal, HasProgram, IsWhole, ReadsJournal, ReplaysTo, TracesTo, is_too_long_for}
use Rattle.sr_top.specs.Stages.{AreProgram, EndsAfterItems, EndsAfterJournal, EndsAfterProgram, EndsInput, EndsItems, EndsJournal, EndsLong, EndsProgram, EndsText, HasLinesOf, HasTextOf, Inputs, IsJournalOf, IsText, IsTextOf, Told, inputs, run_of}
use Rattle.sr_top.specs.Tasks as tasks
use Rattle.sr_top.specs.Tracing.{EndsTold, told_text}
use Rattle.sr_top.specs.declared.report.LimitKind.TheVariants as limit
use Rattle.sr_top.specs.declared.recorded.Journal.{Journal}
use Rattle.sr_top.specs.declared.report.Ending.{Ending}
use Rattle.sr_top.specs.declared.report.Ending.TheVariants.{Done, Quiet, Stopped, Failed, Limit, Refused, NoFile, ReadFault, WriteFault, NoMemory, Usage, BadJournal, OtherFiles, Illegal}
use Rattle.sr_top.specs.declared.question.Question.{Question}
use Rattle.sr_top.specs.declared.question.Question.TheVariants as question
use Rattle.sr_top.specs.declared.question.Tracing.{Tracing}
use Rattle.sr_top.specs.declared.question.View.{View}
use Rattle.sr_trace.specs.declared.traced.Traced.{Traced}

-- ---- counts of reads

reads_after-next : (reads more : ℕ) → reads_after (next_read reads) more ≡ reads_after reads (suc more)
reads_after-next reads zero = refl
reads_after-next reads (suc more) = ap next_read (reads_after-next reads more)

-- a file that failed after the journal is one place later among all that were read
later : (file word : ℕ) (before mid now : Reads) → word ≡ file + 1 → mid.reads ≡ next_read before.reads → mid.faults ≡ before.faults → FailsAt file mid now → FailsAt word before now
later file word before mid now place one same fails = record {
  last = fails.last ∙ ap (λ reads. reads_after reads (suc file)) one ∙ reads_after-next before.reads (suc file) ∙ sym (ap (λ n. reads_after before.reads (suc n)) (place ∙ add-one file));
  failed = fails.failed;
  rose = subst (λ faults. Rose faults now.faults) same fails.rose;
}

-- ---- what is there

module _ (call : Call) (name : List ℕ) (names : List (List ℕ)) (question : Question) (asked : tasks.task call.words ≡ Some (tasks.Replays name names question)) where
  abbrev asks : AsksReplay call
  asks = record { journal = name; names = names; question = question; asked = asked }

  abbrev reads_bytes : (bytes : List ℕ) → AreBytesOf call.files name bytes → ReadsJournal call
  reads_bytes bytes read = record { asks = asks; bytes = bytes; read = read }

  abbrev journal_of : (journal : Journal) → IsJournalOf call.files name journal → HasJournal call
  journal_of journal is = record { reads = reads_bytes is.bytes is.read; header = journal.header; items = journal.items; is = is.is }

  abbrev items_of : (journal : Journal) → IsJournalOf call.files name journal → is_too_long_for question journal.items ≡ false → HasItems call
  items_of journal is fits = record { journal = journal_of journal is; fits = fits }

  abbrev program_of : (journal : Journal) → IsJournalOf call.files name journal → is_too_long_for question journal.items ≡ false → (core : Core) (classes : Classes) → AreProgram call.files names journal.header core classes
      → call.reads_now.faults ≡ call.reads.faults → HasProgram call
  program_of journal is fits core classes program no_fault = record {
    same = record { has = record { items = items_of journal is fits; files = program.files; read = program.read }; same = program.is.same };
    core = core;
    classes = classes;
    accepted = program.is.accepted;
    no_fault = no_fault;
  }

  -- ---- why the call ends

  journal_ended : RunsNothing call → (ending : Ending) → EndsJournal call.files name call.reads call.reads_now ending → HasCause call ending
  journal_ended nothing Done ends = absurd ends
  journal_ended nothing Quiet ends = absurd ends
  journal_ended nothing (Stopped status) ends = absurd ends
  journal_ended nothing (Failed fault place) ends = absurd ends
  journal_ended nothing (Limit kind) ends = absurd ends
  journal_ended nothing (Refused refusal) ends = absurd ends
  journal_ended nothing (NoFile file) ends = inr (inl (record { unread = inl (ends.0, asks); failed = ends.1; nothing = nothing }))
  journal_ended nothing ReadFault ends = absurd ends
  journal_ended nothing WriteFault ends = absurd ends
  journal_ended nothing NoMemory ends = inl (record { no_fault = ends; nothing = nothing })
  journal_ended nothing Usage ends = absurd ends
  journal_ended nothing (BadJournal fail) ends = record { reads = reads_bytes ends.0.bytes ends.0.read; cause = ends.0.cause; no_fault = ends.1; nothing = nothing }
  journal_ended nothing (OtherFiles file) ends = absurd ends
  journal_ended nothing (Illegal at) ends = absurd ends

  long_ended : (journal : Journal) → IsJournalOf call.files name journal → call.reads_now.faults ≡ call.reads.faults → RunsNothing call → (ending : Ending) → EndsLong question journal ending
      → HasCause call ending
  long_ended journal is same nothing Done ends = absurd ends
  long_ended journal is same nothing Quiet ends = absurd ends
  long_ended journal is same nothing (Stopped status) ends = absurd ends
  long_ended journal is same nothing (Failed fault place) ends = absurd ends
  long_ended journal is same nothing (Limit limit.Steps) ends = absurd ends
  long_ended journal is same nothing (Limit (limit.Ticks process)) ends = absurd ends
  long_ended journal is same nothing (Limit limit.Input) ends = absurd ends
  long_ended journal is same nothing (Limit limit.Items) ends = inl (record { has = journal_of journal is; long = ends; no_fault = same; nothing = nothing })
  long_ended journal is same nothing (Limit limit.Races) ends = absurd ends
  long_ended journal is same nothing (Refused refusal) ends = absurd ends
  long_ended journal is same nothing (NoFile file) ends = absurd ends
  long_ended journal is same nothing ReadFault ends = absurd ends
  long_ended journal is same nothing WriteFault ends = absurd ends
  long_ended journal is same nothing NoMemory ends = inl (record { no_fault = same; nothing = nothing })
  long_ended journal is same nothing Usage ends = absurd ends
  long_ended journal is same nothing (BadJournal fail) ends = absurd ends
  long_ended journal is same nothing (OtherFiles file) ends = absurd ends
  long_ended journal is same nothing (Illegal at) ends = absurd ends

  program_ended : (journal : Journal) → IsJournalOf call.files name journal → is_too_long_for question journal.items ≡ false → (mid : Reads) → mid.reads ≡ next_read call.reads.reads → mid.faults ≡ call.reads.faults → RunsNothing call
      → (ending : Ending) → EndsProgram call.files names journal.header mid call.reads_now ending → HasCause call ending
  program_ended journal is fits mid one same nothing Done ends = absurd ends
  program_ended journal is fits mid one same nothing Quiet ends = absurd ends
  program_ended journal is fits mid one same nothing (Stopped status) ends = absurd ends
  program_ended journal is fits mid one same nothing (Failed fault place) ends = absurd ends
  program_ended journal is fits mid one same nothing (Limit kind) ends = absurd ends
  program_ended journal is fits mid one same nothing (Refused refusal) ends = inr (inl (record { same = record { has = record { items = items_of journal is fits; files = ends.0.files; read = ends.0.read }; same = ends.0.same }; refused = ends.0.refused; no_fault = ends.1 ∙ same; nothing = nothing }))
  program_ended journal is fits mid one same nothing (NoFile file) ends = inr (inl (record { unread = inr (record { has = items_of journal is fits; file = ends.file; place = ends.place; unread = ends.unread }); failed = later ends.file file call.reads mid call.reads_now ends.place one same ends.failed; nothing = nothing }))
  program_ended journal is fits mid one same nothing ReadFault ends = absurd ends
  program_ended journal is fits mid one same nothing WriteFault ends = absurd ends
  program_ended journal is fits mid one same nothing NoMemory ends = inl (record { no_fault = ends ∙ same; nothing = nothing })
  program_ended journal is fits mid one same nothing Usage ends = absurd ends
  program_ended journal is fits mid one same nothing (BadJournal fail) ends = absurd ends
  program_ended journal is fits mid one same nothing (OtherFiles file) ends = record { has = record { items = items_of journal is fits; files = ends.0.files; read = ends.0.read }; other = ends.0.other; no_fault = ends.1 ∙ same; nothing = nothing }
  program_ended journal is fits mid one same nothing (Illegal at) ends = absurd ends

  input_ended : HasProgram call → PutsNothing call → (ending : Ending) → EndsInput call.before.left call.now.left call.before.read_faults call.now.read_faults ending → HasCause call ending
  input_ended program nothing Done ends = absurd ends
  input_ended program nothing Quiet ends = absurd ends
  input_ended program nothing (Stopped status) ends = absurd ends
  input_ended program nothing (Failed fault place) ends = absurd ends
  input_ended program nothing (Limit limit.Steps) ends = absurd ends
  input_ended program nothing (Limit (limit.Ticks process)) ends = absurd ends
  input_ended program nothing (Limit limit.Input) ends = inr (record { program = program; long = ends.0; no_read_fault = ends.1; nothing = nothing })
  input_ended program nothing (Limit limit.Items) ends = absurd ends
  input_ended program nothing (Limit limit.Races) ends = absurd ends
  input_ended program nothing (Refused refusal) ends = absurd ends
  input_ended program nothing (NoFile file) ends = absurd ends
  input_ended program nothing ReadFault ends = inr (record { program = program; failed = ends; nothing = nothing })
  input_ended program nothing WriteFault ends = absurd ends
  input_ended program nothing NoMemory ends = inr (inr (inr (record { asks = asks; no_fault = program.no_fault; no_read_fault = ends; nothing = nothing })))
  input_ended program nothing Usage ends = absurd ends
  input_ended program nothing (BadJournal fail) ends = absurd ends
  input_ended program nothing (OtherFiles file) ends = absurd ends
  input_ended program nothing (Illegal at) ends = absurd ends

  module _ (journal : Journal) (is : IsJournalOf call.files name journal) (fits : is_too_long_for question journal.items ≡ false) (core : Core) (classes : Classes) (program : AreProgram call.files names journal.header core classes)
      (no_fault : call.reads_now.faults ≡ call.reads.faults) (taken : List ℕ) (whole : IsWhole call.before.left call.now.left taken)
      (no_read_fault : call.now.read_faults ≡ call.before.read_faults) where
    abbrev input_of : HasNoItems call → HasInput call
    input_of no_items =
        record { program = program_of journal is fits core classes program no_fault; taken = taken; whole = whole; no_read_fault = no_read_fault; no_items = no_items }

    items_ended : PutsNothing call → (ending : Ending) → EndsItems question journal.header.steps (run_of core journal taken) ending → HasCause call ending
    items_ended nothing Done ends = absurd ends
    items_ended nothing Quiet ends = absurd ends
    items_ended nothing (Stopped status) ends = absurd ends
    items_ended nothing (Failed fault place) ends = absurd ends
    items_ended nothing (Limit limit.Steps) ends = absurd ends
    items_ended nothing (Limit (limit.Ticks process)) ends = absurd ends
    items_ended nothing (Limit limit.Input) ends = absurd ends
    items_ended nothing (Limit limit.Items) ends = inr (record { input = input_of nothing.no_items; large = ends; nothing = nothing })
    items_ended nothing (Limit limit.Races) ends = record { input = input_of nothing.no_items; many = ends; nothing = nothing }
    items_ended nothing (Refused refusal) ends = absurd ends
    items_ended nothing (NoFile file) ends = absurd ends
    items_ended nothing ReadFault ends = absurd ends
    items_ended nothing WriteFault ends = absurd ends
    items_ended nothing NoMemory ends = inr (inr (inr (record { asks = asks; no_fault = no_fault; no_read_fault = no_read_fault; nothing = nothing })))
    items_ended nothing Usage ends = absurd ends
    items_ended nothing (BadJournal fail) ends = absurd ends
    items_ended nothing (OtherFiles file) ends = absurd ends
    items_ended nothing (Illegal at) ends = record { input = input_of nothing.no_items; no_step = ends; nothing = nothing }

    answer_of : HasNoItems call → (lines : List ℕ) → AreLines question names journal.header.steps (run_of core journal taken) lines → HasAnswer call lines
    answer_of no_items lines are = record { input = input_of no_items; are = are }

  -- ---- all stages

  abbrev input_before : Inputs
  input_before = inputs call.before.left call.before.read_faults

  abbrev input_now : Inputs
  input_now = inputs call.now.left call.now.read_faults

  nothing_of : PutsNothing call → input_now ≡ input_before → RunsNothing call
  nothing_of nothing same = record {
    no_items = nothing.no_items;
    untouched = devices_same call.before call.now (ap (λ i. i.left) same) (ap (λ i. i.faults) same) nothing.held nothing.no_write_fault;
  }

  after_program : (journal : Journal) → IsJournalOf call.files name journal → is_too_long_for question journal.items ≡ false → (core : Core) (classes : Classes) → AreProgram call.files names journal.header core classes
      → call.reads_now.faults ≡ call.reads.faults → PutsNothing call → (ending : Ending) → EndsAfterProgram core journal question input_before input_now ending → HasCause call ending
  after_program journal is fits core classes program no_fault nothing ending (inl ends) = input_ended (program_of journal is fits core classes program no_fault) nothing ending ends
  after_program journal is fits core classes program no_fault nothing ending (inr ends) =
      items_ended journal is fits core classes program no_fault ends.taken ends.whole ends.no_fault nothing ending ends.ends

  after_items : (journal : Journal) → IsJournalOf call.files name journal → is_too_long_for question journal.items ≡ false → (mid : Reads) → mid.reads ≡ next_read call.reads.reads
      → mid.faults ≡ call.reads.faults → PutsNothing call → (ending : Ending) → EndsAfterItems call.files journal names question mid call.reads_now input_before input_now ending → HasCause call ending
  after_items journal is fits mid one same nothing ending (inl ends) = program_ended journal is fits mid one same (nothing_of nothing ends.1) ending ends.0
  after_items journal is fits mid one same nothing ending (inr ends) =
      after_program journal is fits ends.core ends.classes ends.program (ends.no_fault ∙ same) nothing ending ends.ends

  after_journal : (journal : Journal) → IsJournalOf call.files name journal → (mid : Reads) → mid.reads ≡ next_read call.reads.reads → mid.faults ≡ call.reads.faults → PutsNothing call
      → (ending : Ending) → EndsAfterJournal call.files journal names question mid call.reads_now input_before input_now ending → HasCause call ending
  after_journal journal is mid one same nothing ending (inl ends) =
      long_ended journal is (ap (λ reads. reads.faults) ends.no_reads ∙ same) (nothing_of nothing ends.no_input) ending ends.ends
  after_journal journal is mid one same nothing ending (inr ends) = after_items journal is ends.fits mid one same nothing ending ends.ends

  -- a replay without lines
  pub replay_ended : PutsNothing call → (ending : Ending) → EndsText call.files name names question call.reads call.reads_now input_before input_now ending → HasCause call ending
  replay_ended nothing ending (inl ends) = journal_ended (nothing_of nothing ends.1) ending ends.0
  replay_ended nothing ending (inr ends) = after_journal ends.journal ends.is ends.mid ends.one ends.same nothing ending ends.ends

  -- a replay with lines
  pub replay_answered : HasNoItems call → (lines : List ℕ) → IsText call.files name names question call.reads call.reads_now input_before input_now lines → HasAnswer call lines
  replay_answered no_items lines text =
      let of = text.text.text in
      answer_of text.journal text.is text.text.fits of.core of.classes of.program (of.no_fault ∙ text.same) of.lines_of.taken of.lines_of.whole of.lines_of.no_fault no_items lines of.lines_of.are

-- ---- one stage after the other

module _ (told : Told) (names : List (List ℕ)) (question : Question) (reads : Reads) (before now : Inputs) where
  pub text_as : (name : List ℕ) (journal : Journal) (mid reads_now : Reads) (result : Result (List ℕ) Ending) → IsJournalOf told name journal → mid.faults ≡ reads.faults
      → IfOk result (HasTextOf told journal names question mid reads_now before now) → IfOk result (IsText told name names question reads reads_now before now)
  text_as name journal mid reads_now (Ok lines) is same text = record { journal = journal; is = is; mid = mid; same = same; text = text }
  text_as name journal mid reads_now (Err ending) is same text = tt

  pub no_text_as : (name : List ℕ) (journal : Journal) (mid reads_now : Reads) (result : Result (List ℕ) Ending) → IsJournalOf told name journal → mid.reads ≡ next_read reads.reads
      → mid.faults ≡ reads.faults → IfErr result (EndsAfterJournal told journal names question mid reads_now before now)
      → IfErr result (EndsText told name names question reads reads_now before now)
  no_text_as name journal mid reads_now (Ok lines) is one same ends = tt
  no_text_as name journal mid reads_now (Err ending) is one same ends = inr (record { journal = journal; is = is; mid = mid; one = one; same = same; ends = ends })

  module _ (journal : Journal) (reads_now : Reads) (core : Core) (classes : Classes) (program : AreProgram told names journal.header core classes) (same : reads_now.faults ≡ reads.faults) where
    pub text_of_as : (result : Result (List ℕ) Ending) → IfOk result (HasLinesOf core journal names question before now)
        → IfOk result (IsTextOf told journal names question reads reads_now before now)
    text_of_as (Ok lines) of = record { core = core; classes = classes; program = program; no_fault = same; lines_of = of }
    text_of_as (Err ending) of = tt

    pub no_text_of_as : (result : Result (List ℕ) Ending) → IfErr result (EndsAfterProgram core journal question before now)
        → IfErr result (EndsAfterItems told journal names question reads reads_now before now)
    no_text_of_as (Ok lines) ends = tt
    no_text_of_as (Err ending) ends = inr (record { core = core; classes = classes; program = program; no_fault = same; ends = ends })

module _ (core : Core) (journal : Journal) (names : List (List ℕ)) (question : Question) (before now : Inputs) (taken : List ℕ) (whole : IsWhole before.left now.left taken) (same : now.faults ≡ before.faults) where
  pub lines_as : (result : Result (List ℕ) Ending) → IfOk result (AreLines question names journal.header.steps (run_of core journal taken))
      → IfOk result (HasLinesOf core journal names question before now)
  lines_as (Ok lines) are = record { taken = taken; whole = whole; are = are; no_fault = same }
  lines_as (Err ending) are = tt

  pub no_lines_as : (result : Result (List ℕ) Ending) → IfErr result (EndsItems question journal.header.steps (run_of core journal taken))
      → IfErr result (EndsAfterProgram core journal question before now)
  no_lines_as (Ok lines) ends = tt
  no_lines_as (Err ending) ends = inr (record { taken = taken; whole = whole; ends = ends; no_fault = same })

pub min_is : (n a b : ℕ) → (a ≤ b → n ≡ a) → (b < a → n ≡ b) → n ≡ min a b
min_is n a b less more = by (cases_lt b a)
  where
    by : (b < a) ⊎ (a ≤ b) → n ≡ min a b
    by (inl after) = let most : b ≤ a = omega arith in more after ∙ sym (min-eq_right most)
    by (inr before) = less before ∙ sym (min-eq_left before)

module _ (names : List (List ℕ)) (steps : ℕ) (r : Run) where
  pub seen_as : (view : View) (snapshot : Snapshot) (result : Result (List ℕ) Ending) → ReplaysTo view steps r (replayed.Reached snapshot)
      → IfOk result (λ lines. lines ≡ shown_text r.core names view.places snapshot) → IfOk result (AreSeen view names steps r)
  seen_as view snapshot (Ok lines) replays are = record { snapshot = snapshot; replays = replays; are = are }
  seen_as view snapshot (Err ending) replays are = tt

  pub raced_as : (races : List Race) (result : Result (List ℕ) Ending) → Races steps r (raced.Found races)
      → IfOk result (λ lines. lines ≡ races_text names races) → IfOk result (AreRacesOf names steps r)
  raced_as races (Ok lines) found are = record { races = races; found = found; are = are }
  raced_as races (Err ending) found are = tt

  module _ (tracing : Tracing) (rows : List Traced) (found : TracesTo tracing steps r (traces.Found rows)) where
    pub traced_as : (result : Result (List ℕ) Ending) → IfOk result (λ lines. told_text r.core names tracing.picture rows ≡ Some lines) → IfOk result (AreTracedOf tracing names steps r)
    traced_as (Ok lines) are = record { rows = rows; traces = found; are = are }
    traced_as (Err ending) are = tt

    pub untraced_as : (result : Result (List ℕ) Ending) → IfErr result (EndsTold tracing.picture rows) → IfErr result (EndsItems (question.Trace tracing) steps r)
    untraced_as (Ok lines) ends = tt
    untraced_as (Err ending) ends = ended ending ends
      where
        ended : (ending : Ending) → EndsTold tracing.picture rows ending → EndsItems (question.Trace tracing) steps r ending
        ended Done ends = absurd ends
        ended Quiet ends = absurd ends
        ended (Stopped status) ends = absurd ends
        ended (Failed fault place) ends = absurd ends
        ended (Limit limit.Steps) ends = absurd ends
        ended (Limit (limit.Ticks process)) ends = absurd ends
        ended (Limit limit.Input) ends = absurd ends
        ended (Limit limit.Items) ends = record { rows = rows; traces = found; large = ends }
        ended (Limit limit.Races) ends = absurd ends
        ended (Refused refusal) ends = absurd ends
        ended (NoFile file) ends = absurd ends
        ended ReadFault ends = absurd ends
        ended WriteFault ends = absurd ends
        ended NoMemory ends = tt
        ended Usage ends = absurd ends
        ended (BadJournal fail) ends = absurd ends
        ended (OtherFiles file) ends = absurd ends
        ended (Illegal at) ends = absurd ends

  pub out_of_memory_as : (question : Question) (result : Result (List ℕ) Ending) → IfErr result (λ ending. ending ≡ NoMemory) → IfErr result (EndsItems question steps r)
  out_of_memory_as question (Ok lines) ends = tt
  out_of_memory_as question (Err ending) ends = subst (EndsItems question steps r) (sym ends) tt
