-- Why a replay ends as it does. Each cause says what was there before it.
use Rattle.std.specs.Prelude.{◌≡◌, ◌≢◌, ◌+◌, ◌<◌, ◌≤◌, ◌⊎◌, ℕ, Bool, true, false, List, [], length, min, slice_get, take, Option, IfSome, Some}
use Rattle.std.specs.Io.KnownBytes.{prepend_known}
use Rattle.std.specs.Option.{option_map}
use Rattle.std.specs.Str.{IsUtf8}
use Rattle.sr_ask.specs.declared.item.Item.{Item}
use Rattle.sr_core.specs.declared.component.Core.{Core}
use Rattle.sr_core.specs.declared.owner.Classes.{Classes}
use Rattle.sr_front.specs.Cores.{IsCoreOf}
use Rattle.sr_front.specs.Program.{IsRefused}
use Rattle.sr_front.specs.Reading.{contents_of}
use Rattle.sr_journal.specs.Causes.{IsBeginning, IsJournal, IsNoJournal, IsOtherVersion}
use Rattle.sr_journal.specs.declared.fail.JournalFail.{JournalFail}
use Rattle.sr_journal.specs.declared.fail.JournalFail.TheVariants as fails
use Rattle.sr_journal.specs.declared.header.Header.{Header}
use Rattle.sr_ports.specs.Faults.{Rose}
use Rattle.sr_ports.specs.Files.{bytes_of}
use Rattle.sr_races.specs.Items.{Run}
use Rattle.sr_races.specs.Races.{Races, is_too_long}
use Rattle.sr_races.specs.declared.race.Race.{Race}
use Rattle.sr_races.specs.Traces.{IsTrace}
use Rattle.sr_races.specs.declared.race.Raced.TheVariants as raced
use Rattle.sr_races.specs.declared.tracing.Traces.{Traces}
use Rattle.sr_races.specs.declared.tracing.Traces.TheVariants as traces
use Rattle.sr_replay.specs.Replays.{Replays}
use Rattle.sr_replay.specs.declared.snapshot.Snapshot.{Snapshot}
use Rattle.sr_replay.specs.declared.whole.Replayed.{Replayed}
use Rattle.sr_replay.specs.declared.whole.Replayed.TheVariants as replayed
use Rattle.sr_text.specs.declared.refusal.Refusal.{Refusal}
use Rattle.sr_trace.specs.declared.traced.Traced.{Traced}
use Rattle.sr_top.specs.Calls.{Call, HasNoItems, PutsNothing, RunsNothing}
use Rattle.sr_top.specs.Placing.{shown_text}
use Rattle.sr_top.specs.Racing.{races_text}
use Rattle.sr_top.specs.Reading.{AreRead, FailsAt, IsUnread, sizes_of}
use Rattle.sr_top.specs.Tasks.{Replays as asks, task}
use Rattle.sr_top.specs.Tracing.{HasNoRoom, told_text}
use Rattle.sr_top.specs.declared.question.Question.{Question}
use Rattle.sr_top.specs.declared.question.Question.TheVariants as question
use Rattle.sr_top.specs.declared.question.Tracing.{Tracing}
use Rattle.sr_top.specs.declared.question.View.{View}

-- ---- what is asked of a journal

-- the items of a journal over a core and an input
abbrev pub run_by : Core → Header → List Item → List ℕ → Run
run_by core header items input = record { core = core; limit = header.ticks; input = input; items = items }

-- what a replay of the first items comes to
abbrev pub ReplaysTo : View → ℕ → Run → Replayed → Type 0
ReplaysTo view steps r so = Replays r.core steps r.limit r.input r.items (min view.upto (length r.items)) so

-- the lines of what is to be seen after the first items
pub record AreSeen (view : View) (names : List (List ℕ)) (steps : ℕ) (r : Run) (lines : List ℕ) : Type 0 where
  pub snapshot : Snapshot
  pub replays : ReplaysTo view steps r (replayed.Reached snapshot)
  pub are : lines ≡ shown_text r.core names view.places snapshot

-- the lines of all races
pub record AreRacesOf (names : List (List ℕ)) (steps : ℕ) (r : Run) (lines : List ℕ) : Type 0 where
  pub races : List Race
  pub found : Races steps r (raced.Found races)
  pub are : lines ≡ races_text names races

-- what a trace of the first items comes to
abbrev pub TracesTo : Tracing → ℕ → Run → Traces → Type 0
TracesTo tracing steps r so = IsTrace steps (min tracing.upto (length r.items)) r so

-- the text of a trace of the first items
pub record AreTracedOf (tracing : Tracing) (names : List (List ℕ)) (steps : ℕ) (r : Run) (lines : List ℕ) : Type 0 where
  pub rows : List Traced
  pub traces : TracesTo tracing steps r (traces.Found rows)
  pub are : told_text r.core names tracing.picture rows ≡ Some lines

-- the lines that answer a question
abbrev pub AreLines : Question → List (List ℕ) → ℕ → Run → List ℕ → Type 0
AreLines (question.Seen view) names steps r lines = AreSeen view names steps r lines
AreLines question.Races names steps r lines = AreRacesOf names steps r lines
AreLines (question.Trace tracing) names steps r lines = AreTracedOf tracing names steps r lines

-- this item is the first that is no step, of those that a question looks at
abbrev pub IsNoStep : Question → ℕ → Run → ℕ → Type 0
IsNoStep (question.Seen view) steps r at = ReplaysTo view steps r (replayed.Illegal at)
IsNoStep question.Races steps r at = Races steps r (raced.Illegal at)
IsNoStep (question.Trace tracing) steps r at = TracesTo tracing steps r (traces.Illegal at)

-- there are more items than a question may have; a replay and a trace may have all
abbrev pub is_too_long_for : Question → List Item → Bool
is_too_long_for (question.Seen view) items = false
is_too_long_for question.Races items = is_too_long items
is_too_long_for (question.Trace tracing) items = false

-- there are more races than may be told
abbrev pub HasTooMany : Question → ℕ → Run → Type 0
HasTooMany (question.Seen view) steps r = ⊥
HasTooMany question.Races steps r = Races steps r raced.TooMany
HasTooMany (question.Trace tracing) steps r = ⊥

-- the items are too many for a picture
pub record AreTooLarge (tracing : Tracing) (steps : ℕ) (r : Run) : Type 0 where
  pub rows : List Traced
  pub traces : TracesTo tracing steps r (traces.Found rows)
  pub large : HasNoRoom tracing.picture rows

abbrev pub IsTooLarge : Question → ℕ → Run → Type 0
IsTooLarge (question.Seen view) steps r = ⊥
IsTooLarge question.Races steps r = ⊥
IsTooLarge (question.Trace tracing) steps r = AreTooLarge tracing steps r

-- ---- what is there, one after the other

-- the words ask a question about a journal
pub record AsksReplay (call : Call) : Type 0 where
  pub journal : List ℕ
  pub names : List (List ℕ)
  pub question : Question
  pub asked : task call.words ≡ Some (asks journal names question)

-- these are the first 536,870,912 bytes, or all, of the journal of a name, which is text
pub record AreBytesOf (told : Option (List (List ℕ × List ℕ))) (name bytes : List ℕ) : Type 0 where
  pub text : IsUtf8 name
  pub read : IfSome told (λ held. option_map (take 536870912) (bytes_of held name) ≡ Some bytes)

-- the journal was read
pub record ReadsJournal (call : Call) : Type 0 where
  pub asks : AsksReplay call
  pub bytes : List ℕ
  pub read : AreBytesOf call.files asks.journal bytes

-- its bytes are a journal
pub record HasJournal (call : Call) : Type 0 where
  pub reads : ReadsJournal call
  pub header : Header
  pub items : List Item
  pub is : IsJournal header items reads.bytes

-- it has no more items than the question may have
pub record HasItems (call : Call) : Type 0 where
  pub journal : HasJournal call
  pub fits : is_too_long_for journal.reads.asks.question journal.items ≡ false

-- the files were read
pub record HasFiles (call : Call) : Type 0 where
  pub items : HasItems call
  pub files : List (List ℕ × List ℕ)
  pub read : AreRead call.files items.journal.reads.asks.names files

-- they have the names and the lengths that the journal tells
pub record HasSameFiles (call : Call) : Type 0 where
  pub has : HasFiles call
  pub same : sizes_of has.files ≡ has.items.journal.header.files

-- they are accepted, and this is their core; no read failed
pub record HasProgram (call : Call) : Type 0 where
  pub same : HasSameFiles call
  pub core : Core
  pub classes : Classes
  pub accepted : IsCoreOf (contents_of same.has.files) (core, classes)
  pub no_fault : call.reads_now.faults ≡ call.reads.faults

-- these bytes are all of the input, and at most 67,108,864
pub record IsWhole (left left_now : Option (List ℕ)) (taken : List ℕ) : Type 0 where
  pub passed : left ≡ prepend_known taken left_now
  pub at_end : IfSome left_now (λ rest. rest ≡ [])
  pub most : length taken ≤ 67108864

-- the input was taken to its end
pub record HasInput (call : Call) : Type 0 where
  pub program : HasProgram call
  pub taken : List ℕ
  pub whole : IsWhole call.before.left call.now.left taken
  pub no_read_fault : call.now.read_faults ≡ call.before.read_faults
  pub no_items : HasNoItems call

-- the journal of the call
abbrev pub journal_in : (call : Call) → HasInput call → HasJournal call
journal_in call input = input.program.same.has.items.journal

-- its items over the program and the input
abbrev pub run_in : (call : Call) → HasInput call → Run
run_in call input = run_by input.program.core (journal_in call input).header (journal_in call input).items input.taken

-- these lines answer the question
pub record HasAnswer (call : Call) (lines : List ℕ) : Type 0 where
  pub input : HasInput call
  pub are : AreLines (journal_in call input).reads.asks.question (journal_in call input).reads.asks.names (journal_in call input).header.steps (run_in call input) lines

-- ---- causes, in the order in which they are looked for

-- the file of this place among the words that name files can't be read: the journal, or a file after it
pub record IsUnreadFile (call : Call) (word : ℕ) : Type 0 where
  pub has : HasItems call
  pub file : ℕ
  pub place : word ≡ file + 1
  pub unread : IsUnread call.files has.journal.reads.asks.names file

abbrev pub IsUnreadWord : Call → ℕ → Type 0
IsUnreadWord call word = ((word ≡ 0) × AsksReplay call) ⊎ IsUnreadFile call word

pub record EndsUnread (call : Call) (word : ℕ) : Type 0 where
  pub unread : IsUnreadWord call word
  pub failed : FailsAt word call.reads call.reads_now
  pub nothing : RunsNothing call

-- why bytes are no journal
abbrev pub IsCauseOf : JournalFail → List ℕ → Type 0
IsCauseOf fails.NotJournal bytes = IsNoJournal bytes
IsCauseOf fails.Truncated bytes = IsBeginning bytes
IsCauseOf fails.Version bytes = IsOtherVersion bytes
IsCauseOf fails.NoMemory bytes = ⊥

pub record EndsBadJournal (call : Call) (fail : JournalFail) : Type 0 where
  pub reads : ReadsJournal call
  pub cause : IsCauseOf fail reads.bytes
  pub no_fault : call.reads_now.faults ≡ call.reads.faults
  pub nothing : RunsNothing call

-- the journal has more items than the question may have
pub record EndsTooLong (call : Call) : Type 0 where
  pub has : HasJournal call
  pub long : is_too_long_for has.reads.asks.question has.items ≡ true
  pub no_fault : call.reads_now.faults ≡ call.reads.faults
  pub nothing : RunsNothing call

-- this is the first place at which two lists of files differ, or the smaller number of files
pub record IsFirstOther (sizes told : List (ℕ × List ℕ)) (file : ℕ) : Type 0 where
  pub before : take file sizes ≡ take file told
  pub within : file ≤ min (length sizes) (length told)
  pub here : slice_get sizes file ≢ slice_get told file

pub record EndsOtherFiles (call : Call) (file : ℕ) : Type 0 where
  pub has : HasFiles call
  pub other : IsFirstOther (sizes_of has.files) has.items.journal.header.files file
  pub no_fault : call.reads_now.faults ≡ call.reads.faults
  pub nothing : RunsNothing call

-- this is the refusal of the files
pub record EndsReplayRefused (call : Call) (refusal : Refusal) : Type 0 where
  pub same : HasSameFiles call
  pub refused : IsRefused (contents_of same.has.files) refusal
  pub no_fault : call.reads_now.faults ≡ call.reads.faults
  pub nothing : RunsNothing call

-- the input failed
pub record EndsReplayRead (call : Call) : Type 0 where
  pub program : HasProgram call
  pub failed : Rose call.before.read_faults call.now.read_faults
  pub nothing : PutsNothing call

-- more bytes were taken than the input may have
pub record IsTooLong (left left_now : Option (List ℕ)) : Type 0 where
  pub taken : List ℕ
  pub passed : left ≡ prepend_known taken left_now
  pub more : 67108864 < length taken

-- the input has more than 67,108,864 bytes
pub record EndsReplayInput (call : Call) : Type 0 where
  pub program : HasProgram call
  pub long : IsTooLong call.before.left call.now.left
  pub no_read_fault : call.now.read_faults ≡ call.before.read_faults
  pub nothing : PutsNothing call

-- this item is the first that is no step
pub record EndsIllegal (call : Call) (at : ℕ) : Type 0 where
  pub input : HasInput call
  pub no_step : IsNoStep (journal_in call input).reads.asks.question (journal_in call input).header.steps (run_in call input) at
  pub nothing : PutsNothing call

-- there are more races than may be told
pub record EndsTooMany (call : Call) : Type 0 where
  pub input : HasInput call
  pub many : HasTooMany (journal_in call input).reads.asks.question (journal_in call input).header.steps (run_in call input)
  pub nothing : PutsNothing call

-- there are more items or processes than a picture has room for
pub record EndsTooLarge (call : Call) : Type 0 where
  pub input : HasInput call
  pub large : IsTooLarge (journal_in call input).reads.asks.question (journal_in call input).header.steps (run_in call input)
  pub nothing : PutsNothing call

-- memory ran out before the lines; no count rose
pub record EndsEarlyInReplay (call : Call) : Type 0 where
  pub asks : AsksReplay call
  pub no_fault : call.reads_now.faults ≡ call.reads.faults
  pub no_read_fault : call.now.read_faults ≡ call.before.read_faults
  pub nothing : PutsNothing call
