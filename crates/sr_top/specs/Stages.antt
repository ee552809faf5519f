-- The stages of a replay, one after the other: what each gives, and why it gives nothing.
use Rattle.std.specs.Prelude.{◌≡◌, ◌+◌, ◌-◌, ◌^◌, ◌<◌, ◌≤◌, ◌⊎◌, ◌++◌, ℕ, Bool, true, false, List, [], length, min, Option, IfSome}
use Rattle.std.specs.Io.KnownBytes.{prepend_known}
use Rattle.sr_core.specs.declared.component.Core.{Core}
use Rattle.sr_core.specs.declared.owner.Classes.{Classes}
use Rattle.sr_front.specs.Cores.{IsCoreOf}
use Rattle.sr_front.specs.Program.{IsRefused}
use Rattle.sr_front.specs.Reading.{contents_of}
use Rattle.sr_journal.specs.Causes.{IsJournal}
use Rattle.sr_journal.specs.declared.fail.JournalFail.{JournalFail}
use Rattle.sr_journal.specs.declared.header.Header.{Header}
use Rattle.sr_ports.specs.Faults.{Rose}
use Rattle.sr_ports.specs.Files.{next_read}
use Rattle.sr_races.specs.Items.{Run}
use Rattle.sr_text.specs.declared.refusal.Refusal.{Refusal}
use Rattle.sr_top.specs.Reading.{AreRead, FailsAt, IsUnread, Reads, sizes_of}
use Rattle.sr_top.specs.Replaying.{AreBytesOf, AreLines, HasTooMany, IsCauseOf, IsFirstOther, IsNoStep, IsTooLarge, IsTooLong, IsWhole, is_too_long_for, run_by}
use Rattle.sr_top.specs.declared.report.Ending.{Ending}
use Rattle.sr_top.specs.declared.report.Ending.TheVariants.{Limit, Refused, NoFile, ReadFault, NoMemory, BadJournal, OtherFiles, Illegal}
use Rattle.sr_top.specs.declared.report.LimitKind.TheVariants as limit
use Rattle.sr_top.specs.declared.recorded.Journal.{Journal}
use Rattle.sr_top.specs.declared.question.Question.{Question}

-- what the files tell: names and bytes
abbrev pub Told : Type 0
Told = Option (List (List ℕ × List ℕ))

-- ---- the journal

pub record IsJournalOf (told : Told) (name : List ℕ) (journal : Journal) : Type 0 where
  pub bytes : List ℕ
  pub read : AreBytesOf told name bytes
  pub is : IsJournal journal.header journal.items bytes

abbrev pub EndsBytes : List ℕ → Ending → Type 0
EndsBytes bytes (BadJournal fail) = IsCauseOf fail bytes
EndsBytes bytes NoMemory = Unit {0}
EndsBytes bytes _ = ⊥

-- the bytes of this name are no journal
pub record AreNoJournal (told : Told) (name : List ℕ) (fail : JournalFail) : Type 0 where
  pub bytes : List ℕ
  pub read : AreBytesOf told name bytes
  pub cause : IsCauseOf fail bytes

abbrev pub EndsJournal : Told → List ℕ → Reads → Reads → Ending → Type 0
EndsJournal told name before now (NoFile word) = (word ≡ 0) × FailsAt word before now
EndsJournal told name before now (BadJournal fail) = AreNoJournal told name fail × (now.faults ≡ before.faults)
EndsJournal told name before now NoMemory = now.faults ≡ before.faults
EndsJournal told name before now _ = ⊥

-- ---- the program

-- these files are those that a journal tells, and this is their core
pub record IsProgramOf (header : Header) (files : List (List ℕ × List ℕ)) (core : Core) (classes : Classes) : Type 0 where
  pub same : sizes_of files ≡ header.files
  pub accepted : IsCoreOf (contents_of files) (core, classes)

abbrev pub EndsFiles : Header → List (List ℕ × List ℕ) → Ending → Type 0
EndsFiles header files (OtherFiles file) = IsFirstOther (sizes_of files) header.files file
EndsFiles header files (Refused refusal) = (sizes_of files ≡ header.files) × IsRefused (contents_of files) refusal
EndsFiles header files NoMemory = Unit {0}
EndsFiles header files _ = ⊥

-- the files of these names are those that a journal tells, and this is their core
pub record AreProgram (told : Told) (names : List (List ℕ)) (header : Header) (core : Core) (classes : Classes) : Type 0 where
  pub files : List (List ℕ × List ℕ)
  pub read : AreRead told names files
  pub is : IsProgramOf header files core classes

-- the files of these names were read, and aren't those that a journal tells
pub record AreOthers (told : Told) (names : List (List ℕ)) (header : Header) (file : ℕ) : Type 0 where
  pub files : List (List ℕ × List ℕ)
  pub read : AreRead told names files
  pub other : IsFirstOther (sizes_of files) header.files file

-- they are, and are refused
pub record AreRefusedFiles (told : Told) (names : List (List ℕ)) (header : Header) (refusal : Refusal) : Type 0 where
  pub files : List (List ℕ × List ℕ)
  pub read : AreRead told names files
  pub same : sizes_of files ≡ header.files
  pub refused : IsRefused (contents_of files) refusal

-- a file after the journal can't be read
pub record IsUnreadAfter (told : Told) (names : List (List ℕ)) (before now : Reads) (word : ℕ) : Type 0 where
  pub file : ℕ
  pub place : word ≡ file + 1
  pub unread : IsUnread told names file
  pub failed : FailsAt file before now

-- the ending where the reading of files after a journal ends so: the journal is one place before them
abbrev pub after_journal : Ending → Ending
after_journal (NoFile file) = NoFile (min (file + 1) (2 ^ 32 - 1))
after_journal ending = ending

abbrev pub EndsProgram : Told → List (List ℕ) → Header → Reads → Reads → Ending → Type 0
EndsProgram told names header before now (NoFile word) = IsUnreadAfter told names before now word
EndsProgram told names header before now (OtherFiles file) = AreOthers told names header file × (now.faults ≡ before.faults)
EndsProgram told names header before now (Refused refusal) = AreRefusedFiles told names header refusal × (now.faults ≡ before.faults)
EndsProgram told names header before now NoMemory = now.faults ≡ before.faults
EndsProgram told names header before now _ = ⊥

-- ---- the input

-- The next bytes were taken, or there were none; it says which. In all at most one more was taken than the input may have.
pub record TakesPiece (left left_now : Option (List ℕ)) (old new : List ℕ) (some : Bool) : Type 0 where
  pub piece : List ℕ
  pub passed : left ≡ prepend_known piece left_now
  pub added : new ≡ old ++ piece
  pub most : length new ≤ 67108865
  pub more : some ≡ true → length old < length new
  pub none : some ≡ false → (new ≡ old) × IfSome left_now (λ rest. rest ≡ [])

abbrev pub EndsPiece : ℕ → ℕ → Ending → Type 0
EndsPiece faults faults_now ReadFault = Rose faults faults_now
EndsPiece faults faults_now NoMemory = faults_now ≡ faults
EndsPiece faults faults_now _ = ⊥

abbrev pub EndsInput : Option (List ℕ) → Option (List ℕ) → ℕ → ℕ → Ending → Type 0
EndsInput left left_now faults faults_now ReadFault = Rose faults faults_now
EndsInput left left_now faults faults_now (Limit limit.Input) = IsTooLong left left_now × (faults_now ≡ faults)
EndsInput left left_now faults faults_now NoMemory = faults_now ≡ faults
EndsInput left left_now faults faults_now _ = ⊥

-- ---- the items

-- the items of a journal over a core and an input
abbrev pub run_of : Core → Journal → List ℕ → Run
run_of core journal input = run_by core journal.header journal.items input

-- why no lines answer a question about the items
abbrev pub EndsItems : Question → ℕ → Run → Ending → Type 0
EndsItems question steps r (Illegal at) = IsNoStep question steps r at
EndsItems question steps r (Limit limit.Races) = HasTooMany question steps r
EndsItems question steps r (Limit limit.Items) = IsTooLarge question steps r
EndsItems question steps r NoMemory = Unit {0}
EndsItems question steps r _ = ⊥

-- ---- several stages

-- what the input has left, and the count of its faults
pub record Inputs : Type 0 where
  pub left : Option (List ℕ)
  pub faults : ℕ

abbrev pub inputs : Option (List ℕ) → ℕ → Inputs
inputs left faults = record { left = left; faults = faults }

-- the lines, once there is a program
pub record HasLinesOf (core : Core) (journal : Journal) (names : List (List ℕ)) (question : Question) (before now : Inputs) (lines : List ℕ) : Type 0 where
  pub taken : List ℕ
  pub whole : IsWhole before.left now.left taken
  pub are : AreLines question names journal.header.steps (run_of core journal taken) lines
  pub no_fault : now.faults ≡ before.faults

-- the items have no lines
pub record EndsInItems (core : Core) (journal : Journal) (question : Question) (before now : Inputs) (ending : Ending) : Type 0 where
  pub taken : List ℕ
  pub whole : IsWhole before.left now.left taken
  pub ends : EndsItems question journal.header.steps (run_of core journal taken) ending
  pub no_fault : now.faults ≡ before.faults

-- why there are no lines, once there is a program: the input, or the items
abbrev pub EndsAfterProgram : Core → Journal → Question → Inputs → Inputs → Ending → Type 0
EndsAfterProgram core journal question before now ending = EndsInput before.left now.left before.faults now.faults ending ⊎ EndsInItems core journal question before now ending

-- the lines, once there is a journal
pub record IsTextOf (told : Told) (journal : Journal) (names : List (List ℕ)) (question : Question) (reads reads_now : Reads) (before now : Inputs) (lines : List ℕ) : Type 0 where
  pub core : Core
  pub classes : Classes
  pub program : AreProgram told names journal.header core classes
  pub no_fault : reads_now.faults ≡ reads.faults
  pub lines_of : HasLinesOf core journal names question before now lines

-- there is a program, and no lines
pub record EndsWithProgram (told : Told) (journal : Journal) (names : List (List ℕ)) (question : Question) (reads reads_now : Reads) (before now : Inputs) (ending : Ending) : Type 0 where
  pub core : Core
  pub classes : Classes
  pub program : AreProgram told names journal.header core classes
  pub no_fault : reads_now.faults ≡ reads.faults
  pub ends : EndsAfterProgram core journal question before now ending

-- why there are none, once the items fit: the program, or what comes after it
abbrev pub EndsAfterItems : Told → Journal → List (List ℕ) → Question → Reads → Reads → Inputs → Inputs → Ending → Type 0
EndsAfterItems told journal names question reads reads_now before now ending =
    (EndsProgram told names journal.header reads reads_now ending × (now ≡ before)) ⊎ EndsWithProgram told journal names question reads reads_now before now ending

-- the items fit, and these are the lines
pub record HasTextOf (told : Told) (journal : Journal) (names : List (List ℕ)) (question : Question) (reads reads_now : Reads) (before now : Inputs) (lines : List ℕ) : Type 0 where
  pub fits : is_too_long_for question journal.items ≡ false
  pub text : IsTextOf told journal names question reads reads_now before now lines

-- there are too many items, or memory ran out before they were counted
abbrev pub EndsLong : Question → Journal → Ending → Type 0
EndsLong question journal (Limit limit.Items) = is_too_long_for question journal.items ≡ true
EndsLong question journal NoMemory = Unit {0}
EndsLong question journal _ = ⊥

-- nothing was read or taken after the journal
pub record EndsAtJournal (journal : Journal) (question : Question) (reads reads_now : Reads) (before now : Inputs) (ending : Ending) : Type 0 where
  pub ends : EndsLong question journal ending
  pub no_reads : reads_now ≡ reads
  pub no_input : now ≡ before

-- the items fit, and there are no lines
pub record EndsWithItems (told : Told) (journal : Journal) (names : List (List ℕ)) (question : Question) (reads reads_now : Reads) (before now : Inputs) (ending : Ending) : Type 0 where
  pub fits : is_too_long_for question journal.items ≡ false
  pub ends : EndsAfterItems told journal names question reads reads_now before now ending

-- why there are none, once there is a journal: its items, or what comes after them
abbrev pub EndsAfterJournal : Told → Journal → List (List ℕ) → Question → Reads → Reads → Inputs → Inputs → Ending → Type 0
EndsAfterJournal told journal names question reads reads_now before now ending =
    EndsAtJournal journal question reads reads_now before now ending ⊎ EndsWithItems told journal names question reads reads_now before now ending

-- ---- all stages

-- the lines of the whole replay
pub record IsText (told : Told) (name : List ℕ) (names : List (List ℕ)) (question : Question) (reads reads_now : Reads) (before now : Inputs) (lines : List ℕ) : Type 0 where
  pub journal : Journal
  pub is : IsJournalOf told name journal
  pub mid : Reads
  pub same : mid.faults ≡ reads.faults
  pub text : HasTextOf told journal names question mid reads_now before now lines

-- there is a journal, and no lines
pub record EndsWithJournal (told : Told) (name : List ℕ) (names : List (List ℕ)) (question : Question) (reads reads_now : Reads) (before now : Inputs) (ending : Ending) : Type 0 where
  pub journal : Journal
  pub is : IsJournalOf told name journal
  pub mid : Reads
  pub one : mid.reads ≡ next_read reads.reads
  pub same : mid.faults ≡ reads.faults
  pub ends : EndsAfterJournal told journal names question mid reads_now before now ending

-- why there are none: the journal, or what comes after it
abbrev pub EndsText : Told → List ℕ → List (List ℕ) → Question → Reads → Reads → Inputs → Inputs → Ending → Type 0
EndsText told name names question reads reads_now before now ending =
    (EndsJournal told name reads reads_now ending × (now ≡ before)) ⊎ EndsWithJournal told name names question reads reads_now before now ending
