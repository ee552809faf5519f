-- The journal of a call: when there is one, and its text.
use Rattle.std.specs.Prelude.{◌≡◌, ◌⊎◌, ◌≤◌, ℕ, Bool, true, false, List, length, Option, Some, None}
use Rattle.sr_core.specs.declared.component.Core.{Core}
use Rattle.sr_core.specs.declared.owner.Classes.{Classes}
use Rattle.sr_front.specs.Cores.{IsCoreOf}
use Rattle.sr_front.specs.Reading.{contents_of}
use Rattle.sr_journal.specs.Journal.{journal_text}
use Rattle.sr_journal.specs.declared.header.Header.{Header}
use Rattle.sr_top.specs.Causes.{Call, RunsNothing}
use Rattle.sr_top.specs.Reading.{AreRead, sizes_of}
use Rattle.sr_top.specs.Report.{GotAsFar}
use Rattle.sr_top.specs.Tasks.{Named, Runs, journal_asked, task}
use Rattle.sr_top.specs.declared.report.Ending.{Ending}
use Rattle.sr_top.specs.declared.report.Ending.TheVariants.{Done, Refused, NoFile, NoMemory, Usage}
use Rattle.sr_top.specs.declared.report.Side.{Side}
use Rattle.sr_top.specs.declared.report.Side.TheVariants as sides

-- what stands in a journal before its items: the lengths and the names of the files, and the limits
abbrev pub header_of : List (List ℕ × List ℕ) → ℕ → ℕ → Header
header_of files steps ticks = record { files = sizes_of files; steps = steps; ticks = ticks }

-- the same, where a journal is kept
abbrev pub header_if : List (List ℕ × List ℕ) → ℕ → ℕ → Bool → Option Header
header_if files steps ticks true = Some (header_of files steps ticks)
header_if files steps ticks false = None

-- the files of these names were read and accepted, and this stands before the items of their journal
pub record IsPrepared (told : Option (List (List ℕ × List ℕ))) (names : List (List ℕ)) (steps ticks : ℕ) (journal : Bool)
    (core : Core) (classes : Classes) (header : Option Header) : Type 0 where
  pub files : List (List ℕ × List ℕ)
  pub read : AreRead told names files
  pub written_out : IsCoreOf (contents_of files) (core, classes)
  pub is : header ≡ header_if files steps ticks journal

-- what words can ask for: 1 to 64 files, and limits within their ranges
pub record CanBeAsked (names : List (List ℕ)) (steps ticks : ℕ) : Type 0 where
  pub some_file : 1 ≤ length names
  pub few_files : length names ≤ 64
  pub some_steps : 1 ≤ steps
  pub few_steps : steps ≤ 16000000
  pub some_ticks : 1 ≤ ticks
  pub few_ticks : ticks ≤ 1000000000

-- the endings that a call has without a run; memory may run out before a run or in it
abbrev pub EndsBeforeRun : Ending → Type 0
EndsBeforeRun (Refused refusal) = Unit {0}
EndsBeforeRun (NoFile file) = Unit {0}
EndsBeforeRun NoMemory = Unit {0}
EndsBeforeRun Usage = Unit {0}
EndsBeforeRun _ = ⊥

-- the endings that a call has with a run
abbrev pub EndsWithRun : Ending → Type 0
EndsWithRun (Refused refusal) = ⊥
EndsWithRun (NoFile file) = ⊥
EndsWithRun Usage = ⊥
EndsWithRun Done = ⊥
EndsWithRun _ = Unit {0}

-- a journal was asked for, the files were read and accepted, their program ran, and this stands before the items
pub record HasHeader (call : Call) (ending : Ending) (header : Header) : Type 0 where
  pub names : List (List ℕ)
  pub workers : ℕ
  pub asked : task call.words ≡ Some (Runs (Named names) workers header.steps header.ticks true)
  pub files : List (List ℕ × List ℕ)
  pub read : AreRead call.files names files
  pub core : Core
  pub classes : Classes
  pub accepted : IsCoreOf (contents_of files) (core, classes)
  pub is : header ≡ header_of files header.steps header.ticks
  pub ran : EndsWithRun ending

-- no journal was asked for, or no program ran
abbrev pub HasNoHeader : Call → Ending → Type 0
HasNoHeader call ending = (journal_asked call.words ≡ false) ⊎ (RunsNothing call × EndsBeforeRun ending)

-- there is a journal exactly where there is a header
pub data HasHeaderIf (call : Call) (ending : Ending) : Option Header → Type 0 where
  with_header : {header : Header} → HasHeader call ending header → HasHeaderIf call ending (Some header)
  without : HasNoHeader call ending → HasHeaderIf call ending None

-- there is a journal, and so much of its text got into the sink
pub record PutsJournal (call : Call) (ending : Ending) (side : Side) (before now : Option (List ℕ)) (faults faults_now : ℕ) : Type 0 where
  pub header : Header
  pub has : HasHeader call ending header
  pub got : GotAsFar side (journal_text header call.items) before now faults faults_now

-- there is none, and that is well
pub record HasNoJournal (call : Call) (ending : Ending) (side : Side) : Type 0 where
  pub none : HasNoHeader call ending
  pub whole : side ≡ sides.Whole
