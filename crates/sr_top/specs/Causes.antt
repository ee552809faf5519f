-- Why a call of the program ends as it does.
pub use Rattle.sr_top.specs.Calls.{Call, HasNoItems, PutsNothing, RunsNothing, call_of, devices}
use Rattle.std.specs.Prelude.{◌≡◌, ℕ, ◌≤◌, ◌⊎◌, Bool, List, [], length, Option, Some, None, if◌then◌else◌, nat_lt}
use Rattle.std.specs.List.{AllByRecursion}
use Rattle.std.specs.Io.KnownBytes.{append_known}
use Rattle.sr_core.specs.declared.component.Core.{Core}
use Rattle.sr_classes.specs.Classes.{class_of}
use Rattle.sr_core.specs.declared.owner.Classes.{Classes}
use Rattle.sr_class_text.specs.Lines.{class_text}
use Rattle.sr_ports.specs.Faults.{Rose}
use Rattle.sr_ports.specs.Streams.{PutInPart}
use Rattle.sr_run.specs.Arranged.{Arrangement, InRounds, InTurn}
use Rattle.sr_run.specs.Causes as run
use Rattle.sr_run.specs.Numbers.{IsNumbered}
use Rattle.sr_run.specs.Runs as runs
use Rattle.sr_run.specs.declared.end.LimitKind.{LimitKind as RunLimit}
use Rattle.sr_run.specs.declared.end.LimitKind.TheVariants as run_limit
use Rattle.sr_run.specs.declared.end.RunEnd.{RunEnd}
use Rattle.sr_run.specs.declared.end.RunEnd.TheVariants as run_end
use Rattle.sr_run.specs.declared.stretch.Stretch.{Stretch}
use Rattle.sr_text.specs.declared.refusal.Refusal.{Refusal}
use Rattle.sr_top.specs.LayingOut.{EndsNoSource, EndsSourceRefused, HasLayout}
use Rattle.sr_top.specs.Reading.{AreCompiled, AreRefused, FailsAt, IsUnread}
use Rattle.sr_top.specs.Replaying.{EndsBadJournal, EndsEarlyInReplay, EndsIllegal, EndsOtherFiles, EndsReplayInput, EndsReplayRead, EndsReplayRefused, EndsTooLarge, EndsTooLong, EndsTooMany, EndsUnread, HasAnswer}
use Rattle.sr_top.specs.Tasks.{Checks, ListsClasses, Named, Origin, Runs, origin_in, task}
use Rattle.sr_top.specs.declared.report.Ending.{Ending}
use Rattle.sr_top.specs.declared.report.LimitKind.{LimitKind}
use Rattle.sr_top.specs.declared.report.LimitKind.TheVariants as limit
use Rattle.sr_top.specs.declared.report.Ending.TheVariants.{Done, Quiet, Stopped, Failed, Limit, Refused, NoFile, ReadFault, WriteFault, NoMemory, Usage, BadJournal, OtherFiles, Illegal}
use Rattle.sr_world.specs.declared.ends.End.TheVariants as end

-- ---- before a run

-- the words are none that the program knows
pub record EndsUsage (call : Call) : Type 0 where
  pub unknown : task call.words ≡ None
  pub nothing_read : call.reads_now.faults ≡ call.reads.faults
  pub nothing : RunsNothing call

-- the file of this place couldn't be read; those before it were read, and nothing after it
pub record EndsNoFile (call : Call) (file : ℕ) : Type 0 where
  pub names : List (List ℕ)
  pub named : origin_in call.words ≡ Some (Named names)
  pub unread : IsUnread call.files names file
  pub failed : FailsAt file call.reads call.reads_now
  pub nothing : RunsNothing call

-- this is the refusal of the program that the words name
pub record EndsRefused (call : Call) (refusal : Refusal) : Type 0 where
  pub origin : Origin
  pub named : origin_in call.words ≡ Some origin
  pub refused : AreRefused call.files origin refusal
  pub no_fault : call.reads_now.faults ≡ call.reads.faults
  pub nothing : RunsNothing call

-- memory ran out before a run
pub record EndsEarly (call : Call) : Type 0 where
  pub no_fault : call.reads_now.faults ≡ call.reads.faults
  pub nothing : RunsNothing call

-- ---- `check`

-- the words ask for a check, and the files were read and accepted
pub record EndsChecked (call : Call) : Type 0 where
  pub names : List (List ℕ)
  pub asked : task call.words ≡ Some (Checks names)
  pub core : Core
  pub classes : Classes
  pub compiled : AreCompiled call.files (Named names) core classes
  pub no_fault : call.reads_now.faults ≡ call.reads.faults
  pub nothing : RunsNothing call

-- ---- lines

-- The words ask for classes, the files were read and accepted, and these are the lines of the classes. No item was made,
-- and nothing was read.
pub record HasClassLines (call : Call) (lines : List ℕ) : Type 0 where
  pub names : List (List ℕ)
  pub asked : task call.words ≡ Some (ListsClasses names)
  pub core : Core
  pub classes : Classes
  pub compiled : AreCompiled call.files (Named names) core classes
  pub are : lines ≡ class_text core classes.of
  pub no_fault : call.reads_now.faults ≡ call.reads.faults
  pub no_items : HasNoItems call
  pub left : call.now.left ≡ call.before.left
  pub no_read_fault : call.now.read_faults ≡ call.before.read_faults

-- the lines that the words ask for: those of classes, those that answer a question about a journal, or a file in the one style
abbrev pub HasLines : Call → List ℕ → Type 0
HasLines call lines = HasClassLines call lines ⊎ HasAnswer call lines ⊎ HasLayout call lines

-- the lines were put
pub record EndsListed (call : Call) : Type 0 where
  pub lines : List ℕ
  pub has : HasLines call lines
  pub put : call.now.held ≡ append_known call.before.held lines
  pub no_write_fault : call.now.write_faults ≡ call.before.write_faults

-- some first bytes of these lines were put, and not all
pub record IsCutInLines (call : Call) : Type 0 where
  pub lines : List ℕ
  pub has : HasLines call lines
  pub put : PutInPart call.before.held call.now.held lines

-- the output failed in these lines
pub record EndsInLines (call : Call) : Type 0 where
  pub cut : IsCutInLines call
  pub failed : Rose call.before.write_faults call.now.write_faults

-- memory ran out in these lines
pub record EndsEarlyInLines (call : Call) : Type 0 where
  pub cut : IsCutInLines call
  pub no_write_fault : call.now.write_faults ≡ call.before.write_faults

-- what becomes of lines: they were put, or the output failed, or memory ran out; so much for what the output holds and the
-- count of its faults, before and after
abbrev pub PutsLines : List ℕ → Option (List ℕ) → Option (List ℕ) → ℕ → ℕ → Ending → Type 0
PutsLines lines held held_now faults faults_now Done = (held_now ≡ append_known held lines) × (faults_now ≡ faults)
PutsLines lines held held_now faults faults_now WriteFault = PutInPart held held_now lines × Rose faults faults_now
PutsLines lines held held_now faults faults_now NoMemory = (PutInPart held held_now lines ⊎ (held_now ≡ held)) × (faults_now ≡ faults)
PutsLines lines held held_now faults faults_now _ = ⊥

-- ---- a run

-- the words ask for a run by so many workers with these limits, the program is accepted, and these are its core and classes
pub record Compiles (call : Call) (workers steps ticks : ℕ) (core : Core) (classes : Classes) : Type 0 where
  pub origin : Origin
  pub journal : Bool
  pub asked : task call.words ≡ Some (Runs origin workers steps ticks journal)
  pub compiled : AreCompiled call.files origin core classes
  pub no_fault : call.reads_now.faults ≡ call.reads.faults

-- what the call made of a core, with these limits
abbrev pub run_of : Call → ℕ → ℕ → Core → runs.Call
run_of call steps ticks core = record { core = core; steps = steps; ticks = ticks; before = call.before; now = call.now; items = call.items }

-- one worker makes each item in its turn; several make stretches after the items of the engine
abbrev pub arrangement_of : ℕ → Classes → List Stretch → Arrangement
arrangement_of workers classes rounds = if nat_lt 1 workers then InRounds (class_of classes.of) workers rounds else InTurn

-- one worker makes no stretch
abbrev pub IsAlone : ℕ → List Stretch → Type 0
IsAlone workers rounds = workers ≤ 1 → rounds ≡ []

-- the program was run, and the run ended so
pub record EndsRun (call : Call) (ending : RunEnd) : Type 0 where
  pub workers : ℕ
  pub steps : ℕ
  pub ticks : ℕ
  pub core : Core
  pub classes : Classes
  pub compiled : Compiles call workers steps ticks core classes
  pub within : length call.items ≤ steps
  pub alone : IsAlone workers call.rounds
  pub cause : run.HasCauseIn (arrangement_of workers classes call.rounds) (run_of call steps ticks core) ending

-- ---- all endings

-- at which limit a call ended: one of the run, or one of a journal and its input
abbrev pub EndsAtLimit : Call → LimitKind → Type 0
EndsAtLimit call limit.Steps = EndsRun call (run_end.Limit run_limit.Steps)
EndsAtLimit call (limit.Ticks process) = EndsRun call (run_end.Limit (run_limit.Ticks process))
EndsAtLimit call limit.Input = EndsRun call (run_end.Limit run_limit.Input) ⊎ EndsReplayInput call
EndsAtLimit call limit.Items = EndsTooLong call ⊎ EndsTooLarge call
EndsAtLimit call limit.Races = EndsTooMany call

-- what each ending says of the call
abbrev pub HasCause : Call → Ending → Type 0
HasCause call Done = EndsChecked call ⊎ EndsListed call
HasCause call Quiet = EndsRun call (run_end.Ended end.Quiet)
HasCause call (Stopped status) = EndsRun call (run_end.Ended (end.Stopped status))
HasCause call (Failed fault place) = EndsRun call (run_end.Ended (end.Failed fault place))
HasCause call (Limit kind) = EndsAtLimit call kind
HasCause call (Refused refusal) = EndsRefused call refusal ⊎ EndsReplayRefused call refusal ⊎ EndsSourceRefused call refusal
HasCause call (NoFile file) = EndsNoFile call file ⊎ EndsUnread call file ⊎ EndsNoSource call file
HasCause call ReadFault = EndsRun call run_end.ReadFault ⊎ EndsReplayRead call
HasCause call WriteFault = EndsRun call run_end.WriteFault ⊎ EndsInLines call
HasCause call NoMemory = EndsEarly call ⊎ EndsRun call run_end.NoMemory ⊎ EndsEarlyInLines call ⊎ EndsEarlyInReplay call
HasCause call Usage = EndsUsage call
HasCause call (BadJournal fail) = EndsBadJournal call fail
HasCause call (OtherFiles file) = EndsOtherFiles call file
HasCause call (Illegal at) = EndsIllegal call at

-- ---- from the run to the call

-- the limit of a run, among those of a call
abbrev pub limit_of : RunLimit → LimitKind
limit_of run_limit.Steps = limit.Steps
limit_of (run_limit.Ticks process) = limit.Ticks process
limit_of run_limit.Input = limit.Input

-- the ending of a call whose run ended so
abbrev pub ending_of : RunEnd → Ending
ending_of (run_end.Ended end.Quiet) = Quiet
ending_of (run_end.Ended (end.Stopped status)) = Stopped status
ending_of (run_end.Ended (end.Failed fault place)) = Failed fault place
ending_of (run_end.Limit kind) = Limit (limit_of kind)
ending_of run_end.ReadFault = ReadFault
ending_of run_end.WriteFault = WriteFault
ending_of run_end.NoMemory = NoMemory

-- a run ended, and the call with it; each item has numbers of a run
pub record EndsAs (workers : ℕ) (classes : Classes) (rounds : List Stretch) (call : runs.Call) (ending : Ending) : Type 0 where
  pub end : RunEnd
  pub is : ending ≡ ending_of end
  pub within : length call.items ≤ call.steps
  pub numbered : AllByRecursion IsNumbered call.items
  pub alone : IsAlone workers rounds
  pub cause : run.HasCauseIn (arrangement_of workers classes rounds) call end
