-- What a call of the program did.
use Rattle.std.specs.Prelude.{◌≡◌, ◌≤◌, ◌⊎◌, ℕ, Bool, false, true, List, length, Option, Some, None, ◌≢◌}
use Rattle.std.specs.Io.KnownBytes.{append_known}
use Rattle.sr_core.specs.declared.component.Core.{Core}
use Rattle.sr_core.specs.declared.owner.Classes.{Classes}
use Rattle.sr_ports.specs.Faults.{Rose}
use Rattle.sr_ports.specs.Streams.{PutInPart}
use Rattle.sr_run.specs.Runs as runs
use Rattle.sr_top.specs.Causes.{Call, Compiles, EndsChecked, EndsListed, EndsRefused, IsAlone, IsCutInLines, RunsNothing, arrangement_of, run_of}
use Rattle.sr_top.specs.LayingOut.{EndsSourceRefused}
use Rattle.sr_top.specs.Replaying.{EndsBadJournal, EndsEarlyInReplay, EndsIllegal, EndsOtherFiles, EndsReplayInput, EndsReplayRead, EndsReplayRefused, EndsTooLarge, EndsTooLong, EndsTooMany}
use Rattle.sr_top.specs.Tasks.{task}
use Rattle.sr_top.specs.declared.report.Ending.{Ending}
use Rattle.sr_top.specs.declared.report.Ending.TheVariants.{Done, Quiet, Stopped, Failed, Limit, Refused, NoFile, ReadFault, WriteFault, NoMemory, Usage, BadJournal, OtherFiles, Illegal}
use Rattle.sr_top.specs.declared.report.LimitKind.TheVariants as limit
use Rattle.sr_world.specs.declared.ends.End.{End}
use Rattle.sr_world.specs.declared.ends.End.TheVariants as end

-- ---- the headline

-- The items are a run of the machine on the core of the accepted files, with the whole input, within the limits: in
-- rotation where one worker made it, and with these stretches where several did. It has this ending, where it has one, and
-- this output. It may have been cut off after its last item.
pub record MakesRun (call : Call) (cut : Bool) (ending : Option End) (output : List ℕ) : Type 0 where
  pub workers : ℕ
  pub steps : ℕ
  pub ticks : ℕ
  pub core : Core
  pub classes : Classes
  pub compiled : Compiles call workers steps ticks core classes
  pub taken : List ℕ
  pub ended : Bool
  pub runs : runs.Runs (arrangement_of workers classes call.rounds) (run_of call steps ticks core) cut taken ended ending output
  pub within : length call.items ≤ steps
  pub alone : IsAlone workers call.rounds

-- the bytes put are all of this output
abbrev pub PutsAll : Call → List ℕ → Type 0
PutsAll call output = call.now.held ≡ append_known call.before.held output

-- a run that was made, and whose output was put
pub record RunsWhole (call : Call) (ending : Option End) : Type 0 where
  pub output : List ℕ
  pub makes : MakesRun call false ending output
  pub put : PutsAll call output

-- a run that hasn't ended, and whose output was put, or some first bytes of it
pub record RunsInPart (call : Call) : Type 0 where
  pub output : List ℕ
  pub makes : MakesRun call true None output
  pub put : PutsAll call output ⊎ PutInPart call.before.held call.now.held output

-- The items are a run of the program, the bytes put are its output, and the ending is the run's own, or a limit. Where a
-- device failed or memory ran out the run hasn't ended. Files are refused as the verdict on them says. Where they are
-- refused or can't be read, or the words are unknown or ask for anything but a run, nothing runs; the lines that are asked
-- for are put, or some first bytes of them, where the output failed or memory ran out. A replay that can't
-- come to its lines ends for the first cause that there is.
abbrev pub Headline : Call → Ending → Type 0
Headline call Done = EndsChecked call ⊎ EndsListed call
Headline call Quiet = RunsWhole call (Some end.Quiet)
Headline call (Stopped status) = RunsWhole call (Some (end.Stopped status))
Headline call (Failed fault place) = RunsWhole call (Some (end.Failed fault place))
Headline call (Limit limit.Items) = EndsTooLong call ⊎ EndsTooLarge call
Headline call (Limit limit.Races) = EndsTooMany call
Headline call (Limit limit.Input) = RunsWhole call None ⊎ EndsReplayInput call
Headline call (Limit limit.Steps) = RunsWhole call None
Headline call (Limit (limit.Ticks process)) = RunsWhole call None
Headline call (Refused refusal) = EndsRefused call refusal ⊎ EndsReplayRefused call refusal ⊎ EndsSourceRefused call refusal
Headline call (NoFile file) = RunsNothing call
Headline call ReadFault = RunsWhole call None ⊎ EndsReplayRead call
Headline call WriteFault = RunsInPart call ⊎ IsCutInLines call
Headline call NoMemory = RunsNothing call ⊎ RunsInPart call ⊎ IsCutInLines call ⊎ EndsEarlyInReplay call
Headline call Usage = RunsNothing call
Headline call (BadJournal fail) = EndsBadJournal call fail
Headline call (OtherFiles file) = EndsOtherFiles call file
Headline call (Illegal at) = EndsIllegal call at

-- ---- nothing is left out

-- no count of the faults of the files, the input or the output rose
pub record NoneRose (call : Call) : Type 0 where
  pub files : ¬ Rose call.reads.faults call.reads_now.faults
  pub input : ¬ Rose call.before.read_faults call.now.read_faults
  pub output : ¬ Rose call.before.write_faults call.now.write_faults

-- what blames neither the words nor a device
abbrev pub IsOwn : Ending → Type 0
IsOwn (NoFile file) = ⊥
IsOwn ReadFault = ⊥
IsOwn WriteFault = ⊥
IsOwn Usage = ⊥
IsOwn _ = Unit {0}

-- where the words are right and no count rose, the files are refused, or the check is done, or the classes are put, or the
-- run ended by itself or at a limit, or memory ran out
abbrev pub IsComplete : Call → Ending → Type 0
IsComplete call ending = task call.words ≢ None → NoneRose call → IsOwn ending
