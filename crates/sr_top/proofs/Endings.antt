-- What follows from the cause of an ending.
use Rattle.std.proofs.Common.{◌≡◌, ◌∙◌, ℕ, ◌≤◌, ◌⊎◌, ◌++◌, Bool, false, true, List, length, None, Some, ap, refl, subst, inl, inr}
use Rattle.std.specs.Prelude.{Option}
use Rattle.sr_core.specs.declared.component.Core.{Core}
use Rattle.sr_core.specs.declared.owner.Classes.{Classes}
use Rattle.sr_ports.proofs.Growth.{PutInPart-after}
use Rattle.sr_ports.specs.Streams.{PutInPart}
use Rattle.sr_run.specs.Causes as run
use Rattle.sr_run.specs.Runs as runs
use Rattle.sr_run.specs.declared.end.LimitKind.{LimitKind as RunLimit}
use Rattle.sr_run.specs.declared.end.LimitKind.TheVariants as run_limit
use Rattle.sr_run.specs.declared.end.RunEnd.{RunEnd}
use Rattle.sr_run.specs.declared.end.RunEnd.TheVariants as run_end
use Rattle.sr_run.specs.declared.stretch.Stretch.{Stretch}
use Rattle.sr_top.specs.Causes.{Call, Compiles, EndsAs, EndsEarly, EndsEarlyInLines, EndsInLines, EndsNoFile, EndsRun, HasCause, HasLines, IsAlone, IsCutInLines, PutsLines, RunsNothing, arrangement_of, ending_of, run_of}
use Rattle.sr_top.specs.Headline.{Headline, IsComplete, MakesRun, NoneRose, RunsInPart, RunsWhole}
use Rattle.sr_top.specs.LayingOut.{EndsNoSource}
use Rattle.sr_top.specs.Reading.{EndsCompiling, FailsAt, IsUnreadIn}
use Rattle.sr_top.specs.Replaying.{EndsEarlyInReplay, EndsReplayInput, EndsReplayRead, EndsUnread}
use Rattle.sr_top.specs.Tasks.{Named, Origin, Sampled, origin_in}
use Rattle.sr_top.specs.declared.report.Ending.{Ending}
use Rattle.sr_top.specs.declared.report.Ending.TheVariants.{Done, Quiet, Stopped, Failed, Limit, Refused, NoFile, ReadFault, WriteFault, NoMemory, Usage, BadJournal, OtherFiles, Illegal}
use Rattle.sr_top.specs.declared.report.LimitKind.TheVariants as limit
use Rattle.sr_world.specs.Runs.{State}
use Rattle.sr_world.specs.declared.ends.End.{End}
use Rattle.sr_world.specs.declared.ends.End.TheVariants as end

-- a run that was made says why the call ended
module _ (call : Call) (workers steps ticks : ℕ) (core : Core) (classes : Classes) (compiled : Compiles call workers steps ticks core classes) (within : length call.items ≤ steps)
    (alone : IsAlone workers call.rounds) where
  ends_run : (end : RunEnd) → run.HasCauseIn (arrangement_of workers classes call.rounds) (run_of call steps ticks core) end → EndsRun call end
  ends_run end cause =
      record { workers = workers; steps = steps; ticks = ticks; core = core; classes = classes; compiled = compiled; within = within; alone = alone; cause = cause }

  pub caused : (end : RunEnd) → run.HasCauseIn (arrangement_of workers classes call.rounds) (run_of call steps ticks core) end → HasCause call (ending_of end)
  caused (run_end.Ended end.Quiet) cause = ends_run (run_end.Ended end.Quiet) cause
  caused (run_end.Ended (end.Stopped status)) cause = ends_run (run_end.Ended (end.Stopped status)) cause
  caused (run_end.Ended (end.Failed fault place)) cause = ends_run (run_end.Ended (end.Failed fault place)) cause
  caused (run_end.Limit run_limit.Steps) cause = ends_run (run_end.Limit run_limit.Steps) cause
  caused (run_end.Limit (run_limit.Ticks process)) cause = ends_run (run_end.Limit (run_limit.Ticks process)) cause
  caused (run_end.Limit run_limit.Input) cause = inl (ends_run (run_end.Limit run_limit.Input) cause)
  caused run_end.ReadFault cause = inl (ends_run run_end.ReadFault cause)
  caused run_end.WriteFault cause = inl (ends_run run_end.WriteFault cause)
  caused run_end.NoMemory cause = inr (inl (ends_run run_end.NoMemory cause))

-- ---- the headline

-- a run with these limits is a run of the call
made : (call : Call) (end : RunEnd) (ends : EndsRun call end) (cut : Bool) (taken : List ℕ) (ended : Bool) (ending : Option End) (output : List ℕ)
    → runs.Runs (arrangement_of ends.workers ends.classes call.rounds) (run_of call ends.steps ends.ticks ends.core) cut taken ended ending output → MakesRun call cut ending output
made call end ends cut taken ended ending output runs =
    record {
      workers = ends.workers;
      steps = ends.steps;
      ticks = ends.ticks;
      core = ends.core;
      classes = ends.classes;
      compiled = ends.compiled;
      taken = taken;
      ended = ended;
      runs = runs;
      within = ends.within;
      alone = ends.alone;
    }

-- the run that has this ending
by_itself : (call : Call) (ending : End) → EndsRun call (run_end.Ended ending) → RunsWhole call (Some ending)
by_itself call ending ends =
    record { output = ends.cause.output; makes = made call (run_end.Ended ending) ends false _ _ _ _ ends.cause.runs; put = ends.cause.put }

-- a run that goes on
going_on : (call : Call) (end : RunEnd) (ends : EndsRun call end) (taken : List ℕ) (ended : Bool) (state : State)
    → runs.GoesOn (arrangement_of ends.workers ends.classes call.rounds) (run_of call ends.steps ends.ticks ends.core) false taken ended state → RunsWhole call None
going_on call end ends taken ended state goes_on =
    record { output = state.world.output; makes = made call end ends false taken ended None _ goes_on.runs; put = goes_on.put }

limited : (call : Call) (kind : RunLimit) → EndsRun call (run_end.Limit kind) → RunsWhole call None
limited call run_limit.Steps ends = going_on call _ ends ends.cause.taken ends.cause.ended ends.cause.state ends.cause.goes_on
limited call (run_limit.Ticks process) ends = going_on call _ ends ends.cause.taken ends.cause.ended ends.cause.state ends.cause.goes_on
limited call run_limit.Input ends = going_on call _ ends ends.cause.taken _ ends.cause.state ends.cause.goes_on

-- a run whose last item is a write of which not all bytes were put
in_write : (call : Call) (end : RunEnd) (ends : EndsRun call end) → run.IsCutInWrite (arrangement_of ends.workers ends.classes call.rounds) (run_of call ends.steps ends.ticks ends.core) → RunsInPart call
in_write call end ends cut =
    record {
      output = cut.state.world.output ++ cut.bytes;
      makes = made call end ends true cut.taken cut.ended None _ cut.runs;
      put = inr (PutInPart-after call.before.held _ call.now.held cut.state.world.output cut.bytes refl cut.put);
    }

-- a run in which memory ran out
cut_short : (call : Call) (end : RunEnd) (ends : EndsRun call end) → run.IsCutBetween (arrangement_of ends.workers ends.classes call.rounds) (run_of call ends.steps ends.ticks ends.core)
    ⊎ run.IsCutInWrite (arrangement_of ends.workers ends.classes call.rounds) (run_of call ends.steps ends.ticks ends.core) → RunsInPart call
cut_short call end ends (inl between) =
    record {
      output = between.state.world.output;
      makes = made call end ends true between.taken between.ended None _ between.goes_on.runs;
      put = inl between.goes_on.put;
    }
cut_short call end ends (inr cut) = in_write call end ends cut

limited_or_long : (call : Call) → EndsRun call (run_end.Limit run_limit.Input) ⊎ EndsReplayInput call → RunsWhole call None ⊎ EndsReplayInput call
limited_or_long call (inl ends) = inl (limited call run_limit.Input ends)
limited_or_long call (inr long) = inr long

unread_input : (call : Call) → EndsRun call run_end.ReadFault ⊎ EndsReplayRead call → RunsWhole call None ⊎ EndsReplayRead call
unread_input call (inl ends) = inl (going_on call run_end.ReadFault ends ends.cause.taken _ ends.cause.state ends.cause.goes_on)
unread_input call (inr ends) = inr ends

unread_file : (call : Call) (file : ℕ) → EndsNoFile call file ⊎ EndsUnread call file ⊎ EndsNoSource call file → RunsNothing call
unread_file call file (inl ends) = ends.nothing
unread_file call file (inr (inl ends)) = ends.nothing
unread_file call file (inr (inr ends)) = ends.nothing

written : (call : Call) → EndsRun call run_end.WriteFault ⊎ EndsInLines call → RunsInPart call ⊎ IsCutInLines call
written call (inl ends) = inl (in_write call run_end.WriteFault ends ends.cause.cut)
written call (inr lines) = inr lines.cut

out_of_memory : (call : Call) → EndsEarly call ⊎ EndsRun call run_end.NoMemory ⊎ EndsEarlyInLines call ⊎ EndsEarlyInReplay call
    → RunsNothing call ⊎ RunsInPart call ⊎ IsCutInLines call ⊎ EndsEarlyInReplay call
out_of_memory call (inl early) = inl early.nothing
out_of_memory call (inr (inl ends)) = inr (inl (cut_short call run_end.NoMemory ends ends.cause.cut))
out_of_memory call (inr (inr (inl lines))) = inr (inr (inl lines.cut))
out_of_memory call (inr (inr (inr early))) = inr (inr (inr early))

pub headline : (call : Call) (ending : Ending) → HasCause call ending → Headline call ending
headline call Done cause = cause
headline call Quiet cause = by_itself call end.Quiet cause
headline call (Stopped status) cause = by_itself call (end.Stopped status) cause
headline call (Failed fault place) cause = by_itself call (end.Failed fault place) cause
headline call (Limit limit.Steps) cause = limited call run_limit.Steps cause
headline call (Limit (limit.Ticks process)) cause = limited call (run_limit.Ticks process) cause
headline call (Limit limit.Input) cause = limited_or_long call cause
headline call (Limit limit.Items) cause = cause
headline call (Limit limit.Races) cause = cause
headline call (Refused refusal) cause = cause
headline call (NoFile file) cause = unread_file call file cause
headline call ReadFault cause = unread_input call cause
headline call WriteFault cause = written call cause
headline call NoMemory cause = out_of_memory call cause
headline call Usage cause = cause.nothing
headline call (BadJournal fail) cause = cause
headline call (OtherFiles file) cause = cause
headline call (Illegal at) cause = cause

-- ---- nothing is left out

output_failed : (call : Call) → EndsRun call run_end.WriteFault ⊎ EndsInLines call → NoneRose call → ⊥
output_failed call (inl ends) none = none.output ends.cause.failed
output_failed call (inr lines) none = none.output lines.failed

file_failed : (call : Call) (file : ℕ) → EndsNoFile call file ⊎ EndsUnread call file ⊎ EndsNoSource call file → NoneRose call → ⊥
file_failed call file (inl ends) none = none.files ends.failed.rose
file_failed call file (inr (inl ends)) none = none.files ends.failed.rose
file_failed call file (inr (inr ends)) none = none.files ends.failed.rose

input_failed : (call : Call) → EndsRun call run_end.ReadFault ⊎ EndsReplayRead call → NoneRose call → ⊥
input_failed call (inl ends) none = none.input ends.cause.failed
input_failed call (inr ends) none = none.input ends.failed

pub complete : (call : Call) (ending : Ending) → HasCause call ending → IsComplete call ending
complete call Done cause = λ named none. tt
complete call Quiet cause = λ named none. tt
complete call (Stopped status) cause = λ named none. tt
complete call (Failed fault place) cause = λ named none. tt
complete call (Limit kind) cause = λ named none. tt
complete call (Refused refusal) cause = λ named none. tt
complete call (NoFile file) cause = λ named none. file_failed call file cause none
complete call ReadFault cause = λ named none. input_failed call cause none
complete call WriteFault cause = λ named none. output_failed call cause none
complete call NoMemory cause = λ named none. tt
complete call Usage cause = λ named none. named cause.unknown
complete call (BadJournal fail) cause = λ named none. tt
complete call (OtherFiles file) cause = λ named none. tt
complete call (Illegal at) cause = λ named none. tt

-- ---- before a run

-- what there is no program for says why the call ended
unread : (call : Call) (origin : Origin) (file : ℕ) → origin_in call.words ≡ Some origin → RunsNothing call → IsUnreadIn call.files origin file → FailsAt file call.reads call.reads_now
    → EndsNoFile call file
unread call (Named names) file named nothing is failed = record { names = names; named = named; unread = is; failed = failed; nothing = nothing }
unread call (Sampled seed) file named nothing is failed = absurd is

pub stopped : (call : Call) (origin : Origin) (ending : Ending) → origin_in call.words ≡ Some origin → RunsNothing call
    → EndsCompiling call.files origin call.reads call.reads_now ending → HasCause call ending
stopped call origin Done named nothing ends = absurd ends
stopped call origin Quiet named nothing ends = absurd ends
stopped call origin (Stopped status) named nothing ends = absurd ends
stopped call origin (Failed fault place) named nothing ends = absurd ends
stopped call origin (Limit kind) named nothing ends = absurd ends
stopped call origin (Refused refusal) named nothing ends = inl (record { origin = origin; named = named; refused = ends.0; no_fault = ends.1; nothing = nothing })
stopped call origin (NoFile file) named nothing ends = inl (unread call origin file named nothing ends.0 ends.1)
stopped call origin ReadFault named nothing ends = absurd ends
stopped call origin WriteFault named nothing ends = absurd ends
stopped call origin NoMemory named nothing ends = inl (record { no_fault = ends; nothing = nothing })
stopped call origin Usage named nothing ends = absurd ends
stopped call origin (BadJournal fail) named nothing ends = absurd ends
stopped call origin (OtherFiles file) named nothing ends = absurd ends
stopped call origin (Illegal at) named nothing ends = absurd ends

-- ---- lines

pub devices_same : (before now : runs.Devices) → now.left ≡ before.left → now.read_faults ≡ before.read_faults → now.held ≡ before.held → now.write_faults ≡ before.write_faults → now ≡ before
devices_same before now left read held write =
    ap (λ l. record now { left = l }) left
    ∙ ap (λ n. record now { left = before.left; read_faults = n }) read
    ∙ ap (λ h. record now { left = before.left; read_faults = before.read_faults; held = h }) held
    ∙ ap (λ n. record before { write_faults = n }) write

-- memory ran out before any of the lines
none_put : (call : Call) (lines : List ℕ) → HasLines call lines → call.now.held ≡ call.before.held → call.now.write_faults ≡ call.before.write_faults → HasCause call NoMemory
none_put call lines (inl has) held write = inl (record {
  no_fault = has.no_fault;
  nothing = record { no_items = has.no_items; untouched = devices_same call.before call.now has.left has.no_read_fault held write };
})
none_put call lines (inr (inr has)) held write = inl (record {
  no_fault = has.source.no_fault;
  nothing = record { no_items = has.no_items; untouched = devices_same call.before call.now has.left has.no_read_fault held write };
})
none_put call lines (inr (inl has)) held write = inr (inr (inr (record {
  asks = has.input.program.same.has.items.journal.reads.asks;
  no_fault = has.input.program.no_fault;
  no_read_fault = has.input.no_read_fault;
  nothing = record { no_items = has.input.no_items; held = held; no_write_fault = write };
})))

-- memory ran out before all of the lines
put_in_part : (call : Call) (lines : List ℕ) → HasLines call lines → PutInPart call.before.held call.now.held lines ⊎ (call.now.held ≡ call.before.held)
    → call.now.write_faults ≡ call.before.write_faults → HasCause call NoMemory
put_in_part call lines has (inl part) write = inr (inr (inl (record { cut = record { lines = lines; has = has; put = part }; no_write_fault = write })))
put_in_part call lines has (inr same) write = none_put call lines has same write

-- what becomes of the lines says why the call ended
pub listed : (call : Call) (lines : List ℕ) (ending : Ending) → HasLines call lines → PutsLines lines call.before.held call.now.held call.before.write_faults call.now.write_faults ending
    → HasCause call ending
listed call lines Done has puts = inr (record { lines = lines; has = has; put = puts.0; no_write_fault = puts.1 })
listed call lines WriteFault has puts = inr (record { cut = record { lines = lines; has = has; put = puts.0 }; failed = puts.1 })
listed call lines NoMemory has puts = put_in_part call lines has puts.0 puts.1
listed call lines Quiet has puts = absurd puts
listed call lines (Stopped status) has puts = absurd puts
listed call lines (Failed fault place) has puts = absurd puts
listed call lines (Limit kind) has puts = absurd puts
listed call lines (Refused refusal) has puts = absurd puts
listed call lines (NoFile file) has puts = absurd puts
listed call lines ReadFault has puts = absurd puts
listed call lines Usage has puts = absurd puts
listed call lines (BadJournal fail) has puts = absurd puts
listed call lines (OtherFiles file) has puts = absurd puts
listed call lines (Illegal at) has puts = absurd puts

-- a run of a program with these classes is one with the same
pub same_classes : (workers : ℕ) (a b : Classes) (rounds : List Stretch) (call : runs.Call) (ending : Ending) → a ≡ b → EndsAs workers a rounds call ending → EndsAs workers b rounds call ending
same_classes workers a b rounds call ending same ends = subst (λ classes. EndsAs workers classes rounds call ending) same ends
