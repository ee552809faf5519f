-- The acts of an entry: the step that was made, with its answer, as acts on parts.
use Rattle.std.specs.Prelude.{ℕ, zero, suc, ℤ, pos, ◌==◌, Bool, true, false, List, [], ◌∷◌, Option, Some, None, Result, Ok, Err, slice_get, if◌then◌else◌}
use Rattle.std.specs.List.{list_any}
use Rattle.sr_ask.specs.declared.answer.Answer.{Answer}
use Rattle.sr_ask.specs.declared.answer.Answer.TheVariants as answer
use Rattle.sr_ask.specs.declared.entry.Entry.{Entry}
use Rattle.sr_ask.specs.declared.entry.Seen.{Seen}
use Rattle.sr_ask.specs.declared.entry.Seen.TheVariants.{Cell, Pending as pending_count}
use Rattle.sr_ask.specs.declared.request.Request.{Request}
use Rattle.sr_ask.specs.declared.request.Request.TheVariants as request
use Rattle.sr_core.specs.declared.component.Core.{Core}
use Rattle.sr_core.specs.declared.component.Operation.{Operation}
use Rattle.sr_core.specs.declared.owner.Me.{Me}
use Rattle.sr_core.specs.declared.site.Arm.{Arm}
use Rattle.sr_core.specs.declared.site.Site.{Site}
use Rattle.sr_queue.specs.declared.pending.Pending.{Pending}
use Rattle.sr_select.specs.Choices.{owner_in}
use Rattle.sr_select.specs.Guards.{guard_block, home_seen}
use Rattle.sr_value.specs.declared.capability.Cap.{Cap}
use Rattle.sr_value.specs.declared.capability.Cap.TheVariants as cap
use Rattle.sr_value.specs.declared.capability.Owner.{Owner}
use Rattle.sr_value.specs.declared.capability.Owner.TheVariants.{Inst, Proc}
use Rattle.sr_value.specs.declared.fault.Fault.{Fault}
use Rattle.sr_value.specs.declared.shape.Sel.{Sel}
use Rattle.sr_value.specs.declared.value.Value.{Value}
use Rattle.sr_world.specs.Answering.{held_of}
use Rattle.sr_world.specs.Selecting.{held_from}
use Rattle.sr_world.specs.Steps.{duty_for}
use Rattle.sr_world.specs.declared.duty.Duty.{Duty}
use Rattle.sr_shard.specs.Acts.{Act, Answers, Begins, Comes, Counts, Declares, Finds, Frees, Goes, HasCome, Holds, Lives, Never, Owes, Passes, RunsIn, Sees, Serves, Stores, Takes}

abbrev pub me_in : Entry → Me
me_in entry = record { process = entry.actor; instance = entry.instance }

-- ---- answers

-- process 0 is nobody: a duty to it is answered by nothing
abbrev pub acts_to : ℕ → Duty → Option (List Value) → List Act
acts_to zero duty results = []
acts_to (suc n) duty results = Answers duty results ∷ []

abbrev pub answer_acts : Duty → Option (List Value) → List Act
answer_acts duty results = acts_to duty.back duty results

-- the duty that the entry says was answered or moved
abbrev pub duty_in : Entry → ℕ → Duty
duty_in entry back = record { back = back; back_id = entry.duty }

abbrev pub finish_acts : Entry → Bool → ℕ → List Value → List Act
finish_acts entry true back results = Goes entry.actor ∷ []
finish_acts entry false back results = Owes entry.actor entry.actor (duty_in entry back) ∷ Goes entry.actor ∷ answer_acts (duty_in entry back) (Some results)

-- ---- invocations

-- a proc of an instance begins to run; else the invocation waits
abbrev pub arrival_acts : Entry → Owner → ℕ → List Value → Duty → Option ℕ → List Act
arrival_acts entry (Inst instance) op args duty (Some proc) =
    Begins entry.name instance proc args duty.back ∷ Holds entry.name (held_of entry.name duty) ∷ []
arrival_acts entry (Proc process) op args duty (Some proc) = Never entry.actor ∷ []
arrival_acts entry owner op args duty None =
    Comes (record { id = entry.name; op = op; owner = owner; args = args; back = duty.back; back_id = duty.back_id }) ∷ []

-- its owner is there
abbrev pub owner_act : Entry → Owner → Act
owner_act entry (Inst instance) = Finds entry.actor instance
owner_act entry (Proc process) = Lives process

abbrev pub operation_acts : Entry → Owner → ℕ → List Value → Duty → Option Operation → List Act
operation_acts entry owner op args duty None = Never entry.actor ∷ []
operation_acts entry owner op args duty (Some operation) = owner_act entry owner ∷ arrival_acts entry owner op args duty operation.proc

-- an invocation with this duty
abbrev pub invoke_acts : Core → Entry → Cap → List Value → Duty → List Act
invoke_acts core entry cap.Noop args duty = answer_acts duty None
invoke_acts core entry (cap.Op owner op) args duty = operation_acts entry owner op args duty (slice_get core.operations op)
invoke_acts core entry _ args duty = Never entry.actor ∷ []

-- ---- by the answer

abbrev pub on_done : Entry → List Act → Answer → List Act
on_done entry acts answer.Done = acts
on_done entry acts _ = Never entry.actor ∷ []

-- what the step made has the number of the step
abbrev pub on_made : Entry → List Act → Answer → List Act
on_made entry acts (answer.Made made) = if made == entry.name then acts else Never entry.actor ∷ []
on_made entry acts _ = Never entry.actor ∷ []

abbrev pub loaded_acts : Entry → ℕ → ℕ → List Sel → Answer → List Act
loaded_acts entry block var path (answer.Got value) = Sees block var path value ∷ []
loaded_acts entry block var path _ = Never entry.actor ∷ []

abbrev pub taken_acts : Entry → List ℕ → Answer → List Act
taken_acts entry ids (answer.Took id results) = Takes entry.actor ids (record { id = id; results = results }) ∷ []
taken_acts entry ids _ = Never entry.actor ∷ []

abbrev pub counted_by : Entry → ℕ → ℤ → Option Operation → List Act
counted_by entry op (pos count) (Some operation) = Counts (owner_in operation.scope (me_in entry)) op count ∷ []
counted_by entry op _ _ = Never entry.actor ∷ []

abbrev pub counted_acts : Core → Entry → ℕ → Answer → List Act
counted_acts core entry op (answer.Number number) = counted_by entry op number (slice_get core.operations op)
counted_acts core entry op _ = Never entry.actor ∷ []

-- ---- the choice of a statement

-- a count of an operation that isn't in the program is 0
abbrev pub counted_nothing : Entry → ℕ → List Act → List Act
counted_nothing entry zero later = later
counted_nothing entry (suc n) later = Never entry.actor ∷ []

abbrev pub counted_seen : Entry → ℕ → ℕ → Option Operation → List Act → List Act
counted_seen entry op count None later = counted_nothing entry count later
counted_seen entry op count (Some operation) later = Counts (owner_in operation.scope (me_in entry)) op count ∷ later

-- the block of a variable that the statement lists
abbrev pub is_block : ℕ → Result ℕ Fault → Bool
is_block block (Ok other) = other == block
is_block block (Err fault) = false

abbrev pub lists_block : Entry → Site → List Value → ℕ → Bool
lists_block entry site env block = list_any (λ read. is_block block (guard_block (me_in entry) (home_seen site.names env) read.home)) site.reads

abbrev pub lists_count : Site → ℕ → Bool
lists_count site op = list_any (λ other. other == op) site.counts

-- what the guards saw is there, before what is done then; they see nothing but what the statement lists
abbrev pub seen_first : Core → Entry → Site → List Value → Seen → List Act → List Act
seen_first core entry site env (Cell block var path value) later = if lists_block entry site env block then Sees block var path value ∷ later else Never entry.actor ∷ []
seen_first core entry site env (pending_count op count) later =
    if lists_count site op then counted_seen entry op count (slice_get core.operations op) later else Never entry.actor ∷ []

abbrev pub all_seen_first : Core → Entry → Site → List Value → List Seen → List Act → List Act
all_seen_first core entry site env [] later = later
all_seen_first core entry site env (one ∷ others) later = seen_first core entry site env one (all_seen_first core entry site env others later)

-- the invocation that was picked
abbrev pub picked : Entry → Site → Arm → ℕ → List Value → ℕ → Pending
picked entry site arm id args back =
    record { id = id; op = arm.op; owner = owner_in site.scope (me_in entry); args = args; back = back; back_id = entry.duty }

abbrev pub picked_acts : Core → Entry → Site → List Value → ℕ → ℕ → List Value → ℕ → Option Arm → List Act
picked_acts core entry site env id number args back None = Never entry.actor ∷ []
picked_acts core entry site env id number args back (Some arm) = all_seen_first core entry site env entry.reads
    (Serves (me_in entry) site env entry.reads (picked entry site arm id args back) number ∷ Holds entry.actor (held_from (picked entry site arm id args back)) ∷ [])

-- a statement without arms runs its `else`, if it has one
abbrev pub else_acts : Core → Entry → Site → List Value → List Arm → List Act
else_acts core entry site env [] = if site.has_else then [] else Never entry.actor ∷ []
else_acts core entry site env (arm ∷ arms) = all_seen_first core entry site env entry.reads (Passes (me_in entry) site env entry.reads arm.op ∷ [])

abbrev pub chosen_acts : Core → Entry → List Value → Site → Answer → List Act
chosen_acts core entry env site (answer.Picked id number args back) = picked_acts core entry site env id number args back (slice_get site.arms number)
chosen_acts core entry env site answer.Else = else_acts core entry site env site.arms
chosen_acts core entry env site _ = Never entry.actor ∷ []

abbrev pub select_acts : Core → Entry → List Value → Option Site → List Act
select_acts core entry env None = Never entry.actor ∷ []
select_acts core entry env (Some site) = chosen_acts core entry env site entry.answer

-- ---- the table

abbrev pub reply_acts : Entry → ℕ → ℕ → List Value → List Act
reply_acts entry held back results = Owes entry.actor held (duty_in entry back) ∷ Frees entry.actor held ∷ answer_acts (duty_in entry back) (Some results)

abbrev pub forward_acts : Core → Entry → ℕ → ℕ → Cap → List Value → List Act
forward_acts core entry held back target args = Owes entry.actor held (duty_in entry back) ∷ Frees entry.actor held ∷ invoke_acts core entry target args (duty_in entry back)

-- what a request does that got the answer of the entry
abbrev pub asked_acts : Core → Entry → Request → List Act
asked_acts core entry (request.Declare block var shape) = on_done entry (Declares block var shape ∷ []) entry.answer
asked_acts core entry (request.Load block var path) = loaded_acts entry block var path entry.answer
asked_acts core entry (request.Store block var path value) = on_done entry (Stores block var path value ∷ []) entry.answer
asked_acts core entry (request.Invoke target args wants) = on_made entry (invoke_acts core entry target args (duty_for wants entry.actor entry.name)) entry.answer
asked_acts core entry (request.Select site env) = select_acts core entry env (slice_get core.sites site)
asked_acts core entry (request.Take ids) = taken_acts entry ids entry.answer
asked_acts core entry (request.Reply held back results) = on_done entry (reply_acts entry held back results) entry.answer
asked_acts core entry (request.Forward held back target args) = on_made entry (forward_acts core entry held back target args) entry.answer
asked_acts core entry (request.Count op) = counted_acts core entry op entry.answer
asked_acts core entry (request.Finish answered back results) = on_done entry (finish_acts entry answered back results) entry.answer
asked_acts core entry (request.Wake until) = on_done entry (HasCome entry.actor until ∷ []) entry.answer
asked_acts core entry _ = Never entry.actor ∷ []

-- each entry demands that its process lives, in the instance that it says
abbrev pub acts_of : Core → Entry → List Act
acts_of core entry = Lives entry.actor ∷ RunsIn entry.actor entry.instance ∷ asked_acts core entry entry.ask.request
