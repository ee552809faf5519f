-- The choice of an `in` statement, by what the world has.
use Rattle.std.specs.Prelude.{ℕ, List, Option, Some, None, slice_get}
use Rattle.sr_ask.specs.declared.answer.Answer.TheVariants as answer
use Rattle.sr_calls.specs.declared.held.Held.{Held}
use Rattle.sr_core.specs.declared.component.Core.{Core}
use Rattle.sr_core.specs.declared.component.Operation.{Operation}
use Rattle.sr_core.specs.declared.owner.Me.{Me}
use Rattle.sr_core.specs.declared.site.Site.{Site}
use Rattle.sr_queue.specs.Queues.{waiting}
use Rattle.sr_queue.specs.declared.pending.Pending.{Pending}
use Rattle.sr_select.specs.Choices.{choice}
use Rattle.sr_select.specs.Readings.{Reading}
use Rattle.sr_select.specs.declared.choice.Choice.{Choice}
use Rattle.sr_select.specs.declared.choice.Choice.TheVariants as chosen
use Rattle.sr_store.specs.Variables.{loaded_in}
use Rattle.sr_value.specs.declared.fault.Fault.{Fault}
use Rattle.sr_value.specs.declared.value.Value.{Value}
use Rattle.sr_world.specs.Does.{Does, Did, Cannot, failed, where_some}
use Rattle.sr_world.specs.Invoking.{instance_of_process, owner_for}
use Rattle.sr_world.specs.Updates.{drop_pending, hold}
use Rattle.sr_world.specs.Worlds.{World}

-- who evaluates the guards
abbrev pub me_of : World → ℕ → Me
me_of world process = record { process = process; instance = instance_of_process world process }

-- how many invocations of an operation are pending, as a process sees them
abbrev pub waiting_for : World → ℕ → ℕ → Option Operation → ℕ
waiting_for world process op None = 0
waiting_for world process op (Some operation) = waiting (owner_for world process operation.scope) op world.pending

-- what the guards of a process read
abbrev pub reading_of : Core → World → ℕ → Reading
reading_of core world process = record {
  load = loaded_in world.variables;
  count = λ op. waiting_for world process op (slice_get core.operations op);
  names = core.names;
}

-- what the statement does there
abbrev pub choice_of : Core → World → ℕ → List Value → Site → Choice
choice_of core world process env site = choice (reading_of core world process) site (me_of world process) env world.pending

-- an invocation in service, with the duty to answer it
abbrev pub held_from : Pending → Held
held_from invocation = record { id = invocation.id; back = invocation.back; back_id = invocation.back_id }

-- the invocation leaves the list, and the process holds it
abbrev pub service : World → ℕ → ℕ → ℕ → Pending → Does
service world process place arm invocation = Did
    (hold process (held_from invocation) (drop_pending place world))
    (answer.Picked invocation.id arm invocation.args invocation.back)

abbrev pub service_at : World → ℕ → ℕ → ℕ → Does
service_at world process place arm = where_some (slice_get world.pending place) (service world process place arm)

-- the fault of a guard stands at the arm
abbrev pub fault_at : Site → Fault → ℕ → Does
fault_at site fault arm = where_some (slice_get site.arms arm) (λ a. failed a.place fault)

abbrev pub by_choice : World → ℕ → Site → Choice → Does
by_choice world process site (chosen.Service place arm) = service_at world process place arm
by_choice world process site chosen.Else = Did world answer.Else
by_choice world process site chosen.Nothing = Cannot
by_choice world process site (chosen.Bad fault arm) = fault_at site fault arm

abbrev pub select_at : Core → World → ℕ → List Value → Site → Does
select_at core world process env site = by_choice world process site (choice_of core world process env site)

-- a statement that isn't in the program can't be done
abbrev pub select : Core → World → ℕ → ℕ → List Value → Does
select core world process site env = where_some (slice_get core.sites site) (select_at core world process env)
