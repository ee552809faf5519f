-- What a request of a process does to a world: one line for each request.
use Rattle.std.specs.Prelude.{ℕ, pos, ◌==◌, Bool, true, false, List, [], Option, Some, None, nat_lt, slice_get, if◌then◌else◌}
use Rattle.sr_ask.specs.declared.answer.Answer.TheVariants as answer
use Rattle.sr_ask.specs.declared.ask.Ask.{Ask}
use Rattle.sr_ask.specs.declared.ask.Role.{Role}
use Rattle.sr_ask.specs.declared.ask.Role.TheVariants.{Initial}
use Rattle.sr_ask.specs.declared.request.Request.{Request}
use Rattle.sr_ask.specs.declared.request.ReadKind.{ReadKind}
use Rattle.sr_ask.specs.declared.request.Request.TheVariants as request
use Rattle.sr_calls.specs.Calls.{earliest_reply}
use Rattle.sr_core.specs.declared.component.Core.{Core}
use Rattle.sr_core.specs.declared.statement.Scope.{Scope}
use Rattle.sr_instances.specs.Instances.{global_in, state_of}
use Rattle.sr_queue.specs.Queues.{waiting}
use Rattle.sr_store.specs.Variables.{declared_in, loaded_in, stored_in}
use Rattle.sr_value.specs.declared.capability.Cap.{Cap}
use Rattle.sr_value.specs.declared.capability.Cap.TheVariants as cap
use Rattle.sr_value.specs.declared.fault.Fault.TheVariants as fault
use Rattle.sr_value.specs.declared.place.Place.{Place}
use Rattle.sr_value.specs.declared.shape.Sel.{Sel}
use Rattle.sr_value.specs.declared.shape.Shape.{Shape}
use Rattle.sr_value.specs.declared.value.Value.{Value}
use Rattle.sr_world.specs.Answering.{answer_held, duty_held, held_of, no_duty}
use Rattle.sr_world.specs.Does.{Does, Did, Makes, Cannot, Undecided, done_or, failed, where_some}
use Rattle.sr_world.specs.Endings.{destroy, finish, stop}
use Rattle.sr_world.specs.Inputs.{is_decided, item_read}
use Rattle.sr_world.specs.Invoking.{instance_of_process, invoke, owner_for}
use Rattle.sr_world.specs.Making.{is_ready, make_ready, needs_ready, run_initial}
use Rattle.sr_world.specs.Selecting.{select}
use Rattle.sr_world.specs.Updates.{add_machine, drop_reply, hold, release, use_name, with_rest, with_variables, write}
use Rattle.sr_world.specs.Worlds.{World}
use Rattle.sr_world.specs.declared.duty.Duty.{Duty}

-- ---- shared variables

abbrev pub declare : Place → ℕ → ℕ → Shape → World → Does
declare place block var shape world = done_or place (declared_in world.variables block var shape) (λ variables. Did (with_variables variables world) answer.Done)

abbrev pub load : Place → ℕ → ℕ → List Sel → World → Does
load place block var path world = done_or place (loaded_in world.variables block var path) (λ value. Did world (answer.Got value))

abbrev pub store : Place → ℕ → ℕ → List Sel → Value → World → Does
store place block var path value world =
    done_or place (stored_in world.variables block var path value) (λ variables. Did (with_variables variables world) answer.Done)

-- ---- invocations

-- a call makes the duty to answer the caller, and a `send` makes none
abbrev pub duty_for : Bool → ℕ → ℕ → Duty
duty_for true actor name = record { back = actor; back_id = name }
duty_for false actor name = no_duty name

-- `forward` hands the duty on that the process has
abbrev pub forward : Core → Place → ℕ → ℕ → ℕ → Cap → List Value → World → Does
forward core place actor name held target args world = invoke core place name target args (duty_held world actor held) (release actor held world)

-- the earliest reply to one of these invocations
abbrev pub take : ℕ → List ℕ → World → Does
take actor ids world = where_some (earliest_reply world.replies actor ids) (λ reply. Did (drop_reply actor ids world) (answer.Took reply.id reply.results))

-- initial code that replies to its `create` is ready from then on
abbrev pub ready_after : Role → Bool → ℕ → World → World
ready_after Initial true actor world = make_ready (instance_of_process world actor) world
ready_after role own actor world = world

abbrev pub reply : Role → ℕ → ℕ → List Value → World → World
reply role actor held results world = ready_after role (held == actor) actor (answer_held actor held results world)

-- how many invocations of an operation of this scope wait
abbrev pub count_found : ℕ → ℕ → Scope → World → Does
count_found actor op scope world = Did world (answer.Number (pos (waiting (owner_for world actor scope) op world.pending)))

abbrev pub count : Core → ℕ → ℕ → World → Does
count core actor op world = where_some (slice_get core.operations op) (λ operation. count_found actor op operation.scope world)

-- ---- input

abbrev pub read : ReadKind → World → Does
read kind world =
    if is_decided kind world.rest world.ended then Did (with_rest (item_read kind world.rest).rest world) (item_read kind world.rest).answer
    else Undecided

-- ---- instances

-- a machine is needed: `null` and `noop` are none (E7)
abbrev pub on_machine : Place → Cap → (ℕ → Does) → Does
on_machine place cap.Null next = failed place fault.NullCap
on_machine place cap.Noop next = failed place fault.NullCap
on_machine place (cap.Vm machine) next = next machine
on_machine place _ next = Cannot

abbrev pub ensure_found : Core → ℕ → ℕ → World → ℕ → Option ℕ → Does
ensure_found core name global world machine None = Makes (run_initial core name global machine [] 0 world) (answer.Made name)
ensure_found core name global world machine (Some instance) = if is_ready (state_of world.places instance) then Did world answer.Ready else Cannot

-- a global has one instance on a machine, which is made where there is none
abbrev pub ensure_on : Core → ℕ → ℕ → World → ℕ → Does
ensure_on core name global world machine = ensure_found core name global world machine (global_in world.places global machine)

abbrev pub ensure_global : Core → Place → ℕ → ℕ → Cap → World → Does
ensure_global core place name global target world =
    where_some (slice_get core.components global) (λ component. on_machine place target (ensure_on core name global world))

-- an instance whose initial process holds the duty to answer the process that creates it
abbrev pub create_on : Core → ℕ → ℕ → ℕ → List Value → World → ℕ → Does
create_on core actor name resource args world machine =
    if needs_ready core world resource machine
    then Makes (hold name (held_of name (duty_for true actor name)) (run_initial core name resource machine args actor world)) (answer.Made name)
    else Cannot

abbrev pub create : Core → Place → ℕ → ℕ → ℕ → List Value → Cap → World → Does
create core place actor name resource args target world =
    where_some (slice_get core.components resource) (λ component. on_machine place target (create_on core actor name resource args world))

abbrev pub make_machine : ℕ → World → Does
make_machine name world = Makes (add_machine name (use_name name world)) (answer.Made name)

-- ---- time

abbrev pub wake : ℕ → World → Does
wake until world = if nat_lt world.moment until then Cannot else Did world answer.Done

-- ---- the table

-- what a request of `actor` does whose step has the number `name`
abbrev pub done_by : Core → World → ℕ → ℕ → Place → Role → Request → Does
done_by core world actor name place role (request.Declare block var shape) = declare place block var shape world
done_by core world actor name place role (request.Load block var path) = load place block var path world
done_by core world actor name place role (request.Store block var path value) = store place block var path value world
done_by core world actor name place role (request.Invoke target args wants) = invoke core place name target args (duty_for wants actor name) world
done_by core world actor name place role (request.Select site env) = select core world actor site env
done_by core world actor name place role (request.Take ids) = take actor ids world
done_by core world actor name place role (request.Reply held back results) = Did (reply role actor held results world) answer.Done
done_by core world actor name place role (request.Forward held back target args) = forward core place actor name held target args world
done_by core world actor name place role (request.Count op) = count core actor op world
done_by core world actor name place role (request.Write bytes) = Did (write bytes world) answer.Done
done_by core world actor name place role (request.Read kind) = read kind world
done_by core world actor name place role (request.EnsureGlobal global vm) = ensure_global core place name global vm world
done_by core world actor name place role (request.Create resource args vm) = create core place actor name resource args vm world
done_by core world actor name place role request.MakeVm = make_machine name world
done_by core world actor name place role (request.Destroy target) = destroy core place name target (duty_for true actor name) world
done_by core world actor name place role (request.Finish answered back results) = Did (finish role actor answered back results world) answer.Done
done_by core world actor name place role (request.Stop status) = stop core place name status world
done_by core world actor name place role (request.Fail fault) = failed place fault
done_by core world actor name place role request.Age = Did world (answer.Number (pos world.moment))
done_by core world actor name place role (request.Wake until) = wake until world

abbrev pub does : Core → World → ℕ → Ask → ℕ → Does
does core world actor ask name = done_by core world actor name ask.place ask.role ask.request
