-- What a process asks from its beginning to its end.
use Rattle.std.specs.Prelude.{ℕ, false, List, [], length, replicate, Option, Some, None, unwrap_or, option_map, slice_get, ◌-◌}
use Rattle.std.specs.Option.{option_and_then}
use Rattle.sr_value.specs.declared.capability.Cap.TheVariants.{Vm}
use Rattle.sr_value.specs.declared.place.Place.{Place}
use Rattle.sr_ask.specs.Asking.{none_takes, made}
use Rattle.sr_ask.specs.Behaviors.{Stage, give, ◌>>=◌, asked}
use Rattle.sr_ask.specs.declared.answer.Answer.{Answer}
use Rattle.sr_ask.specs.declared.ask.Asks.{Asks}
use Rattle.sr_ask.specs.declared.ask.Role.{Role}
use Rattle.sr_ask.specs.declared.ask.Role.TheVariants.{Boot, Initial, Final}
use Rattle.sr_ask.specs.declared.environment.Gives.{Gives}
use Rattle.sr_ask.specs.declared.environment.Gives.TheVariants.{Values, Instance}
use Rattle.sr_ask.specs.declared.environment.Own.{Own}
use Rattle.sr_ask.specs.declared.environment.Service.{Service}
use Rattle.sr_ask.specs.declared.request.Request.TheVariants.{Create, Finish}
use Rattle.sr_ask.specs.declared.start.Start.{Start}
use Rattle.sr_core.specs.declared.component.Body.{Body}
use Rattle.sr_core.specs.declared.component.Component.{Component}
use Rattle.sr_core.specs.declared.component.Core.{Core}
use Rattle.sr_core.specs.declared.component.Proc.{Proc}
use Rattle.sr_meaning.specs.declared.ending.Ending.{Ending}
use Rattle.sr_meaning.specs.Expressions.{Meaning, ensured, needs_of, taken}
use Rattle.sr_meaning.specs.Here.{Here, at_line, request}
use Rattle.sr_core.specs.Formals.{result_vars}
use Rattle.sr_core.specs.declared.statement.Scope.{Scope}
use Rattle.sr_meaning.specs.Statements.{block_of, make_formals, make_returned, results_now}

-- ---- what a process runs

abbrev pub proc_at : Core → ℕ → Option Proc
proc_at core code = slice_get core.procs code

-- the component of a proc is the component of its operation; each proc of an accepted program has one
abbrev pub component_of_proc : Core → Proc → ℕ
component_of_proc core proc = unwrap_or (option_map (λ operation. operation.component) (slice_get core.operations proc.op)) 0

-- main is the last component
abbrev pub main_of : Core → ℕ
main_of core = length core.components - 1

-- the boot process makes main; a number without a proc, as in no accepted program, is of component 0
abbrev pub component_for : Role → Core → ℕ → ℕ
component_for Boot core code = main_of core
component_for Role.Proc core code = unwrap_or (option_map (component_of_proc core) (proc_at core code)) 0
component_for role core code = code

abbrev pub component_of : Core → Start → Option Component
component_of core start = slice_get core.components (component_for start.role core start.code)

abbrev pub first_line : Place
first_line = record { file = 0; line = 1 }

-- the line of the component's first token
abbrev pub line_of_component : Option Component → Place
line_of_component None = first_line
line_of_component (Some component) = component.place

-- ---- the beginning

abbrev pub owns_of : Option Body → ℕ
owns_of None = 0
owns_of (Some body) = body.owns

abbrev pub body_for : Role → Core → Start → Option Body
body_for Boot core start = None
body_for Initial core start = option_map (λ component. component.initial) (component_of core start)
body_for Role.Proc core start = option_map (λ proc. proc.body) (proc_at core start.code)
body_for Final core start = option_and_then (λ component. component.final_code) (component_of core start)

abbrev pub proc_gives : Option Proc → Gives
proc_gives None = Values []
proc_gives (Some proc) = Values (result_vars proc.formals proc.returned)

-- what the process gives to the one that waits for it
abbrev pub gives_for : Role → Core → Start → Gives
gives_for Boot core start = Values []
gives_for Initial core start = Instance
gives_for Role.Proc core start = proc_gives (proc_at core start.code)
gives_for Final core start = Values []

-- a process holds what it was made for under its own number
abbrev pub own_service : Core → Start → Service
own_service core start = record { held = start.process; back = start.back; answered = false; gives = gives_for start.role core start }

abbrev pub beginning : Core → Start → ℕ → List Answer → Stage
beginning core start limit answers = record {
  ticks = limit;
  answers = answers;
  own = replicate (owns_of (body_for start.role core start)) None;
  service = own_service core start;
  out = [];
}

-- ---- the whole

-- the end of a process, which gives the present results
abbrev pub finish : Meaning Ending
finish here stage = request none_takes (Finish stage.service.answered stage.service.back (results_now here stage)) here stage

-- the boot process makes main's globals and main, and waits for it
abbrev pub boot_meaning : Meaning (Unit {0})
boot_meaning here =
    ensured (needs_of here.core (main_of here.core)) (Vm here.start.vm) here >>= λ _.
    request made (Create (main_of here.core) [] (Vm here.start.vm)) here >>= λ name.
    taken name here >>= λ _. give tt

-- the formals of the component are shared variables, made first
abbrev pub initial_meaning : Option Component → Meaning (Unit {0})
initial_meaning None here = give tt
initial_meaning (Some component) here =
    make_formals Scope.Shared component.formals here.start.args here >>= λ _. block_of component.initial.block here >>= λ _. give tt

abbrev pub proc_meaning : Option Proc → Meaning (Unit {0})
proc_meaning None here = give tt
proc_meaning (Some proc) here =
    make_formals Scope.Own proc.formals here.start.args (at_line proc.place here) >>= λ _.
    make_returned proc.returned (at_line proc.place here) >>= λ _.
    block_of proc.body.block (at_line proc.place here) >>= λ _. give tt

abbrev pub final_meaning : Option Body → Meaning (Unit {0})
final_meaning None here = give tt
final_meaning (Some body) here = block_of body.block here >>= λ _. give tt

abbrev pub role_meaning : Role → Meaning (Unit {0})
role_meaning Boot here = boot_meaning here
role_meaning Initial here = initial_meaning (component_of here.core here.start) here
role_meaning Role.Proc here = proc_meaning (proc_at here.core here.start.code) here
role_meaning Final here = final_meaning (body_for Final here.core here.start) here

abbrev pub process_meaning : Meaning Ending
process_meaning here = role_meaning here.start.role here >>= λ _. finish here

abbrev pub here_for : Core → Start → ℕ → Here
here_for core start limit = record { core = core; start = start; limit = limit; place = line_of_component (component_of core start) }

-- What a process with this start asks after exactly these answers, where it may begin `limit` statements
-- between two of them.
abbrev pub ask : Core → Start → ℕ → List Answer → Asks
ask core start limit answers = asked (process_meaning (here_for core start limit) (beginning core start limit answers))
