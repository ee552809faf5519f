-- How instances, processes and the run end.
use Rattle.std.specs.Prelude.{ℕ, zero, suc, ℤ, pos, negsuc, ◌==◌, Bool, true, false, ◌&&◌, List, [], find, nat_le, Option, Some, None, if◌then◌else◌}
use Rattle.sr_ask.specs.declared.answer.Answer.TheVariants as answer
use Rattle.sr_ask.specs.declared.ask.Role.{Role}
use Rattle.sr_ask.specs.declared.ask.Role.TheVariants.{Initial, Final}
use Rattle.sr_core.specs.declared.component.Core.{Core}
use Rattle.sr_instances.specs.Instances.{Instance, state_of}
use Rattle.sr_meaning.specs.Processes.{main_of}
use Rattle.sr_value.specs.declared.capability.Cap.{Cap}
use Rattle.sr_value.specs.declared.capability.Cap.TheVariants as cap
use Rattle.sr_value.specs.declared.fault.Fault.TheVariants as fault
use Rattle.sr_value.specs.declared.place.Place.{Place}
use Rattle.sr_value.specs.declared.value.Value.{Value}
use Rattle.sr_world.specs.Answering.{answer as answered, duty_held, held_of}
use Rattle.sr_world.specs.Does.{Does, Makes, Cannot, Ends, failed}
use Rattle.sr_world.specs.Invoking.{instance_of_process}
use Rattle.sr_world.specs.Making.{component_at, has_final_code, is_open, make_ready, run_final}
use Rattle.sr_world.specs.Updates.{end_all, end_instance, end_process, fix, hold, use_name}
use Rattle.sr_world.specs.Worlds.{World}
use Rattle.sr_world.specs.declared.ends.End.{End}
use Rattle.sr_world.specs.declared.ends.End.TheVariants as end
use Rattle.sr_world.specs.declared.duty.Duty.{Duty}

-- ---- `destroy`

-- the final code runs with the duty to answer the one that destroys
abbrev pub close : Core → ℕ → ℕ → Duty → World → World
close core name instance duty world = hold name (held_of name duty) (run_final core name instance duty.back world)

-- without final code the instance ends at once; who destroys itself gets no answer
abbrev pub destroy_open : Core → ℕ → ℕ → Duty → World → Does
destroy_open core name instance duty world =
    if has_final_code core (component_at world instance) then Makes (close core name instance duty world) (answer.Made name)
    else Makes (answered duty (Some []) (end_instance instance (use_name name world))) (answer.Made name)

-- E7 for `null`; E8 for an instance that closes already, is gone or never was; `noop` answers at once
abbrev pub destroy : Core → Place → ℕ → Cap → Duty → World → Does
destroy core place name cap.Null duty world = failed place fault.NullCap
destroy core place name cap.Noop duty world = Makes (answered duty (Some []) (use_name name world)) (answer.Made name)
destroy core place name (cap.Res instance) duty world =
    if is_open (state_of world.places instance) then destroy_open core name instance duty world else failed place fault.Gone
destroy core place name _ duty world = Cannot

-- ---- a process ends

-- final code that a `destroy` began ends its instance, before it answers
abbrev pub end_after : Role → ℕ → ℕ → World → World
end_after Final zero process world = end_process process world
end_after Final (suc caller) process world = end_instance (instance_of_process world process) (end_process process world)
end_after Initial back process world = make_ready (instance_of_process world process) (end_process process world)
end_after role back process world = end_process process world

-- the invocation that it was started for is answered, unless it has been
abbrev pub answer_unless : Bool → Duty → List Value → World → World
answer_unless true duty results world = world
answer_unless false duty results world = answered duty (Some results) world

abbrev pub finish : Role → ℕ → Bool → ℕ → List Value → World → World
finish role process is_answered back results world =
    answer_unless is_answered (duty_held world process process) results (end_after role back process world)

-- ---- the run ends

-- main's instance is the first of its component
abbrev pub main_instance : Core → World → Option Instance
main_instance core world = find (λ i. i.component == main_of core) world.places.instances

abbrev pub may_close : Core → Instance → Bool
may_close core main = is_open (Some main.state) && has_final_code core (main_of core)

-- all processes end and main's final code runs, where main lives and has some that hasn't begun; else the run ends
abbrev pub close_or : Core → ℕ → Option ℕ → End → World → Option Instance → Does
close_or core name status ending world None = Ends ending
close_or core name status ending world (Some main) =
    if may_close core main then Makes (run_final core name main.name 0 (fix status (end_all world))) answer.Done else Ends ending

abbrev pub final_or : Core → ℕ → Option ℕ → End → World → Does
final_or core name status ending world = close_or core name status ending world (main_instance core world)

-- a status is from 0 to 100
abbrev pub status_in : ℤ → Option ℕ
status_in (pos n) = if nat_le n 100 then Some n else None
status_in (negsuc n) = None

abbrev pub stop_with : Core → Place → ℕ → Option ℕ → World → Does
stop_with core place name None world = failed place fault.BadStatus
stop_with core place name (Some status) world = final_or core name (Some status) (end.Stopped status) world

abbrev pub stop : Core → Place → ℕ → ℤ → World → Does
stop core place name status world = stop_with core place name (status_in status) world

-- how a run ends that comes to rest
abbrev pub rest_of : Option ℕ → End
rest_of None = end.Quiet
rest_of (Some status) = end.Stopped status

-- no process can make a step: the final code begins, or the run ends
abbrev pub quiesce : Core → ℕ → World → Does
quiesce core name world = final_or core name None (rest_of world.fixed) world
