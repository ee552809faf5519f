-- What the code does to single parts of a world, for the functions inside this crate.
use Rattle.std.specs.Prelude.{◌≡◌, ◌==◌, ◌&&◌, ◌+◌, ◌<◌, ◌≤◌, length, drop, max, nat_lt, take_while, ℕ, zero, suc, Bool, true, false, List, [], Option, Some, None, Result, Ok, Err, is_some, unwrap_or, if◌then◌else◌, fold}
use Rattle.std.specs.FinMap as map
use Rattle.std.specs.List.{Contains}
use Rattle.std.specs.Option.{option_and_then}
use Rattle.sr_ask.specs.declared.ask.Role.{Role}
use Rattle.sr_ask.specs.declared.ask.Role.TheVariants.{Initial, Final}
use Rattle.sr_ask.specs.declared.start.Start.{Start}
use Rattle.sr_calls.specs.Calls.{ByProcess, CanAnswer, Called, with_item, without_held}
use Rattle.sr_calls.specs.declared.held.Held.{Held}
use Rattle.sr_calls.specs.declared.held.Reply.{Reply}
use Rattle.sr_core.specs.declared.component.Core.{Core}
use Rattle.sr_instances.specs.Instances.{Instance, Placed, component_of, global_in, machine_of, state_of, with_state}
use Rattle.sr_instances.specs.declared.state.State.{State}
use Rattle.sr_instances.specs.declared.state.State.TheVariants.{Starting, Ready, Gone}
use Rattle.sr_processes.specs.Living.{IsLive, Living, numbers_in, start_of, without_process}
use Rattle.sr_value.specs.declared.fault.ValueFail.{ValueFail}
use Rattle.sr_value.specs.declared.fault.ValueFail.TheVariants.{Fault as a_fault, NoMemory as out_of_memory}
use Rattle.sr_value.specs.declared.memory.NoMemory.{NoMemory}
use Rattle.sr_value.specs.declared.place.Place.{Place}
use Rattle.sr_value.specs.declared.value.Value.{Value}
use Rattle.sr_world.specs.Answering.{held_of}
use Rattle.sr_world.specs.Endings.{may_close}
use Rattle.sr_world.specs.Inputs.{is_blank, is_part}
use Rattle.sr_world.specs.Invoking.{instance_of_process}
use Rattle.sr_world.specs.Making.{is_ready, run_initial}
use Rattle.sr_world.specs.Names.{IsGreatest}
use Rattle.sr_world.specs.Worlds.{World}
use Rattle.sr_world.specs.declared.acted.Acted.{Acted}
use Rattle.sr_world.specs.declared.acted.Acted.TheVariants as acted
use Rattle.sr_world.specs.declared.duty.Duty.{Duty}
use Rattle.sr_world.specs.declared.duty.Forwarded.{Forwarded}
use Rattle.sr_world.specs.declared.ends.End.TheVariants as end

-- numbers in order, and how many more are added without memory
pub record Numbers : Type 0 where
  pub names : List ℕ
  pub room : ℕ

-- each number from 1 below this one was given out
pub record AreUsedBelow (names : List ℕ) (next : ℕ) : Type 0 where
  pub positive : 0 < next
  pub below : (k : ℕ) → 0 < k → k < next → Contains names k

-- what is kept of the numbers: each below `next` was given out, and this is the greatest
pub record Bounds (names : List ℕ) (next greatest : ℕ) : Type 0 where
  pub low : AreUsedBelow names next
  pub high : IsGreatest names greatest

-- one more number below which each was given out, where the next of them is
abbrev pub next_after : ℕ → ℕ → ℕ
next_after next name = if next == name && nat_lt name 4294967295 then name + 1 else next

abbrev pub greater : ℕ → ℕ → ℕ
greater greatest name = if nat_lt greatest name then name else greatest

-- ---- variables

-- a call ends the run by a fault, or memory ran out
abbrev pub Fails : Place → ValueFail → Result Acted NoMemory → Type 0
Fails place (a_fault fault) (Ok (acted.Ends (end.Failed given at))) = (given ≡ fault) × (at ≡ place)
Fails place out_of_memory (Err e) = Unit {0}
Fails place fail result = ⊥

-- ---- replies and holds

-- the replies after an answer
abbrev pub replies_after : List Start → Duty → Option (List Value) → ByProcess (List Reply) → ByProcess (List Reply)
replies_after live duty results replies =
    if is_some (start_of live duty.back) then with_item replies duty.back (record { id = duty.back_id; results = results }) else replies

abbrev pub replies_unless : Bool → List Start → Duty → Option (List Value) → ByProcess (List Reply) → ByProcess (List Reply)
replies_unless true live duty results replies = replies
replies_unless false live duty results replies = replies_after live duty results replies

-- a reply to the process takes no memory, where it lives
abbrev pub CanReply : List Start → Called → ℕ → Type 0
CanReply live calls process = IsLive live process → CanAnswer calls process

-- what is held after an invocation was handed on
abbrev pub held_without : Option Forwarded → ByProcess (List Held) → ByProcess (List Held)
held_without None held = held
held_without (Some forwarded) held = without_held held forwarded.process forwarded.id

abbrev pub let_go : Option Forwarded → World → World
let_go forwarded world = record world { held = held_without forwarded world.held }

-- ---- places

abbrev pub machine_in : Placed → ℕ → ℕ
machine_in places instance = unwrap_or (machine_of places instance) 0

abbrev pub component_in : Placed → ℕ → ℕ
component_in places instance = unwrap_or (component_of places instance) 0

abbrev pub home_in : Placed → ℕ → ℕ → ℕ
home_in places machine global = unwrap_or (global_in places global machine) 0

abbrev pub global_in_is_ready : Placed → ℕ → ℕ → Bool
global_in_is_ready places machine global = is_ready (option_and_then (state_of places) (global_in places global machine))

-- only a starting instance becomes ready
abbrev pub ready_when : Option State → ℕ → Placed → Placed
ready_when (Some Starting) instance places = with_state places instance Ready
ready_when _ instance places = places

abbrev pub ready_in : Placed → ℕ → Placed
ready_in places instance = ready_when (state_of places instance) instance places

-- initial code that replies to its `create` is ready from then on
abbrev pub ready_own : Role → Bool → ℕ → Placed → Placed
ready_own Initial true instance places = ready_in places instance
ready_own role own instance places = places

-- ---- processes

-- the parts of a world after a process has ended
pub record People : Type 0 where
  pub live : List Start
  pub held : ByProcess (List Held)
  pub replies : ByProcess (List Reply)

abbrev pub without_one : People → ℕ → People
without_one people process = record {
  live = without_process people.live process;
  held = map.remove people.held process;
  replies = map.remove people.replies process;
}

abbrev pub without_all : People → List ℕ → People
without_all people processes = fold without_one people processes

-- what processes and calls have of it
abbrev pub people_of : Living → Called → People
people_of processes calls = record { live = processes.starts; held = calls.held; replies = calls.replies }

abbrev pub people_in : World → People
people_in world = record { live = world.live; held = world.held; replies = world.replies }

abbrev pub with_people : People → World → World
with_people people world = record world { live = people.live; held = people.held; replies = people.replies }

-- whoever lives and had room for a reply still has
abbrev pub KeepsReplies : Living → Called → Living → Called → Type 0
KeepsReplies processes calls processes' calls' = (p : ℕ) → CanReply processes.starts calls p → CanReply processes'.starts calls' p

-- the processes that end after one has ended
abbrev pub numbers_after : Role → ℕ → ℕ → World → List ℕ
numbers_after Final process zero world = []
numbers_after Final process (suc caller) world = numbers_in (without_process world.live process) (instance_of_process world process)
numbers_after role process back world = []

-- how far its instance has come then
abbrev pub places_after : Role → ℕ → ℕ → Placed → Placed
places_after Final zero instance places = places
places_after Final (suc caller) instance places = with_state places instance Gone
places_after Initial back instance places = ready_in places instance
places_after role back instance places = places

-- the status that is fixed after another may have been
abbrev pub fixed_after : Option ℕ → Option ℕ → Option ℕ
fixed_after None fixed = fixed
fixed_after (Some status) fixed = Some status

-- ---- new instances

-- the initial process holds the duty to answer, where somebody waits
abbrev pub held_with : ℕ → Option Duty → ByProcess (List Held) → ByProcess (List Held)
held_with name None held = held
held_with name (Some duty) held = with_item held name (held_of name duty)

abbrev pub held_for : ℕ → Option Duty → World → World
held_for name duty world = record world { held = held_with name duty world.held }

abbrev pub back_of : Option Duty → ℕ
back_of None = 0
back_of (Some duty) = duty.back

abbrev pub make : Core → ℕ → ℕ → ℕ → List Value → Option Duty → World → World
make core name component machine args duty world = held_for name duty (run_initial core name component machine args (back_of duty) world)

-- ---- the end of a run

-- whether main's final code can begin
abbrev pub can_close : Core → Option Instance → Bool
can_close core None = false
can_close core (Some main) = may_close core main

-- ---- the first token of the input

-- of bytes that were read up to a place, blanks were seen up to where a token begins, and no blank from there to its end
pub record HasPassed (bytes : List ℕ) (at token end : ℕ) : Type 0 where
  pub begun : at ≤ token
  pub ended : token ≤ end
  pub within : end ≤ length bytes
  pub blanks : token ≤ at + length (take_while is_blank (drop at bytes))
  pub parts : end ≤ token + length (take_while is_part (drop token bytes))

-- all of its blanks and all of the token were seen
pub record HasToken (bytes : List ℕ) (at token end : ℕ) : Type 0 where
  pub begun : at ≤ token
  pub ended : token ≤ end
  pub within : end ≤ length bytes
  pub begins : token ≡ at + length (take_while is_blank (drop at bytes))
  pub ends : end ≡ token + length (take_while is_part (drop token bytes))

-- where the token begins, once more bytes were looked at, and where it ends
abbrev pub begins_at : List ℕ → ℕ → ℕ → ℕ
begins_at bytes token end = if token == end then token + length (take_while is_blank (drop token bytes)) else token

abbrev pub ends_at : List ℕ → ℕ → ℕ → ℕ
ends_at bytes token end = max token end + length (take_while is_part (drop (max token end) bytes))
