-- The changes of a world that steps are made of: each of one object.
use Rattle.std.specs.Prelude.{ℕ, List, [], ◌∷◌, ◌++◌, fold, remove, Option, Some, None}
use Rattle.std.specs.FinMap as map
use Rattle.sr_ask.specs.declared.start.Start.{Start}
use Rattle.sr_calls.specs.Calls.{with_item, without_held, without_reply}
use Rattle.sr_calls.specs.declared.held.Held.{Held}
use Rattle.sr_calls.specs.declared.held.Reply.{Reply}
use Rattle.sr_instances.specs.Instances.{with_instance, with_machine, with_state}
use Rattle.sr_instances.specs.declared.state.State.{State}
use Rattle.sr_instances.specs.declared.state.State.TheVariants.{Gone}
use Rattle.sr_processes.specs.Living.{numbers_in, without_process}
use Rattle.sr_queue.specs.declared.pending.Pending.{Pending}
use Rattle.sr_store.specs.Variables.{Variables}
use Rattle.sr_world.specs.Worlds.{World}

-- a number is used once: for what a step makes
abbrev pub use_name : ℕ → World → World
use_name name world = record world { used = world.used ++ name ∷ [] }

-- ---- invocations

-- an invocation arrives after all that are pending
abbrev pub add_pending : Pending → World → World
add_pending pending world = record world { pending = world.pending ++ pending ∷ [] }

-- the invocation at this place isn't pending any more
abbrev pub drop_pending : ℕ → World → World
drop_pending place world = record world { pending = remove world.pending place }

abbrev pub hold : ℕ → Held → World → World
hold process held world = record world { held = with_item world.held process held }

abbrev pub release : ℕ → ℕ → World → World
release process id world = record world { held = without_held world.held process id }

abbrev pub add_reply : ℕ → Reply → World → World
add_reply process reply world = record world { replies = with_item world.replies process reply }

-- the earliest reply to one of these invocations is taken
abbrev pub drop_reply : ℕ → List ℕ → World → World
drop_reply process ids world = record world { replies = without_reply world.replies process ids }

-- ---- variables, input and output

abbrev pub with_variables : Variables → World → World
with_variables variables world = record world { variables = variables }

abbrev pub with_rest : List ℕ → World → World
with_rest rest world = record world { rest = rest }

-- time passes, and nothing else changes
abbrev pub pass_to : ℕ → World → World
pass_to moment world = record world { moment = moment }

abbrev pub write : List ℕ → World → World
write bytes world = record world { output = world.output ++ bytes }

-- ---- instances, machines and processes

abbrev pub add_instance : ℕ → ℕ → ℕ → World → World
add_instance name component machine world = record world { places = with_instance world.places name component machine }

abbrev pub set_state : ℕ → State → World → World
set_state instance state world = record world { places = with_state world.places instance state }

abbrev pub add_machine : ℕ → World → World
add_machine name world = record world { places = with_machine world.places name }

abbrev pub add_process : Start → World → World
add_process start world = record world { live = world.live ++ start ∷ [] }

-- what an ended process held, and the replies to it, are dropped
abbrev pub end_process : ℕ → World → World
end_process process world = record world {
  live = without_process world.live process;
  held = map.remove world.held process;
  replies = map.remove world.replies process;
}

abbrev pub end_processes : List ℕ → World → World
end_processes processes world = fold (λ world process. end_process process world) world processes

abbrev pub end_all : World → World
end_all world = record world { live = []; held = map.empty; replies = map.empty }

-- the processes that run the code of an instance, in the order of their making
abbrev pub processes_of : ℕ → World → List ℕ
processes_of instance world = numbers_in world.live instance

-- an instance that ends is gone, and so are its processes
abbrev pub end_instance : ℕ → World → World
end_instance instance world = end_processes (processes_of instance world) (set_state instance Gone world)

-- the status that the run ends with
abbrev pub fix : Option ℕ → World → World
fix (Some status) world = record world { fixed = Some status }
fix None world = world
