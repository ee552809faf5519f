-- A world: all that the machine of a run has at one moment.
use Rattle.std.specs.Prelude.{ℕ, Bool, false, List, [], ◌∷◌, Option, None, is_some}
use Rattle.std.specs.FinMap as map
use Rattle.sr_ask.specs.declared.ask.Role.TheVariants.{Boot}
use Rattle.sr_ask.specs.declared.start.Start.{Start}
use Rattle.sr_calls.specs.Calls.{ByProcess}
use Rattle.sr_calls.specs.declared.held.Held.{Held}
use Rattle.sr_calls.specs.declared.held.Reply.{Reply}
use Rattle.sr_instances.specs.Instances.{Placed}
use Rattle.sr_processes.specs.Living.{start_of}
use Rattle.sr_queue.specs.declared.pending.Pending.{Pending}
use Rattle.sr_store.specs.Variables.{Variables}

pub record World : Type 0 where
  -- the processes that haven't ended, in the order of their making
  pub live : List Start
  pub places : Placed
  pub variables : Variables
  -- the invocations that nobody services yet, the oldest first
  pub pending : List Pending
  -- the invocations in service, by the process that services them
  pub held : ByProcess (List Held)
  -- the replies that nobody has taken, by the process that they are for
  pub replies : ByProcess (List Reply)
  -- the input that hasn't been read, and whether no more will come
  pub rest : List ℕ
  pub ended : Bool
  pub output : List ℕ
  -- the status that a `stop` fixed
  pub fixed : Option ℕ
  -- every number that a process, an instance, a machine or an invocation has got, in the order of their making
  pub used : List ℕ
  pub moment : ℕ

-- ---- the beginning

-- the boot process makes main, whatever the number of its code says
abbrev pub boot : Start
boot = record { process = 1; instance = 0; vm = 1; homes = []; role = Boot; code = 0; args = []; back = 0 }

-- a run begins with machine 1 and process 1, the boot process
abbrev pub beginning : World
beginning = record {
  live = boot ∷ [];
  places = record { instances = []; machines = 1 ∷ [] };
  variables = map.empty;
  pending = [];
  held = map.empty;
  replies = map.empty;
  rest = [];
  ended = false;
  output = [];
  fixed = None;
  used = 1 ∷ [];
  moment = 0;
}

-- ---- who lives

-- what a process was started with, where it lives
abbrev pub started : World → ℕ → Option Start
started world process = start_of world.live process

abbrev pub is_live : World → ℕ → Bool
is_live world process = is_some (started world process)
