-- What a worker writes down of a step, and when it has no more room.
use Rattle.std.specs.Prelude.{◌≡◌, ◌⊎◌, ◌==◌, ◌||◌, ◌+◌, ◌*◌, ◌/◌, ◌%◌, ◌++◌, ◌∷◌, [], ℕ, Bool, length, nat_lt}
use Rattle.sr_ask.specs.declared.answer.Answer.{Answer}
use Rattle.sr_ask.specs.declared.ask.Ask.{Ask}
use Rattle.sr_ask.specs.declared.entry.Entry.{Entry}
use Rattle.sr_ask.specs.declared.request.Request.{Request}
use Rattle.sr_ask.specs.declared.request.Request.TheVariants.{Invoke, Forward}
use Rattle.sr_core.specs.declared.owner.Me.{Me}
use Rattle.sr_worker.specs.declared.notes.Notes.{Notes}
use Rattle.sr_worker.specs.declared.notes.Worker.{Worker}

-- ---- room

-- a worker has no more room where it has made as many entries as it may, or where they hold over 32 MB
abbrev pub is_spent : Notes → Bool
is_spent notes = length notes.entries == notes.worker.room || nat_lt 33554432 notes.held

-- ---- names

-- There are 32 lanes. Each worker has as many of them as the others, and its entries take them in turn.
abbrev pub lane_of : Worker → ℕ → ℕ
lane_of worker count = worker.number * (32 / worker.workers) + count % (32 / worker.workers)

-- what an entry makes gets its number from the entry's stamp and lane
abbrev pub name_of : Worker → ℕ → ℕ → ℕ
name_of worker count stamp = 32 * (worker.base + stamp) + lane_of worker count

-- of what a worker carries out, invocations alone make something
abbrev pub MayMake : Request → Type 0
MayMake (Invoke target args wants) = Unit {0}
MayMake (Forward held back target args) = Unit {0}
MayMake _ = ⊥

-- an entry has no name, or that of its stamp and its lane
abbrev pub IsNamed : Worker → ℕ → Entry → Type 0
IsNamed worker count entry = (entry.name ≡ 0) ⊎ (MayMake entry.ask.request × (entry.name ≡ name_of worker count entry.stamp))

-- ---- one more entry

-- whose step it is
abbrev pub maker_of : Entry → Me
maker_of entry = record { process = entry.actor; instance = entry.instance }

-- a step of a process is written down, with what it asked and what it was answered
pub record WritesDown (me : Me) (ask : Ask) (answer : Answer) (old new : Notes) : Type 0 where
  pub entry : Entry
  pub entries : new.entries ≡ old.entries ++ entry ∷ []
  pub worker : new.worker ≡ old.worker
  pub by : entry.worker ≡ old.worker.number
  pub maker : maker_of entry ≡ me
  pub asked : entry.ask ≡ ask
  pub answered : entry.answer ≡ answer
  pub named : IsNamed old.worker (length old.entries) entry
