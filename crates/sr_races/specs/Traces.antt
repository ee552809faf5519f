-- The trace of a run: a row for each of its items. Items are counted from 0 here, and from 1 where they are shown.
use Rattle.std.specs.Prelude.{◌≡◌, ◌==◌, ◌≤◌, ◌⊎◌, ◌↔◌, ℕ, Bool, true, false, List, length, slice_get, Option, Some, None}
use Rattle.std.specs.Option.{option_map}
use Rattle.sr_ask.specs.declared.ask.Ask.{Ask}
use Rattle.sr_ask.specs.declared.item.Item.{Item}
use Rattle.sr_ask.specs.declared.item.Item.TheVariants.{Step, Quiesce}
use Rattle.sr_ask.specs.declared.start.Start.{Start}
use Rattle.sr_replay.specs.Replays.{IsFirstIllegal}
use Rattle.sr_trace.specs.Asking.{act_of, subject_of}
use Rattle.sr_trace.specs.declared.traced.Act.{Act}
use Rattle.sr_trace.specs.declared.traced.Act.TheVariants as act
use Rattle.sr_trace.specs.declared.traced.Runs.{Runs}
use Rattle.sr_trace.specs.declared.traced.Runs.TheVariants as runs
use Rattle.sr_trace.specs.declared.traced.Subject.{Subject}
use Rattle.sr_trace.specs.declared.traced.Subject.TheVariants as subject
use Rattle.sr_trace.specs.declared.traced.Traced.{Traced}
use Rattle.sr_world.specs.Runs.{Next, Goes, is_legal}
use Rattle.sr_world.specs.Worlds.{started}
use Rattle.sr_races.specs.Items.{Run, actor_at, asked_at, stands_after}
use Rattle.sr_races.specs.Links.{IsLink}
use Rattle.sr_races.specs.declared.link.LinkKind.TheVariants as kind
use Rattle.sr_races.specs.declared.tracing.Traces.{Traces}
use Rattle.sr_races.specs.declared.tracing.Traces.TheVariants as traces

-- ---- what runs

-- the role and the code with which a process was started
abbrev pub runs_from : Option Start → Runs
runs_from None = runs.Machine
runs_from (Some start) = runs.Process start.role start.code

abbrev pub runs_by : Next → Option Item → Runs
runs_by (Goes state) (Some (Step process name)) = runs_from (started state.world process)
runs_by now item = runs.Machine

-- what runs where an item is made: the process that makes it, or the machine where none does
abbrev pub runs_at : Run → ℕ → Runs
runs_at r i = runs_by (stands_after r i) (slice_get r.items i)

-- ---- what it does

-- where no process can go on, main's final code begins, or the run ends
abbrev pub resting : Bool → Act
resting true = act.End
resting false = act.Close

-- no process can go on, or time passes
abbrev pub act_alone : Option Item → Act
act_alone (Some (Quiesce name)) = resting (name == 0)
act_alone _ = act.Tick

abbrev pub act_by : Option Item → Option Ask → Act
act_by item (Some ask) = act_of ask.request
act_by item None = act_alone item

-- what an item does: what its process asks for, or what the machine does where no process makes it
abbrev pub act_at : Run → ℕ → Act
act_at r i = act_by (slice_get r.items i) (asked_at r i)

-- ---- what it names

abbrev pub operation_of : Subject → Option ℕ
operation_of (subject.Operation op) = Some op
operation_of _ = None

abbrev pub operation_in : Option Traced → Option ℕ
operation_in None = None
operation_in (Some row) = operation_of row.subject

-- the operation that the row of an item names
abbrev pub named_at : List Traced → Option ℕ → Option ℕ
named_at rows None = None
named_at rows (Some item) = operation_in (slice_get rows item)

-- What a request names. One that services an invocation names the operation that was invoked: that of the row after which it
-- comes.
abbrev pub subject_by : List Traced → Option Ask → Option ℕ → Subject
subject_by rows None from = subject.Nothing
subject_by rows (Some ask) from = subject_of ask.request (named_at rows from)

-- ---- after which item it comes

-- an item is linked to a later one that services its invocation, takes its reply, or asks for the instance that it made ready
abbrev pub IsAfter : Run → ℕ → ℕ → Type 0
IsAfter r k i = IsLink r kind.Services k i ⊎ (IsLink r kind.Answers k i ⊎ IsLink r kind.Readies k i)

-- ---- rows

-- Among these rows, one is the row of an item: who makes it and what runs there, what it does and on what, the item that
-- made its process where it is the first of that, the item after which it comes, and where its process asks.
pub record IsTraced (r : Run) (rows : List Traced) (i : ℕ) (row : Traced) : Type 0 where
  pub item : row.item ≡ i
  pub process : row.process ≡ actor_at r i
  pub runs : row.runs ≡ runs_at r i
  pub act : row.act ≡ act_at r i
  pub subject : row.subject ≡ subject_by rows (asked_at r i) row.after
  pub begun : (k : ℕ) → (row.begun_by ≡ Some k) ↔ IsLink r kind.Makes k i
  pub after : (k : ℕ) → (row.after ≡ Some k) ↔ IsAfter r k i
  pub place : row.place ≡ option_map (λ ask. ask.place) (asked_at r i)

-- a row for each of the first items, so many
pub record AreTraced (r : Run) (count : ℕ) (rows : List Traced) : Type 0 where
  pub number : length rows ≡ count
  pub each : (i : ℕ) (row : Traced) → slice_get rows i ≡ Some row → IsTraced r rows i row

-- ---- what tracing comes to

-- The first items, so many, are a run that has no more than it may, and these are their rows; or an item of them is the first
-- that isn't one.
abbrev pub IsTrace : ℕ → ℕ → Run → Traces → Type 0
IsTrace steps upto r (traces.Found rows) = (upto ≤ steps) × (is_legal (stands_after r upto) ≡ true) × AreTraced r upto rows
IsTrace steps upto r (traces.Illegal at) = IsFirstIllegal r.core steps r.limit r.input r.items upto at
