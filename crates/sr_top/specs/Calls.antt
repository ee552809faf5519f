-- A call of the program, and one that runs nothing.
use Rattle.std.specs.Prelude.{◌≡◌, ℕ, List, [], Option}
use Rattle.sr_ask.specs.declared.item.Item.{Item}
use Rattle.sr_run.specs.Runs as runs
use Rattle.sr_run.specs.declared.stretch.Stretch.{Stretch}
use Rattle.sr_top.specs.Reading.{Reads}

-- A call of the program: its words; what the files tell; the reads of files, before and after; input and output, before
-- and after; and the items that it made, with the stretches of its workers.
pub record Call : Type 0 where
  pub words : List (List ℕ)
  pub files : Option (List (List ℕ × List ℕ))
  pub reads : Reads
  pub reads_now : Reads
  pub before : runs.Devices
  pub now : runs.Devices
  pub items : List Item
  pub rounds : List Stretch

-- input and output at one time: what is left, what is held, and the counts of their faults
abbrev pub devices : Option (List ℕ) → ℕ → Option (List ℕ) → ℕ → runs.Devices
devices left read_faults held write_faults = record { left = left; read_faults = read_faults; held = held; write_faults = write_faults }

-- a call by its parts, in this order
abbrev pub call_of : List (List ℕ) → Option (List (List ℕ × List ℕ)) → Reads → Reads → runs.Devices → runs.Devices → List Item → List Stretch → Call
call_of words files reads reads_now before now items rounds = record {
  words = words;
  files = files;
  reads = reads;
  reads_now = reads_now;
  before = before;
  now = now;
  items = items;
  rounds = rounds;
}

-- ---- no run

-- there is no item and no stretch
abbrev pub HasNoItems : Call → Type 0
HasNoItems call = (call.items ≡ []) × (call.rounds ≡ [])

-- no item was made, and input and output are as before
pub record RunsNothing (call : Call) : Type 0 where
  pub no_items : HasNoItems call
  pub untouched : call.now ≡ call.before

-- nothing was put, and no item was made
pub record PutsNothing (call : Call) : Type 0 where
  pub no_items : HasNoItems call
  pub held : call.now.held ≡ call.before.held
  pub no_write_fault : call.now.write_faults ≡ call.before.write_faults
