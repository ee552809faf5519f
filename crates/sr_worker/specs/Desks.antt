-- What a desk's answer says.
use Rattle.std.specs.Prelude.{◌≡◌, Result, Ok, Err}
use Rattle.sr_ask.specs.declared.ask.Ask.{Ask}
use Rattle.sr_core.specs.declared.owner.Me.{Me}
use Rattle.sr_value.specs.declared.memory.NoMemory.{NoMemory}
use Rattle.sr_worker.specs.Notes.{WritesDown}
use Rattle.sr_worker.specs.declared.desk.Desked.{Desked}
use Rattle.sr_worker.specs.declared.desk.Desked.TheVariants.{Done}
use Rattle.sr_worker.specs.declared.notes.Notes.{Notes}

-- what was carried out is written down, and nothing else is
abbrev pub NotesAfter : Me → Ask → Result Desked NoMemory → Notes → Notes → Type 0
NotesAfter me ask (Ok (Done answer)) old new = WritesDown me ask answer old new
NotesAfter me ask result old new = new ≡ old

-- what holds where the desk declined
abbrev pub IfDeclined : Result Desked NoMemory → Type 0 → Type 0
IfDeclined (Ok (Done answer)) holds = Unit {0}
IfDeclined (Ok declined) holds = holds
IfDeclined (Err out_of_memory) holds = Unit {0}

-- what was declined before is declined still
abbrev pub Stays : {S : Type 0} → (S → Me → Ask → Type 0) → S → S → Type 0
Stays declines old new = (me : Me) (ask : Ask) → declines old me ask → declines new me ask
