-- What an item of a run says by itself.
use Rattle.std.specs.Prelude.{ℕ}
use Rattle.sr_ask.specs.declared.item.Item.{Item}
use Rattle.sr_ask.specs.declared.item.Item.TheVariants.{Step, Quiesce, Tick}

-- the number of the process that makes it; 0 where no process does
abbrev pub actor_of : Item → ℕ
actor_of (Step actor name) = actor
actor_of (Quiesce name) = 0
actor_of (Tick to) = 0

-- the number of what it makes, a process or an invocation; 0 where it makes nothing
abbrev pub number_of : Item → ℕ
number_of (Step actor name) = name
number_of (Quiesce name) = name
number_of (Tick to) = 0
