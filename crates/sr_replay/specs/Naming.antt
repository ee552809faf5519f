-- What a process asks, and which invocation the answer to a step names.
use Rattle.std.specs.Prelude.{ℕ, Option, Some, None}
use Rattle.sr_ask.specs.declared.answer.Answer.{Answer}
use Rattle.sr_ask.specs.declared.answer.Answer.TheVariants.{Picked, Took}
use Rattle.sr_ask.specs.declared.ask.Ask.{Ask}
use Rattle.sr_ask.specs.declared.ask.Asks.{Asks}
use Rattle.sr_ask.specs.declared.ask.Asks.TheVariants.{Asked, OverTicks}
use Rattle.sr_ask.specs.declared.item.Item.{Item}
use Rattle.sr_ask.specs.declared.item.Item.TheVariants.{Step, Quiesce, Tick}
use Rattle.sr_ask.specs.declared.start.Start.{Start}
use Rattle.sr_core.specs.declared.component.Core.{Core}
use Rattle.sr_world.specs.Does.{Does, Did, Makes}
use Rattle.sr_world.specs.Runs.{State, asks_for, asks_next}
use Rattle.sr_world.specs.Worlds.{started}
use Rattle.sr_world.specs.declared.acted.Acted.{Acted}
use Rattle.sr_world.specs.declared.acted.Acted.TheVariants as acted

-- ---- what is asked

-- one that is over its ticks asks nothing
abbrev pub ask_of : Asks → Option Ask
ask_of (Asked ask) = Some ask
ask_of OverTicks = None

abbrev pub asked_from : Core → ℕ → State → Option Start → Option Ask
asked_from core limit state None = None
asked_from core limit state (Some start) = ask_of (asks_next core limit state start)

-- what a process asks that lives
abbrev pub asked_in : Core → ℕ → State → ℕ → Option Ask
asked_in core limit state process = asked_from core limit state (started state.world process)

-- ---- what an answer names

-- the number of the invocation that is serviced, or to which a reply is taken; else 0
abbrev pub number_in : Answer → ℕ
number_in (Picked id arm args back) = id
number_in (Took id results) = id
number_in _ = 0

abbrev pub number_by : Does → ℕ
number_by (Did world answer) = number_in answer
number_by (Makes world answer) = number_in answer
number_by _ = 0

abbrev pub number_from : Core → ℕ → State → ℕ → ℕ → Option Start → ℕ
number_from core limit state actor name None = 0
number_from core limit state actor name (Some start) = number_by (asks_for core state.world actor name (asks_next core limit state start))

-- the number that the answer to an item names in a state
abbrev pub named_at : Core → ℕ → State → Item → ℕ
named_at core limit state (Step actor name) = number_from core limit state actor name (started state.world actor)
named_at core limit state (Quiesce name) = 0
named_at core limit state (Tick to) = 0

-- the number that the machine's answer names
abbrev pub number_acted : Acted → ℕ
number_acted (acted.Done answer) = number_in answer
number_acted _ = 0
