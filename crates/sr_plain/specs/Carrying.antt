-- The number of a step, and what it wrote.
use Rattle.std.specs.Prelude.{◌≡◌, ℕ, List, [], Option, Some, None}
use Rattle.sr_ask.specs.declared.ask.Asks.{Asks}
use Rattle.sr_ask.specs.declared.ask.Asks.TheVariants.{Asked, OverTicks}
use Rattle.sr_world.specs.Does.{Does, Makes}
use Rattle.sr_world.specs.Worlds.{World}
use Rattle.sr_plain.specs.Leaving.{written_by}
use Rattle.sr_plain.specs.Order.{IsNext}

-- a step that makes something has the next number, and any other has none
abbrev pub Names : Does → World → ℕ → Type 0
Names (Makes later answer) world name = IsNext world.used name
Names _ world name = name ≡ 0

abbrev pub written_of : Option Asks → List ℕ
written_of (Some (Asked ask)) = written_by ask.request
written_of (Some OverTicks) = []
written_of None = []
