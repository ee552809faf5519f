-- What a process is known to ask.
use Rattle.std.specs.Prelude.{List, [], ◌∷◌, Option, Some, None}
use Rattle.sr_ask.specs.declared.answer.Answer.{Answer}
use Rattle.sr_ask.specs.declared.ask.Asks.{Asks}

-- what was found is asked until the next answer comes, and then what else is asked after the answers
abbrev pub known_or : Option Asks → List Answer → Asks → Asks
known_or None more asks = asks
known_or (Some found) [] asks = found
known_or (Some found) (answer ∷ more) asks = asks
