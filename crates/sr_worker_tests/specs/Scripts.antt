-- What a script asks.
use Rattle.std.specs.Prelude.{ℕ, [], cond, nat_lt}
use Rattle.sr_ask.specs.declared.ask.Ask.{Ask}
use Rattle.sr_ask.specs.declared.ask.Asks.{Asks}
use Rattle.sr_ask.specs.declared.ask.Asks.TheVariants.{Asked, OverTicks}
use Rattle.sr_ask.specs.declared.ask.Role.TheVariants.{Proc}
use Rattle.sr_ask.specs.declared.request.Request.TheVariants.{Load}

abbrev pub load_of : ℕ → Ask
load_of var = record { place = record { file = 0; line = 1 }; role = Proc; request = Load 1 var [] }

-- the next variable, up to the end
abbrev pub asks_at : ℕ → ℕ → Asks
asks_at end next = cond (nat_lt next end) (Asked (load_of next)) OverTicks
