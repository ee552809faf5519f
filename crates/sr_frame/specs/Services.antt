-- The invocation that a process was made for.
use Rattle.std.specs.Prelude.{false}
use Rattle.sr_ask.specs.declared.environment.Gives.{Gives}
use Rattle.sr_ask.specs.declared.environment.Service.{Service}
use Rattle.sr_ask.specs.declared.start.Start.{Start}

-- a process holds what it was made for under its own number
abbrev pub service_with : Start → Gives → Service
service_with start gives = record { held = start.process; back = start.back; answered = false; gives = gives }
