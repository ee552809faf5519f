-- What the code hands about, as what a guard sees.
use Rattle.std.specs.Prelude.{Option}
use Rattle.std.specs.Option.{option_copied}
use Rattle.sr_value.specs.declared.value.Value.{Value}
use Rattle.sr_core.specs.declared.formal.Formal.{Formal}
use Rattle.sr_select.specs.declared.formals.SentFormal.{SentFormal}
use Rattle.sr_select.specs.declared.sight.Sight.{Sight}
use Rattle.sr_select.specs.declared.sight.Scene.{Scene}
use Rattle.sr_select.specs.Choices.{Seeing}
use Rattle.sr_select.specs.Guards.{Guarding, guarding}
use Rattle.sr_select.specs.Readings.{Reading}

abbrev pub seeing : Reading → Scene → Seeing
seeing reading scene = guarding reading scene.me scene.names.now scene.env.now

abbrev pub guarding_of : Reading → Sight → Guarding
guarding_of reading sight = seeing reading sight.scene sight.arm.now sight.args.now

-- a formal, and what it was sent
abbrev pub formal_and_sent : SentFormal → Formal × Option Value
formal_and_sent found = (found.formal.now, option_copied found.sent)
