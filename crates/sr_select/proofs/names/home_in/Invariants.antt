-- What the rest of the names gives is what all give.
use Rattle.std.proofs.Common.{◌≡◌, drop}
use Rattle.sr_select.specs.Guards.{home_seen}
use Rattle.sr_select.proofs.names.home_in.Given as goal

abbrev pub invariant-loop-name : goal.invariant-loop-name
invariant-loop-name l = home_seen (drop l.name-index l.names) l.rest l.import ≡ home_seen l.names l.fn.env l.import
