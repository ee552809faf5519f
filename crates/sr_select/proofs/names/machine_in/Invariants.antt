-- What the rest of the names gives is what all give.
use Rattle.std.proofs.Common.{◌≡◌, drop}
use Rattle.sr_select.specs.Guards.{machine_seen}
use Rattle.sr_select.proofs.names.machine_in.Given as goal

abbrev pub invariant-loop-name : goal.invariant-loop-name
invariant-loop-name l = machine_seen (drop l.name-index l.names) l.rest ≡ machine_seen l.names l.fn.env
