-- What the rest of the names gives is what all give.
use Rattle.std.proofs.Common.{◌≡◌, drop}
use Rattle.sr_select.specs.Guards.{named_seen}
use Rattle.sr_select.proofs.names.own_in.Given as goal

abbrev pub invariant-loop-name : goal.invariant-loop-name
invariant-loop-name l = named_seen (drop l.name-index l.names) l.rest l.var ≡ named_seen l.names l.fn.env l.var
