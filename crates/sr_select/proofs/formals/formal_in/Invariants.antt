-- What the rest of the formals gives is what all give.
use Rattle.std.proofs.Common.{◌≡◌, drop}
use Rattle.sr_select.specs.Guards.{formal_named}
use Rattle.sr_select.proofs.formals.formal_in.Given as goal

abbrev pub invariant-loop-formal : goal.invariant-loop-formal
invariant-loop-formal l = formal_named (drop l.formal-index l.formals) l.rest l.var ≡ formal_named l.formals l.fn.args l.var
