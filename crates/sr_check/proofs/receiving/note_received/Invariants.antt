-- What was noted so far and what the rest adds are what all add.
use Rattle.std.proofs.Common.{◌≡◌, drop}
use Rattle.sr_names.specs.Diagnostics.{all_noted}
use Rattle.sr_check.specs.Receiving.{received_found}
use Rattle.sr_check.proofs.receiving.note_received.Given as goal

abbrev pub invariant-loop-param : goal.invariant-loop-param
invariant-loop-param l = all_noted l.diagnostics (received_found (drop l.param-index l.params) l.rest) ≡ all_noted l.fn.diagnostics (received_found l.params l.places)
