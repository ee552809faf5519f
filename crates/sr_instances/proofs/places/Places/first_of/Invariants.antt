use Rattle.std.proofs.Common.{◌≡◌, map}
use Rattle.sr_instances.specs.Instances.{first_among}
use Rattle.sr_instances.specs.Tables.{instances_in}
use Rattle.sr_instances.proofs.places.Places.first_of.Given as goal

abbrev pub invariant-loop-name : goal.invariant-loop-name
invariant-loop-name l = l.first ≡ first_among l.component (instances_in (map (λ e. (e.0.now, e.1.now)) l.yielded))
