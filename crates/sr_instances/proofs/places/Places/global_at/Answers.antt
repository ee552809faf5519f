use Rattle.std.proofs.Common.{ap, ◌∙◌}
use Rattle.sr_instances.specs.Instances.{global_in}
use Rattle.sr_instances.proofs.places.Places.global_at.Goals as goal

pub returns : goal.returns
returns c =
    c.copied.ensures ∙ c.get.ensures.value
    ∙ c.self.invariant.found (record { component = c.args.global; machine = c.args.vm })
    ∙ ap (λ places. global_in places c.args.global c.args.vm) c.self.view_is
