use Rattle.std.proofs.Common.{ap, ◌∙◌}
use Rattle.sr_instances.specs.Instances.{names_of}
use Rattle.sr_instances.proofs.TableLemmas.{names-in}
use Rattle.sr_instances.proofs.places.Places.instances.Goals as goal

pub returns : goal.returns
returns c = c.self.invariant.named ∙ names-in c.self.inside.instances.entries ∙ ap names_of c.self.view_is
