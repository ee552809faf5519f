use Rattle.std.proofs.Common.{None, Some, cond, ap, ◌∙◌}
use Rattle.sr_instances.specs.Instances.{Instance, is_global}
use Rattle.sr_instances.specs.Tables.{first_of}
use Rattle.sr_instances.specs.declared.state.State.TheVariants.{Starting}
use Rattle.sr_instances.proofs.InstanceLemmas.{found-push, global-in_state}
use Rattle.sr_instances.proofs.laws.first_global_stays.Goals as goal

pub returns-clause-added : goal.returns-clause-added
returns-clause-added c = λ places global machine first name component vm is.
    let new : Instance = record { name = name; component = component; machine = vm; state = Starting } in
    found-push (is_global global machine) places.instances new ∙ ap (λ o. first_of o (cond (is_global global machine new) (Some name) None)) is

pub returns-clause-put : goal.returns-clause-put
returns-clause-put c = λ places global machine name state. global-in_state name state global machine places.instances
