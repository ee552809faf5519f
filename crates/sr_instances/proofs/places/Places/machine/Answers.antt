use Rattle.std.proofs.Common.{ap, is_some, refl, sym, ◌∙◌}
use Rattle.std.specs.Option.{option_map}
use Rattle.sr_instances.specs.Instances.{instance_of, machine_of}
use Rattle.sr_instances.proofs.TableLemmas.{is_some-look-up, look-up}
use Rattle.sr_instances.proofs.places.Places.machine.Goals as goal

pub index-requires : goal.index-requires
index-requires c =
    sym (is_some-look-up c.args.instance c.self.inside.instances.entries) ∙ ap (λ places. is_some (instance_of places c.args.instance)) c.self.view_is ∙ c.requires

pub returns : goal.returns
returns c =
    ap (λ places. machine_of places c.args.instance) (sym c.self.view_is)
    ∙ look-up (λ i. i.machine) (λ s. s.machine) (λ e. refl) c.args.instance c.self.inside.instances.entries
    ∙ ap (option_map (λ s. s.machine)) c.index.ensures
