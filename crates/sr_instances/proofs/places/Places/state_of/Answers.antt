use Rattle.std.proofs.Common.{ap, refl, sym, ◌∙◌}
use Rattle.std.specs.Option.{option_map}
use Rattle.sr_instances.specs.Instances.{state_of}
use Rattle.sr_instances.proofs.TableLemmas.{look-up}
use Rattle.sr_instances.proofs.places.Places.state_of.Goals as goal

pub returns-in-Some : goal.returns-in-Some
returns-in-Some c =
    ap (option_map (λ s. s.state)) c.in-Some.ensures.value
    ∙ sym (look-up (λ i. i.state) (λ s. s.state) (λ e. refl) c.args.instance c.self.inside.instances.entries)
    ∙ ap (λ places. state_of places c.args.instance) c.self.view_is

pub returns-in-None : goal.returns-in-None
returns-in-None c =
    ap (option_map (λ s. s.state)) c.in-None.ensures.value
    ∙ sym (look-up (λ i. i.state) (λ s. s.state) (λ e. refl) c.args.instance c.self.inside.instances.entries)
    ∙ ap (λ places. state_of places c.args.instance) c.self.view_is
