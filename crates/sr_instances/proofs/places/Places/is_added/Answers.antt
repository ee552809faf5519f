use Rattle.std.proofs.Common.{◌≡◌, ap, is_some, sym, ◌∙◌}
use Rattle.sr_instances.specs.Instances.{instance_of}
use Rattle.sr_instances.proofs.TableLemmas.{is_some-look-up}
use Rattle.sr_instances.proofs.places.Places.is_added.Goals as goal

same : (c : goal.After-contains_key) → c.contains_key.result ≡ is_some (instance_of c.args.self.now c.args.instance)
same c =
    c.contains_key.ensures ∙ sym (is_some-look-up c.args.instance c.self.inside.instances.entries)
    ∙ ap (λ places. is_some (instance_of places c.args.instance)) c.self.view_is

pub returns : goal.returns
returns c = (λ yes. sym (same c) ∙ yes, λ there. same c ∙ there)
