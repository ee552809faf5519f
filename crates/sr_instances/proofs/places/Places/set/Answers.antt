use Rattle.std.proofs.Common.{◌≡◌, List, ap, is_some, subst, sym, ◌∙◌, true, true≢false}
use Rattle.std.specs.Map.{lookup}
use Rattle.std.proofs.Common.{nat_eq}
use Rattle.sr_instances.specs.Instances.{Instance, Placed, instance_of, with_state}
use Rattle.sr_instances.specs.Tables.{IsIndexed, instances_in}
use Rattle.sr_instances.specs.declared.tables.InstanceInfo.{InstanceInfo}
use Rattle.sr_instances.specs.declared.places.Places.TheInside.{Inside}
use Rattle.sr_instances.specs.contracts.places.Places.{the_view}
use Rattle.sr_instances.proofs.TableLemmas.{indexed-set, instances-set, is_some-look-up}
use Rattle.sr_instances.proofs.places.Places.set.Goals as goal
use Rattle.sr_instances.proofs.places.Places.set.Goals.{in-Some, in_default}

there : (c : goal.Joined-get_mut) → is_some (lookup (nat_eq c.args.instance) c.self.inside.instances.entries) ≡ true
there c =
    sym (is_some-look-up c.args.instance c.self.inside.instances.entries) ∙ ap (λ places. is_some (instance_of places c.args.instance)) c.self.view_is ∙ c.requires

pub invariant_of-self : goal.invariant_of-self
invariant_of-self c =
    elim c.match-get_mut.branch [
      | in-Some w ↦
          let standing = w.in-Some.standing.now in
          let new : InstanceInfo = record standing { state = c.args.state } in
          let entries = c.self.inside.instances.entries in
          subst (λ (x : Inside). IsIndexed x.instances.entries x.names x.globals.entries) (sym w.self-inside-is)
          (subst (λ es. IsIndexed es c.self.inside.names c.self.inside.globals.entries) (sym (c.get_mut.follows.holds new).0)
          (indexed-set c.args.instance c.args.state entries c.self.inside.names c.self.inside.globals.entries standing w.in-Some.ensures.unique (sym w.in-Some.ensures.value) c.self.invariant))
      | in_default w ↦ absurd (true≢false (sym (there c) ∙ ap is_some (sym w.in_default.ensures.value)))
    ]

pub returns : goal.returns
returns c =
    elim c.match-get_mut.branch [
      | in-Some w ↦
          let standing = w.in-Some.standing.now in
          let new : InstanceInfo = record standing { state = c.args.state } in
          let entries = c.self.inside.instances.entries in
          let placed : List Instance → Placed = λ is. record { instances = is; machines = c.self.inside.machines } in
          ap the_view w.self-inside-is
          ∙ ap (λ es. placed (instances_in es)) (c.get_mut.follows.holds new).0
          ∙ ap placed (instances-set c.args.instance c.args.state entries standing w.in-Some.ensures.unique (sym w.in-Some.ensures.value))
          ∙ ap (λ places. with_state places c.args.instance c.args.state) c.self.view_is
      | in_default w ↦ absurd (true≢false (sym (there c) ∙ ap is_some (sym w.in_default.ensures.value)))
    ]
