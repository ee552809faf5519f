use Rattle.std.proofs.Common.{◌≡◌, ℕ, List, [], ◌∷◌, ◌++◌, None, Some, cond, ap, refl, nat_eq, subst, sym, ◌∙◌}
use Rattle.std.specs.Map.{lookup}
use Rattle.indexmap.proofs.CallerLemmas.{insert_entry-new}
use Rattle.sr_instances.specs.Instances.{Instance, Placed, IsAdded, with_instance}
use Rattle.sr_instances.specs.Tables.{first_of, instances_in, same_spot}
use Rattle.sr_instances.specs.declared.state.State.TheVariants.{Starting}
use Rattle.sr_instances.specs.declared.tables.Spot.{Spot}
use Rattle.sr_instances.specs.declared.tables.InstanceInfo.{InstanceInfo}
use Rattle.sr_instances.proofs.TableLemmas.{absent, indexed-along, indexed-push, instances-push}
use Rattle.sr_instances.proofs.places.Places.add_instance.Goals as goal

entry : (c : goal.After-put) → ℕ × InstanceInfo
entry c = (c.args.name, record { component = c.args.component; machine = c.args.vm; state = Starting })

grown : (c : goal.After-put) → c.put.new.table.entries ≡ c.self.inside.instances.entries ++ entry c ∷ []
unfolding entry
grown c =
    let entries = c.self.inside.instances.entries in
    let none : lookup (nat_eq c.args.name) c.reserve.new.self.entries ≡ None =
    ap (lookup (nat_eq c.args.name)) c.in_ok-reserve.ensures.entries ∙ absent c.args.name entries (subst (λ places. ¬ IsAdded places c.args.name) (sym c.self.view_is) c.requires) in
    c.put.ensures.entries ∙ insert_entry-new nat_eq c.reserve.new.self c.args.name (entry c).1 none ∙ ap (λ es. es ++ entry c ∷ []) c.in_ok-reserve.ensures.entries

pub invariant_of-self-2 : goal.invariant_of-self-2
unfolding entry
invariant_of-self-2 c =
    let spot : Spot = record { component = c.args.component; machine = c.args.vm } in
    let entries = c.self.inside.instances.entries in
    let noted : (q : Spot) → lookup (same_spot q) c.note_first.new.globals.entries ≡ first_of (lookup (same_spot q) c.self.inside.globals.entries) (cond (same_spot q spot) (Some c.args.name) None) =
    λ q. c.note_first.ensures q ∙ ap (λ es. first_of (lookup (same_spot q) es) (cond (same_spot q spot) (Some c.args.name) None)) c.in_ok-reserve-2.ensures.entries in
    indexed-along (entries ++ entry c ∷ []) c.put.new.table.entries (c.self.inside.names ++ c.args.name ∷ []) c.push.new.self c.note_first.new.globals.entries (grown c) c.in_ok-push.ensures.ok
    (indexed-push entries c.self.inside.names c.self.inside.globals.entries c.note_first.new.globals.entries (entry c) spot refl refl noted c.self.invariant)

pub returns-clause-ok : goal.returns-clause-ok
unfolding entry
returns-clause-ok c =
    let placed : List Instance → Placed = λ is. record { instances = is; machines = c.self.inside.machines } in
    ap (λ es. placed (instances_in es)) (grown c)
    ∙ ap placed (instances-push c.self.inside.instances.entries (entry c))
    ∙ ap (λ places. with_instance places c.args.name c.args.component c.args.vm) c.self.view_is
