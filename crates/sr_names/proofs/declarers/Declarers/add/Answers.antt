-- The components of a name grow, or the name and its first component go last.
use Rattle.std.proofs.Common.{◌≡◌, ◌++◌, ◌∷◌, [], List, None, Some, OnOk, Result, Ok, Err, ap, sym, ◌∙◌, subst}
use Rattle.std.specs.Map.{lookup, set_value}
use Rattle.std.specs.Str.{bytes_eq}
use Rattle.indexmap.specs.IndexMap.{insert_entry}
use Rattle.indexmap.specs.IndexSet.{insert_key}
use Rattle.sr_names.specs.declared.spot.Spot.{Spot}
use Rattle.sr_names.specs.Declarers.{IsDeclarer, named_declarers}
use Rattle.sr_names.specs.Spots.{same_spot}
use Rattle.sr_names.proofs.DeclaringLemmas.{holds-added, is-added, named-set, set-keeps, set-found, push-keeps, push-found, is-declarer}
use Rattle.sr_names.proofs.TableLemmas.{lookup-named, named-insert}
use Rattle.sr_names.proofs.declarers.Declarers.add.Goals as goal

found : (c : goal.After-self-in-Some-1) → Some c.in-Some.components.now ≡ lookup (bytes_eq c.args.name.now) c.args.self.now
found c =
    c.in-Some.ensures.value ∙ sym (lookup-named c.args.name.now c.self.inside.components.entries) ∙ ap (lookup (bytes_eq c.args.name.now)) c.self.view_is

grown : (c : goal.After-self-in-Some-1) → named_declarers (c.get_mut.follows.lender c.add.new.self).entries ≡ set_value (bytes_eq c.args.name.now) c.args.self.now c.add.new.self
grown c =
    ap named_declarers (c.get_mut.follows.holds c.add.new.self).0
    ∙ named-set c.args.name.now c.self.inside.components.entries c.add.new.self
    ∙ ap (λ all. set_value (bytes_eq c.args.name.now) all c.add.new.self) c.self.view_is

pub returns-in-Some-clause-kept : goal.returns-in-Some-clause-kept
returns-in-Some-clause-kept c = λ other spot h.
    subst (λ all. IsDeclarer all other spot) (sym (grown c))
    (set-keeps c.args.self.now c.args.name.now c.in-Some.components.now c.add.new.self (found c)
    (holds-added c.add.result c.in-Some.components.now c.add.new.self c.args.component c.add.ensures.added c.add.ensures.unchanged) other spot h)

either : {E : Type 0} (P : Type 0) (r : Result (Unit {0}) E) (new all : List Spot) → OnOk r (new ≡ all) → (new ≡ all → P) → OnOk r P
either P (Ok u) new all e f = f e
either P (Err x) new all e f = e

pub returns-in-Some-clause-added : goal.returns-in-Some-clause-added
returns-in-Some-clause-added c =
    either (IsDeclarer (named_declarers (c.get_mut.follows.lender c.add.new.self).entries) c.args.name.now c.args.component) c.add.result c.add.new.self
    (insert_key same_spot c.in-Some.components.now c.args.component) c.add.ensures.added
    (λ e. subst (λ all. IsDeclarer all c.args.name.now c.args.component) (sym (grown c))
    (is-declarer (set_value (bytes_eq c.args.name.now) c.args.self.now c.add.new.self) c.args.name.now c.add.new.self c.args.component
    (set-found c.args.self.now c.args.name.now c.in-Some.components.now c.add.new.self (found c))
    (is-added c.in-Some.components.now c.add.new.self c.args.component e)))

absent : (c : goal.Joined-branch-4) → lookup (bytes_eq c.args.name.now) c.args.self.now ≡ None
absent c =
    ap (lookup (bytes_eq c.args.name.now)) (sym c.self.view_is) ∙ lookup-named c.args.name.now c.self.inside.components.entries ∙ sym c.in_default.ensures.value

pushed : (c : goal.Joined-branch-4) → named_declarers c.insert.new.self.entries ≡ c.args.self.now ++ (c.args.name.now, c.add-2.new.self) ∷ []
pushed c =
    let entries = c.self.inside.components.entries in
    let items = c.in_ok-key.ensures.items in
    let none : lookup (λ k. bytes_eq c.in_ok-key.key.items k.items) entries ≡ None = ap (λ name. lookup (λ k. bytes_eq name k.items) entries) items ∙ sym c.in_default.ensures.value in
    ap named_declarers c.in_ok-insert.ensures.entries
    ∙ ap (λ m. named_declarers (insert_entry (λ a b. bytes_eq a.items b.items) m.entries c.in_ok-key.key c.add-2.new.self)) c.get_mut.follows.holds-at-none
    ∙ named-insert c.in_ok-key.key c.add-2.new.self entries none
    ∙ ap (λ all. all ++ (c.in_ok-key.key.items, c.add-2.new.self) ∷ []) c.self.view_is
    ∙ ap (λ name. c.args.self.now ++ (name, c.add-2.new.self) ∷ []) items

pub returns-clause-kept : goal.returns-clause-kept
returns-clause-kept c = λ other spot h.
    subst (λ all. IsDeclarer all other spot) (sym (pushed c)) (push-keeps c.args.self.now c.args.name.now c.add-2.new.self other spot h)

pub returns-clause-added : goal.returns-clause-added
returns-clause-added c =
    subst (λ all. IsDeclarer all c.args.name.now c.args.component) (sym (pushed c))
    (is-declarer (c.args.self.now ++ (c.args.name.now, c.add-2.new.self) ∷ []) c.args.name.now c.add-2.new.self c.args.component
    (push-found c.args.self.now c.args.name.now c.add-2.new.self (absent c))
    (is-added c.new-components.result c.add-2.new.self c.args.component c.in_ok-add.ensures.added))
