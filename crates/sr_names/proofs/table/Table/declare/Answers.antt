-- A name that isn't there goes last.
use Rattle.std.proofs.Common.{◌≡◌, true, false, not, Option, None, Some, is_some, ap, sym, ◌∙◌, ◌++◌, ◌∷◌, [], if◌then◌else◌, refl, true≢false}
use Rattle.std.specs.Map.{lookup}
use Rattle.std.specs.Str.{bytes_eq}
use Rattle.sr_names.specs.Entries.{named_entries}
use Rattle.sr_names.specs.Tables.{declared_as}
use Rattle.sr_names.proofs.TableLemmas.{lookup-named, named-insert}
use Rattle.sr_names.proofs.table.Table.declare.Goals as goal

none_from : {A : Type 0} (o : Option A) → is_some o ≡ false → o ≡ None
none_from None e = refl
none_from (Some x) e = absurd (true≢false e)

known : (c : goal.Then-contains_key) → is_some (declared_as c.args.self.now c.args.name.now) ≡ true
known c =
    let name = c.args.name.now in
    ap is_some (sym (sym (lookup-named name c.self.inside.entries.entries) ∙ ap (λ table. declared_as table name) c.self.view_is))
    ∙ sym c.contains_key.ensures ∙ c.if-contains_key.true

unknown : (c : goal.In_ok-insert) → is_some (declared_as c.args.self.now c.args.name.now) ≡ false
unknown c =
    let name = c.args.name.now in
    ap is_some (sym (sym (lookup-named name c.self.inside.entries.entries) ∙ ap (λ table. declared_as table name) c.self.view_is))
    ∙ sym c.contains_key.ensures ∙ c.if-contains_key.false

pub returns-then-contains_key-clause-new : goal.returns-then-contains_key-clause-new
returns-then-contains_key-clause-new c = sym (ap not (known c))

pub returns-then-contains_key-clause-after : goal.returns-then-contains_key-clause-after
returns-then-contains_key-clause-after c =
    let table = c.args.self.now in
    sym (ap (λ b. if b then table else table ++ (c.args.name.now, c.args.decl) ∷ []) (known c))

pub returns-clause-new : goal.returns-clause-new
returns-clause-new c = sym (ap not (unknown c))

pub returns-clause-after : goal.returns-clause-after
returns-clause-after c =
    let table = c.args.self.now in
    let entries = c.self.inside.entries.entries in
    let items = c.in_ok-key.ensures.items in
    let absent : lookup (λ k. bytes_eq c.in_ok-key.key.items k.items) entries ≡ None =
    none_from _ (ap (λ name. is_some (lookup (λ k. bytes_eq name k.items) entries)) items ∙ sym c.contains_key.ensures ∙ c.if-contains_key.false) in
    ap named_entries c.in_ok-insert.ensures.entries
    ∙ named-insert c.in_ok-key.key c.args.decl entries absent
    ∙ ap (λ t. t ++ (c.in_ok-key.key.items, c.args.decl) ∷ []) c.self.view_is
    ∙ ap (λ name. table ++ (name, c.args.decl) ∷ []) items
    ∙ sym (ap (λ b. if b then table else table ++ (c.args.name.now, c.args.decl) ∷ []) (unknown c))
