-- A component that isn't there goes last.
use Rattle.std.proofs.Common.{◌≡◌, ◌++◌, ◌∷◌, [], is_some, true, false, ap, sym, ◌∙◌, if◌then◌else◌}
use Rattle.std.specs.Map.{lookup}
use Rattle.sr_names.specs.Spots.{same_spot}
use Rattle.sr_names.specs.Visible.{component_at, components_of}
use Rattle.sr_names.proofs.VisibleLemmas.{component-found, components-insert, as_decl, is_some-map}
use Rattle.sr_names.proofs.visible.Visible.add.Goals as goal

pub returns-then-contains_key : goal.returns-then-contains_key
returns-then-contains_key c =
    let visible = c.args.self.now in
    let component = c.args.component in
    let there : is_some (component_at visible component.spot) ≡ true =
    ap (λ components. is_some (component_at components component.spot)) (sym c.self.view_is) ∙ ap is_some (component-found c.self.inside.sorts.entries component.spot)
    ∙ is_some-map (as_decl component.spot) (lookup (same_spot component.spot) c.self.inside.sorts.entries) ∙ sym c.contains_key.ensures ∙ c.if-contains_key.true in
    sym (ap (λ b. if b then visible else visible ++ component ∷ []) there)

pub returns : goal.returns
returns c =
    let visible = c.args.self.now in
    let component = c.args.component in
    let sorts = c.self.inside.sorts.entries in
    let absent : is_some (lookup (same_spot component.spot) sorts) ≡ false = sym c.contains_key.ensures ∙ c.if-contains_key.false in
    let out : is_some (component_at visible component.spot) ≡ false =
    ap (λ components. is_some (component_at components component.spot)) (sym c.self.view_is) ∙ ap is_some (component-found sorts component.spot)
    ∙ is_some-map (as_decl component.spot) (lookup (same_spot component.spot) sorts) ∙ absent in
    ap components_of c.in_ok-insert.ensures.entries
    ∙ components-insert component.spot component.sort sorts absent
    ∙ ap (λ components. components ++ component ∷ []) c.self.view_is
    ∙ sym (ap (λ b. if b then visible else visible ++ component ∷ []) out)
