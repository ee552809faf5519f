-- The scene stands at the component.
use Rattle.std.proofs.Common.{◌≡◌, ℕ, false, List, [], ◌∷◌, ◌++◌, Result, Ok, Err, OnOk, ap, ◌∙◌, subst}
use Rattle.sr_check_expr.specs.declared.facts.Facts.{Facts}
use Rattle.sr_check_expr.specs.declared.facts.Here.{Here}
use Rattle.sr_core.specs.declared.component.Component.{Component}
use Rattle.sr_names.specs.declared.meaning.Decl.{Decl}
use Rattle.sr_outline.specs.Numbers.{initial_spots}
use Rattle.sr_outline.specs.Outline.{imports_at}
use Rattle.sr_tables.specs.declared.tables.Tables.{Tables}
use Rattle.sr_tree.specs.declared.component.Component.{Component as Tree}
use Rattle.sr_lower_expr.specs.declared.scene.Scene.{Scene}
use Rattle.sr_desugar.specs.Core.{scene_of, whole_in, whole_of, with_wholes}
use Rattle.sr_desugar.proofs.program.push_component.Goals as goal

on_ok : {A E P : Type 0} (result : Result A E) → P → OnOk result P
on_ok (Ok value) holds = holds
on_ok (Err error) holds = tt

abbrev seen_from : Facts → Here → Facts
seen_from facts here = record facts { here = here }

abbrev at_component : Decl → Here
at_component decl = record { component = decl; in_guard = false }

abbrev stood : Facts → Tables → List (List ℕ) → ℕ → Tree → Here → Scene
stood facts tables imports number tree here = record {
  facts = seen_from facts here;
  component = number;
  imports = imports_at imports number;
  own = initial_spots (seen_from facts here) tree;
  tables = tables;
}

pub returns-clause-components : goal.returns-clause-components
returns-clause-components c =
    let facts : Facts = c.args.scene.now.facts in
    let tables : Tables = c.args.scene.now.tables in
    let imports : List (List ℕ) = c.args.imports.now in
    let tree : Tree = c.args.component.now in
    let stands : c.stand.new.scene ≡ scene_of facts tables imports c.args.number tree =
    c.in_ok-stand.ensures
    ∙ ap (λ (here : Here). stood facts tables imports c.args.number tree here)
    (c.replace-around.ensures.after ∙ ap (λ (decl : Decl). at_component decl) c.component_decl.ensures) in
    let made : c.in_ok-made.made ≡ (whole_of facts tables imports (c.args.number, tree)).component =
    c.in_ok-made.ensures.value ∙ ap (λ (scene : Scene). (whole_in scene imports tree).component) stands in
    subst (λ (component : Component). OnOk c.push.result (c.push.new.self ≡ c.args.components.now ++ component ∷ [])) made c.push.ensures.ok

pub returns-clause-gathered : goal.returns-clause-gathered
returns-clause-gathered c =
    let facts : Facts = c.args.scene.now.facts in
    let tables : Tables = c.args.scene.now.tables in
    let imports : List (List ℕ) = c.args.imports.now in
    let tree : Tree = c.args.component.now in
    let stands : c.stand.new.scene ≡ scene_of facts tables imports c.args.number tree =
    c.in_ok-stand.ensures
    ∙ ap (λ (here : Here). stood facts tables imports c.args.number tree here)
    (c.replace-around.ensures.after ∙ ap (λ (decl : Decl). at_component decl) c.component_decl.ensures) in
    on_ok c.push.result
    (c.in_ok-made.ensures.gathered ∙ ap (λ (scene : Scene). with_wholes c.args.gathered.now (whole_in scene imports tree ∷ [])) stands)
