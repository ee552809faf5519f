-- In the core of a program each number in the guards of the site of an `in`, and in its lists, names something where the `in`
-- stands, and each global among its names is imported there.
use Rattle.std.proofs.Common.{ℕ, ◌+◌, ◌≤◌, Bool, List, [], ◌∷◌, length, map, arith}
use Rattle.std.proofs.lemmas.List.{length-map}
use Rattle.std.proofs.lemmas.List.FromFn.{length-enumerate_from}
use Rattle.std.specs.Prelude.{IsTrue}
use Rattle.std.specs.List.{enumerate_from}
use Rattle.sr_check_expr.specs.declared.facts.Facts.{Facts}
use Rattle.sr_core.specs.declared.component.Core.{Core}
use Rattle.sr_core.specs.declared.site.Site.{Site}
use Rattle.sr_core.specs.Sites.{guards_exist}
use Rattle.sr_core.specs.Waiting.{SiteTest}
use Rattle.sr_tree.specs.declared.component.Component.{Component}
use Rattle.sr_tree.specs.declared.component.File.{File}
use Rattle.sr_tree.specs.Parts.{body_of}
use Rattle.sr_outline.specs.Outline.{imports_at, imports_of, tables_of}
use Rattle.sr_tables.specs.declared.tables.Tables.{Tables}
use Rattle.sr_tables.specs.Parts.{component_spot, components_in}
use Rattle.sr_tables.specs.Tables.{each_once, things_in}
use Rattle.sr_lower_expr.specs.declared.scene.Scene.{Scene}
use Rattle.sr_lower_expr.proofs.PlaceNumbers.{Fits}
use Rattle.sr_lower_expr.proofs.Within.{once_most}
use Rattle.sr_desugar.specs.Core.{LoweredComponent, core_of, core_with, scene_of, whole_of, wholes_from, wholes_of}
use Rattle.sr_desugar.specs.Laws.{WaitApart}
use Rattle.sr_front.specs.Imports.{names_imported}
use Rattle.sr_front.proofs.Mentioned.GuardSites.{item_guards, site_good}
use Rattle.sr_desugar.proofs.WaitsCode.{ComponentsOkay, WholesFit, code_fits, every_item, sites_found}

-- where there are so many imports and own variables
abbrev pub guards_there : Core → ℕ → ℕ → ℕ → Site → Bool
guards_there core number count owns = site_good (record { owns = owns; imports = count; core = core })

abbrev pub guards_test : Core → ℕ → ℕ → ℕ → SiteTest
guards_test core number count owns site blocks other = guards_exist (record { owns = owns; imports = count; core = core }) site

abbrev pub imports_test : ℕ → ℕ → ℕ → SiteTest
imports_test number count owns site blocks other = names_imported count site

module _ (facts : Facts) (tables : Tables) (imports : List (List ℕ)) (core : Core)
    (operations : length (things_in tables.operations) ≤ length core.operations) (components : length tables.components ≤ length core.components) where
  pub scene_fits : (number : ℕ) (component : Component) → Fits (scene_of facts tables imports number component)
      (record { owns = length (scene_of facts tables imports number component).own; imports = length (imports_at imports number); core = core })
  scene_fits number component = record { owns = omega arith; imports = omega arith; operations = operations; components = components }

  components_guarded : (number : ℕ) (trees : List Component) → ComponentsOkay (guards_there core) facts tables imports number trees
  components_guarded number [] = tt
  components_guarded number (component ∷ more) =
      let scene : Scene = scene_of facts tables imports number component in (
        every_item (guards_there core number (length (imports_at imports number))) scene
            (item_guards scene (record { owns = length scene.own; imports = length (imports_at imports number); core = core }) (scene_fits number component))
            (body_of component),
        components_guarded (number + 1) more,
      )

-- there is one component for each tree
pub as_many : (facts : Facts) (trees : List Component) (tables : Tables) (imports : List (List ℕ)) → length tables.components ≤ length trees
    → length tables.components ≤ length (core_with trees tables (wholes_from facts tables imports 0 trees)).components
as_many facts trees tables imports all =
    let mapped = length-map (wholes_from facts tables imports 0 trees) (λ (whole : LoweredComponent). whole.component) in
    let made = length-map (enumerate_from 0 trees) (whole_of facts tables imports) in
    let numbered = length-enumerate_from 0 trees in
    omega (arith, all, mapped, made, numbered)

pub enough : (trees : List Component) → length (each_once (map component_spot trees)) ≤ length trees
enough trees =
    let once = once_most (map component_spot trees) in
    let mapped = length-map trees component_spot in
    omega (arith, once, mapped)

pub core_guards : (test : ℕ → ℕ → ℕ → SiteTest) (files : List File) (facts : Facts)
    → ((number count owns : ℕ) (site : Site) (blocks : ℕ) (other : Bool) → IsTrue (guards_there (core_of files facts) number count owns site) → IsTrue (test number count owns site blocks other))
    → WaitApart files facts
    → WholesFit (code_fits test) 0 (wholes_of facts (components_in files) (tables_of facts (components_in files))) (core_of files facts).sites
core_guards test files facts passes distinct =
    let components = components_in files in
    let tables : Tables = tables_of facts components in
    let imports = map (imports_of facts tables.components) components in
    let core : Core = core_of files facts in
    sites_found (guards_there core) test (λ number count owns site blocks other okay has. passes number count owns site blocks other okay) files facts distinct
    (components_guarded facts tables imports core (omega arith) (as_many facts components tables imports (enough components)) 0 components)
