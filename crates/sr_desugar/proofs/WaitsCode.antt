-- Each `in` in the initial code, the final code and the procs of components finds its own site.
use Rattle.std.proofs.Common.{◌≡◌, refl, sym, ap, ◌∙◌, ℕ, ◌+◌, Bool, true, false, ◌&&◌, List, [], ◌∷◌, Option, Some, None, length, map, flat_map, option_to_list}
use Rattle.std.specs.Prelude.{IsTrue}
use Rattle.std.specs.List.{AllByRecursion, list_all}
use Rattle.std.proofs.lemmas.Bool.{and_parts}
use Rattle.std.proofs.lemmas.List.Folds.{list_all-append}
use Rattle.sr_check_expr.specs.declared.facts.Facts.{Facts}
use Rattle.sr_core.specs.declared.component.Body.{Body}
use Rattle.sr_core.specs.declared.component.Proc.{Proc}
use Rattle.sr_core.specs.declared.site.Site.{Site}
use Rattle.sr_core.specs.declared.statement.Scope.TheVariants.{Own, Shared}
use Rattle.sr_core.specs.declared.statement.Statement.TheOpen.{Statement-F as Core-F}
use Rattle.sr_core.specs.declared.statement.Statement.TheVariants as core
use Rattle.sr_core.specs.Tests.{codes_of}
use Rattle.sr_names.specs.declared.spot.Spot.{Spot}
use Rattle.sr_tree.specs.declared.component.Component.{Component}
use Rattle.sr_tree.specs.declared.component.File.{File}
use Rattle.sr_tree.specs.declared.component.Item.{Item}
use Rattle.sr_tree.specs.declared.component.Item.TheVariants as item
use Rattle.sr_tree.specs.declared.component.Process.{Process}
use Rattle.sr_tree.specs.declared.component.ProcItem.{ProcItem}
use Rattle.sr_tree.specs.declared.component.ProcItem.TheVariants as inner
use Rattle.sr_tree.specs.declared.component.SpecItem.{SpecItem}
use Rattle.sr_tree.specs.declared.component.SpecItem.TheVariants as spec
use Rattle.sr_tree.specs.declared.declaration.Semaphore.{Semaphore}
use Rattle.sr_tree.specs.declared.expr.Expr.{Expr}
use Rattle.sr_tree.specs.declared.expr.Invocation.{Invocation}
use Rattle.sr_tree.specs.declared.statement.Quantifier.{Quantifier}
use Rattle.sr_tree.specs.Parts.{body_of, spec_of}
use Rattle.sr_value.specs.declared.place.Place.{Place}
use Rattle.sr_value.specs.declared.place.Span.{Span}
use Rattle.sr_tables.specs.declared.tables.Tables.{Tables}
use Rattle.sr_tables.specs.Lists.{maybe}
use Rattle.sr_tables.specs.Parts.{component_decl, components_in, line_of, spot_named}
use Rattle.sr_tree.specs.declared.types.Signature.{out-Signature}
use Rattle.sr_outline.specs.Numbers.{component_sites, formal_names, inner_sites, is_p, is_wait, item_sites, own_spots, quantifier_names, returned_names, signature_returned}
use Rattle.sr_outline.specs.Outline.{imports_at, imports_of, tables_of}
use Rattle.sr_lower_expr.specs.declared.scene.Scene.{Scene}
use Rattle.sr_desugar.specs.Bodies.{Output, all_code, all_finals, all_procs, body_made, first_final, in_body, inner_made, item_output, item_outputs, output_sites, process_sends, spec_item_core}
use Rattle.sr_desugar.specs.Core.{LoweredComponent, all_components, core_of, scene_of, sites_in, spec_code, whole_in, whole_of, wholes_from, wholes_of}
use Rattle.sr_desugar.specs.Laws.{WaitApart}
use Rattle.sr_desugar.specs.Statements.{block_made, semaphore_sends, semaphores_core, value_sends}
use Rattle.sr_core.specs.Waiting.{CodeTest, SiteTest, block_waits, component_codes}
use Rattle.sr_desugar.proofs.CalledSame.{called_same}
use Rattle.sr_desugar.proofs.Numbered.{Waits, all_fit, any_site, none_waits, waits_both, waits_by, waits_okay}
use Rattle.sr_desugar.proofs.Waits.{Enough, act_fits, all_appended, block_appended, both, const_fits, rolled, sends_fit, statement_fits, var_fits, waits}

-- the facts of a scene call the same functions
abbrev Agrees : Facts → Facts → Type 0
Agrees facts there = (invocation : Invocation) → is_wait there invocation ≡ is_wait facts invocation

module _ (okay : Site → Bool) (test : SiteTest) (enough : Enough okay test) where
  -- ---- code without sites

  semaphore_fits : (sites : List Site) (scene : Scene) (place : Place) (semaphore : Semaphore) → IsTrue (block_waits test sites (semaphore_sends scene place semaphore))
  semaphore_fits sites scene place semaphore = by semaphore.value
    where
      by : (value : Option Expr) → IsTrue (block_waits test sites (maybe (value_sends scene place (spot_named semaphore.name)) value))
      by None = refl
      by (Some value) = both _ true (sends_fit okay test enough sites place _ _) refl

  semaphores_fit : (sites : List Site) (scene : Scene) (span : Span) (semaphores : List Semaphore) → IsTrue (block_waits test sites (semaphores_core scene span semaphores))
  semaphores_fit sites scene span [] = refl
  semaphores_fit sites scene span (semaphore ∷ semaphores) =
      block_appended okay test enough sites (semaphore_sends scene (line_of span) semaphore) (semaphores_core scene span semaphores)
      (semaphore_fits sites scene (line_of span) semaphore) (semaphores_fit sites scene span semaphores)

  spec_fits : (sites : List Site) (scene : Scene) (declared : SpecItem) → IsTrue (block_waits test sites (spec_item_core scene declared))
  spec_fits sites scene (spec.Import imports) = refl
  spec_fits sites scene (spec.Const constant) = const_fits okay test enough sites scene Shared constant
  spec_fits sites scene (spec.Type named) = refl
  spec_fits sites scene (spec.OpType named) = refl
  spec_fits sites scene (spec.Op operations) = refl
  spec_fits sites scene (spec.Var variables) = var_fits okay test enough sites scene Shared variables
  spec_fits sites scene (spec.Sem semaphores) = semaphores_fit sites scene semaphores.span semaphores.semaphores

  specs_fit : (sites : List Site) (scene : Scene) (items : List SpecItem) → IsTrue (block_waits test sites (spec_code scene items))
  specs_fit sites scene [] = refl
  specs_fit sites scene (item ∷ items) =
      block_appended okay test enough sites (spec_item_core scene item) (spec_code scene items) (spec_fits sites scene item) (specs_fit sites scene items)

  process_fits : (sites : List Site) (scene : Scene) (process : Process) → IsTrue (waits okay test enough sites (process_sends scene process))
  process_fits sites scene process = by process.quantifiers
    where
      by : (quantifiers : List Quantifier) → IsTrue (waits okay test enough sites (process_sends scene (record process { quantifiers = quantifiers })))
      by [] = act_fits okay test enough sites _ _
      by (quantifier ∷ more) = rolled okay test enough sites _ (Core-F.Fa _ _ _) (core.rolls-Fa _ _ _) (both _ true (act_fits okay test enough sites _ _) refl)

  -- ---- blocks of procs and final code

  module _ (facts : Facts) (scene : Scene) (agree : Agrees facts scene.facts) where
    inner_good : (one : ProcItem) → Waits okay scene.tables.sites (λ sites. IsTrue (block_waits test sites (inner_made scene one).made)) (inner_sites facts one) (inner_made scene one).sites
    inner_good (inner.Const constant) = none_waits (λ sites. const_fits okay test enough sites scene Own constant)
    inner_good (inner.Var variables) = none_waits (λ sites. var_fits okay test enough sites scene Own variables)
    inner_good (inner.Op operations) = none_waits (λ sites. refl)
    inner_good (inner.Sem semaphores) = none_waits (λ sites. semaphores_fit sites scene semaphores.span semaphores.semaphores)
    inner_good (inner.Statement statement) = waits_by (λ sites fits. both _ true fits refl) (statement_fits okay test enough facts scene agree statement)

    body_good : (items : List ProcItem)
        → Waits okay scene.tables.sites (λ sites. IsTrue (block_waits test sites (block_made (map (inner_made scene) items)).made)) (flat_map (inner_sites facts) items) (block_made (map (inner_made scene) items)).sites
    body_good [] = none_waits (λ sites. refl)
    body_good (one ∷ items) =
        waits_by (λ sites fits. block_appended okay test enough sites (inner_made scene one).made (block_made (map (inner_made scene) items)).made fits.0 fits.1) (waits_both (inner_good one) (body_good items))

-- ---- tests by how many own variables code has

-- a test of sites for each number of own variables, and one for each `in`
abbrev pub AllEnough : (ℕ → Site → Bool) → (ℕ → SiteTest) → Type 0
AllEnough okay test = (owns : ℕ) → Enough (okay owns) (test owns)

-- how many own variables the code of an item has
abbrev pub item_owns : Scene → Item → ℕ
item_owns scene (item.Proc proc) = length (own_spots scene.facts (map spot_named proc.formals) (returned_names proc.returned) proc.block)
item_owns scene (item.Procedure procedure) =
    length (own_spots scene.facts (formal_names (out-Signature procedure.signature).formals) (signature_returned procedure.signature) procedure.block)
item_owns scene (item.Process process) = length (own_spots scene.facts (quantifier_names process.quantifiers) [] process.block)
item_owns scene (item.Final final) = length (own_spots scene.facts [] [] final.block)
item_owns scene _ = length scene.own

-- each site of an item passes
abbrev pub ItemOkay : (ℕ → Site → Bool) → Scene → Item → Type 0
ItemOkay okay scene one = IsTrue (list_all (okay (item_owns scene one)) (item_output scene one).sites)

abbrev pub ItemsOkay : (ℕ → Site → Bool) → Scene → List Item → Type 0
ItemsOkay okay scene items = AllByRecursion (ItemOkay okay scene) items

module _ (okay : ℕ → Site → Bool) (test : ℕ → SiteTest) (enough : AllEnough okay test) where
  abbrev body_fits : List Site → Body → Bool
  body_fits sites body = block_waits (test body.owns) sites body.block

  abbrev proc_fits : List Site → Proc → Bool
  proc_fits sites proc = body_fits sites proc.body

  -- what an item of a component is in the core fits
  pub record OutputFits (code : List Site → Bool) (procs : List Proc) (finals : List Body) (sites : List Site) : Type 0 where
    pub code_fits : IsTrue (code sites)
    pub procs_fit : IsTrue (list_all (proc_fits sites) procs)
    pub finals_fit : IsTrue (list_all (body_fits sites) finals)

  -- ---- items of components

  module _ (facts : Facts) (scene : Scene) (agree : Agrees facts scene.facts) where
    abbrev here : ℕ
    here = length scene.own

    abbrev Fits : Output → List Site → Type 0
    Fits output sites = OutputFits (λ sites. block_waits (test here) sites output.code) output.procs output.finals sites

    proc_good : (own : List Spot) (block : List ProcItem) → IsTrue (list_all (okay (length own)) (body_made (in_body scene own) block).sites)
        → Waits any_site scene.tables.sites (λ sites. IsTrue (block_waits (test (length own)) sites (body_made (in_body scene own) block).made.block)) (flat_map (inner_sites facts) block)
        (body_made (in_body scene own) block).sites
    proc_good own block all = waits_okay all (body_good (okay (length own)) (test (length own)) (enough (length own)) facts (in_body scene own) agree block)

    item_good : (one : Item) → ItemOkay okay scene one → Waits any_site scene.tables.sites (Fits (item_output scene one)) (item_sites facts one) (item_output scene one).sites
    item_good (item.Spec declared) all =
        none_waits (λ sites. record { code_fits = spec_fits (okay here) (test here) (enough here) sites scene declared; procs_fit = refl; finals_fit = refl })
    item_good (item.Proc proc) all =
        waits_by (λ sites fits. record { code_fits = refl; procs_fit = both _ true fits refl; finals_fit = refl })
        (proc_good (own_spots scene.facts (map spot_named proc.formals) (returned_names proc.returned) proc.block) proc.block all)
    item_good (item.Procedure procedure) all =
        waits_by (λ sites fits. record { code_fits = refl; procs_fit = both _ true fits refl; finals_fit = refl })
        (proc_good (own_spots scene.facts (formal_names (out-Signature procedure.signature).formals) (signature_returned procedure.signature) procedure.block) procedure.block all)
    item_good (item.Process process) all =
        waits_by (λ sites fits. record { code_fits = both _ true (process_fits (okay here) (test here) (enough here) sites scene process) refl; procs_fit = both _ true fits refl; finals_fit = refl })
        (proc_good (own_spots scene.facts (quantifier_names process.quantifiers) [] process.block) process.block all)
    item_good (item.Final final) all =
        waits_by (λ sites fits. record { code_fits = refl; procs_fit = refl; finals_fit = both _ true fits refl })
        (proc_good (own_spots scene.facts [] [] final.block) final.block all)
    item_good (item.Statement statement) all =
        waits_by (λ sites fits. record { code_fits = both _ true fits refl; procs_fit = refl; finals_fit = refl })
        (waits_okay all (statement_fits (okay here) (test here) (enough here) facts scene agree statement))

    items_good : (items : List Item) → ItemsOkay okay scene items
        → Waits any_site scene.tables.sites
        (OutputFits (λ sites. block_waits (test here) sites (all_code (item_outputs scene items))) (all_procs (item_outputs scene items)) (all_finals (item_outputs scene items)))
        (flat_map (item_sites facts) items) (output_sites (item_outputs scene items))
    items_good [] all = none_waits (λ sites. record { code_fits = refl; procs_fit = refl; finals_fit = refl })
    items_good (one ∷ items) all =
        waits_by
        (λ sites fits. record {
          code_fits = block_appended (okay here) (test here) (enough here) sites (item_output scene one).code (all_code (item_outputs scene items)) fits.0.code_fits fits.1.code_fits;
          procs_fit = all_appended (proc_fits sites) (item_output scene one).procs (all_procs (item_outputs scene items)) fits.0.procs_fit fits.1.procs_fit;
          finals_fit = all_appended (body_fits sites) (item_output scene one).finals (all_finals (item_outputs scene items)) fits.0.finals_fit fits.1.finals_fit;
        })
        (waits_both (item_good one all.0) (items_good items all.1))

  -- ---- components

  -- a resource has one final code, or none
  first_fits : (sites : List Site) (finals : List Body) → IsTrue (list_all (body_fits sites) finals) → IsTrue (list_all (body_fits sites) (option_to_list (first_final finals)))
  first_fits sites [] all = refl
  first_fits sites (final ∷ finals) all = by (body_fits sites final) all
    where
      by : (first : Bool) → IsTrue (first && list_all (body_fits sites) finals) → IsTrue (first && true)
      by true fits = refl
      by false fits = fits

  component_good : (facts : Facts) (scene : Scene) (agree : Agrees facts scene.facts) (imports : List (List ℕ)) (component : Component) → ItemsOkay okay scene (body_of component)
      → Waits any_site scene.tables.sites
      (λ sites. IsTrue (list_all (body_fits sites) (codes_of (whole_in scene imports component).component)) × IsTrue (list_all (proc_fits sites) (whole_in scene imports component).procs))
      (component_sites facts component) (whole_in scene imports component).sites
  component_good facts scene agree imports component all =
      waits_by
      (λ sites fits. (
        both (body_fits sites (whole_in scene imports component).component.initial) _
            (block_appended (okay (length scene.own)) (test (length scene.own)) (enough (length scene.own)) sites (spec_code scene (spec_of component)) (all_code (item_outputs scene (body_of component)))
            (specs_fit (okay (length scene.own)) (test (length scene.own)) (enough (length scene.own)) sites scene (spec_of component)) fits.code_fits)
            (first_fits sites (all_finals (item_outputs scene (body_of component))) fits.finals_fit),
        fits.procs_fit,
      ))
      (items_good facts scene agree (body_of component) all)

-- an invocation calls `P` wherever it stands
agrees : (facts : Facts) (tables : Tables) (imports : List (List ℕ)) (number : ℕ) (component : Component) → Agrees facts (scene_of facts tables imports number component).facts
agrees facts tables imports number component invocation = ap is_p (sym (called_same facts (record { component = component_decl component; in_guard = false }) invocation))

-- ---- tests by the component, too

-- the procs of components, of which the first has this number
abbrev pub component_procs : CodeTest → ℕ → List LoweredComponent → Bool
component_procs fits number [] = true
component_procs fits number (whole ∷ wholes) = list_all (λ proc. fits number whole.component proc.body) whole.procs && component_procs fits (number + 1) wholes

-- what components are in the core fits
pub record WholesFit (fits : List Site → CodeTest) (number : ℕ) (wholes : List LoweredComponent) (sites : List Site) : Type 0 where
  pub codes_fit : IsTrue (component_codes (fits sites) number (all_components wholes))
  pub procs_fit : IsTrue (component_procs (fits sites) number wholes)

-- a test of code by the number of the component, by how many imports it has, and by how many own variables the code has
abbrev pub code_fits : (ℕ → ℕ → ℕ → SiteTest) → List Site → CodeTest
code_fits test sites number component body = block_waits (test number (length component.imports) body.owns) sites body.block

-- each site of each component passes
abbrev pub ComponentsOkay : (ℕ → ℕ → ℕ → Site → Bool) → Facts → Tables → List (List ℕ) → ℕ → List Component → Type 0
ComponentsOkay okay facts tables imports number [] = Unit {0}
ComponentsOkay okay facts tables imports number (component ∷ more) =
    ItemsOkay (okay number (length (imports_at imports number))) (scene_of facts tables imports number component) (body_of component) × ComponentsOkay okay facts tables imports (number + 1) more

module _ (okay : ℕ → ℕ → ℕ → Site → Bool) (test : ℕ → ℕ → ℕ → SiteTest) (enough : (number count : ℕ) → AllEnough (okay number count) (test number count)) where
  components_good : (facts : Facts) (tables : Tables) (imports : List (List ℕ)) (number : ℕ) (components : List Component) → ComponentsOkay okay facts tables imports number components
      → Waits any_site tables.sites (WholesFit (code_fits test) number (wholes_from facts tables imports number components)) (flat_map (component_sites facts) components) (sites_in (wholes_from facts tables imports number components))
  components_good facts tables imports number [] all = none_waits (λ sites. record { codes_fit = refl; procs_fit = refl })
  components_good facts tables imports number (component ∷ more) all =
      let made = whole_of facts tables imports (number, component) in
      waits_by
      (λ sites fits. record {
        codes_fit = both (list_all (code_fits test sites number made.component) (codes_of made.component)) _ fits.0.0 fits.1.codes_fit;
        procs_fit = both (list_all (λ proc. code_fits test sites number made.component proc.body) made.procs) _ fits.0.1 fits.1.procs_fit;
      })
      (waits_both
      (component_good (okay number (length (imports_at imports number))) (test number (length (imports_at imports number))) (enough number (length (imports_at imports number)))
      facts (scene_of facts tables imports number component) (agrees facts tables imports number component) imports component all.0)
      (components_good facts tables imports (number + 1) more all.1))

  -- where statements that wait stand at different spots, and each site passes, each `in` finds a site that passes
  pub sites_found : (files : List File) (facts : Facts) → WaitApart files facts
      → (let components = components_in files in let tables = tables_of facts components in ComponentsOkay okay facts tables (map (imports_of facts tables.components) components) 0 components)
      → WholesFit (code_fits test) 0 (wholes_of facts (components_in files) (tables_of facts (components_in files))) (core_of files facts).sites
  sites_found files facts distinct all =
      let components = components_in files in
      let tables = tables_of facts components in
      let imports = map (imports_of facts tables.components) components in
      all_fit (WholesFit (code_fits test) 0 (wholes_from facts tables imports 0 components)) (flat_map (component_sites facts) components) (sites_in (wholes_from facts tables imports 0 components))
      (components_good facts tables imports 0 components all) distinct

-- ---- files

-- what holds of all sites of a component holds of those of its items
pub items_okay : (okay : Site → Bool) (scene : Scene) (items : List Item) → IsTrue (list_all okay (output_sites (item_outputs scene items))) → ItemsOkay (λ owns. okay) scene items
items_okay okay scene [] all = tt
items_okay okay scene (one ∷ items) all =
    let parts = and_parts (list_all okay (item_output scene one).sites) (list_all okay (output_sites (item_outputs scene items)))
    (sym (list_all-append okay (item_output scene one).sites (output_sites (item_outputs scene items))) ∙ all) in
    (parts.0, items_okay okay scene items parts.1)

pub every_item : (okay : ℕ → Site → Bool) (scene : Scene) → ((one : Item) → ItemOkay okay scene one) → (items : List Item) → ItemsOkay okay scene items
every_item okay scene each [] = tt
every_item okay scene each (one ∷ items) = (each one, every_item okay scene each items)

any_passes : (sites : List Site) → IsTrue (list_all any_site sites)
any_passes [] = refl
any_passes (site ∷ sites) = any_passes sites

pub any_component : (facts : Facts) (tables : Tables) (imports : List (List ℕ)) (number : ℕ) (components : List Component)
    → ComponentsOkay (λ number count owns. any_site) facts tables imports number components
any_component facts tables imports number [] = tt
any_component facts tables imports number (component ∷ more) = (
  every_item (λ owns. any_site) (scene_of facts tables imports number component) (λ one. any_passes (item_output (scene_of facts tables imports number component) one).sites) (body_of component),
  any_component facts tables imports (number + 1) more,
)
