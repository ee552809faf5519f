-- Where no rule is broken, what is made of the code of all components passes, and so do the sites in it, where the parts do.
use Rattle.std.proofs.Common.{ℕ, ◌+◌, List, [], ◌∷◌, ◌++◌, flat_map, IsTrue, refl}
use Rattle.std.proofs.lemmas.Bool.{and_from}
use Rattle.std.specs.List.{list_all}
use Rattle.std.specs.Option.{option_to_list}
use Rattle.sr_check.proofs.Each.{Each, each-left, each-right}
use Rattle.sr_check.proofs.ErrorFree.{error_free_first, error_free_second}
use Rattle.sr_check.specs.Components.{component_read, components_read, head_found, items_procs}
use Rattle.sr_check.specs.ErrorFree.{ErrorFree}
use Rattle.sr_check_decl.specs.Declarations.{spec_items_found}
use Rattle.sr_check_decl.specs.Declaring.{standing}
use Rattle.sr_check_decl.specs.Parts.{component_decl}
use Rattle.sr_check_expr.specs.declared.facts.Facts.{Facts}
use Rattle.sr_core.specs.declared.component.Body.{Body}
use Rattle.sr_core.specs.declared.component.Proc.{Proc as CoreProc}
use Rattle.sr_core.specs.Tests.{codes_of}
use Rattle.sr_core.specs.Waiting.{CodeTest, component_codes}
use Rattle.sr_desugar.proofs.WaitsCode.{ComponentsOkay, ItemsOkay, component_procs}
use Rattle.sr_desugar.specs.Bodies.{all_code, all_finals, first_final, in_body, item_outputs}
use Rattle.sr_desugar.specs.Core.{all_components, scene_of, spec_code, whole_in, wholes_from}
use Rattle.sr_lower_expr.specs.declared.scene.Scene.{Scene}
use Rattle.sr_lower_expr.proofs.Each.{both_pass, first_passes}
use Rattle.sr_names.specs.declared.spot.Spot.{Spot}
use Rattle.sr_names.specs.Spots.{spot_of}
use Rattle.sr_outline.specs.Heads.{DeclaredOperation, Heads, component_opened, inner_opened, spec_item_opened}
use Rattle.sr_tables.specs.declared.tables.Tables.{Tables}
use Rattle.sr_tables.specs.Shapes.{Shapes}
use Rattle.sr_tree.specs.declared.component.Component.{Component}
use Rattle.sr_tree.specs.Parts.{body_of, spec_of}
use Rattle.sr_value.specs.declared.place.Span.{Span}
use Rattle.sr_front.proofs.Known.FreeBlocks.{FreeComponent, FreeComponents}
use Rattle.sr_front.proofs.Known.KeptBy.{KeptBetween, KeptIn, Names}
use Rattle.sr_front.proofs.Known.KeptProcs.{keeps_component}
use Rattle.sr_front.proofs.Known.KeptNames.{Anywhere}
use Rattle.sr_front.proofs.Made.MadeCode.{CodeHad, CodeParts, items_fit, specs_pass}
use Rattle.sr_front.proofs.Made.MadeHere.{AndTyped}
use Rattle.sr_front.proofs.Made.MadeTests.{MadeRules, MadeTests}
use Rattle.sr_front.proofs.Lists.Placed.{Placed, placed_both}
use Rattle.sr_front.proofs.Mentioned.ReadsCode.{component_inside, reads_component, reads_components}
use Rattle.sr_front.proofs.Names.PlainNames.{component_code_plain}
use Rattle.sr_front.proofs.Typed.TypedCode.{Good}
use Rattle.sr_front.proofs.Typed.TypedItems.{component_good, standing_good}

-- ---- one component

-- what holds of the code of a component
pub record ComponentParts (tests : MadeTests) (H : Facts → Type 0) (Free : Spot → Type 0) (Opened : DeclaredOperation → Type 0) (Had Owns : Scene → Spot → Type 0) (scene : Scene) (component : Component) : Type 0 where
  pub had : CodeHad Had Owns scene component
  pub parts : CodeParts tests H Free Opened Had Owns scene
  pub within : (own : List Spot) → CodeParts tests H Free Opened Had Owns (in_body scene own)

-- what is made of all the code of a component passes
record WholeFits (tests : MadeTests) (scene : Scene) (imports : List (List ℕ)) (component : Component) : Type 0 where
  codes : IsTrue (list_all (λ (body : Body). tests.block body.block) (codes_of (whole_in scene imports component).component))
  procs : IsTrue (list_all (λ (proc : CoreProc). tests.block proc.body.block) (whole_in scene imports component).procs)
  sites : ItemsOkay (λ owns. tests.site) scene (body_of component)

first_good : (tests : MadeTests) (finals : List Body) → IsTrue (list_all (λ body. tests.block body.block) finals) → IsTrue (list_all (λ body. tests.block body.block) (option_to_list (first_final finals)))
first_good tests [] all = refl
first_good tests (final ∷ finals) all = and_from _ _ (first_passes (λ (body : Body). tests.block body.block) final finals all) refl

module _ (shapes : Shapes) (heads : Heads) (outline : Facts) (tests : MadeTests) (rules : MadeRules tests) (Asked : Type 0) (Q : Facts → Type 0) (Free : Spot → Type 0) (Opened : DeclaredOperation → Type 0)
    (kept : KeptIn (inner_opened outline shapes heads) Q Free Opened) (Had Owns : Scene → Spot → Type 0) where
  component_fits : (scene : Scene) (imports : List (List ℕ)) (component : Component) (facts : Facts) → Names Free (component_code_plain component) → ComponentParts tests (AndTyped Asked Q) Free Opened Had Owns scene component
      → Each Opened (component_opened outline shapes heads component) → FreeComponent component facts → Placed Anywhere scene.facts (component_inside component) (standing facts (component_decl component)) (component_read component facts).facts
      → AndTyped Asked Q (standing facts (component_decl component)) → ErrorFree (component_read component facts).found → WholeFits tests scene imports component
  component_fits scene imports component facts free one opened types here holds whole =
      let at = standing facts (component_decl component) in
      let outputs = item_outputs scene (body_of component) in
      let specs = flat_map (spec_item_opened outline shapes heads) (spec_of component) in
      let made = items_fit shapes heads outline tests rules Asked Q Free Opened kept Had Owns scene one.parts one.within (items_procs at (body_of component) []) (body_of component) at free one.had.in_body (each-right Opened specs _ opened)
      types here holds (error_free_second (head_found component at) _ whole) in
      record {
        codes = and_from _ _
            (rules.block_rule (spec_code scene (spec_of component) ++ all_code outputs)
            (both_pass tests.one (spec_code scene (spec_of component)) (all_code outputs)
            (specs_pass shapes heads outline tests rules Asked Q Free Opened kept Had Owns scene one.parts at (holds, here.start) (spec_of component) one.had.in_spec (each-left Opened specs _ opened)
            (error_free_first (spec_items_found at (spec_of component)) _ (error_free_first (head_found component at) _ whole))) made.code))
            (first_good tests (all_finals outputs) made.finals);
        procs = made.procs;
        sites = made.sites;
      }

-- ---- all components

-- nothing else is known where the code of a component stands in it
placed_standing : (final : Facts) (component : Component) (before after : Facts) → Placed Anywhere final (component_inside component) before after
    → Placed Anywhere (standing final (component_decl component)) (component_inside component) (standing before (component_decl component)) after
placed_standing final component before after placed = record {
  free = placed.free;
  settled = record { apart = placed.settled.apart; fresh = placed.settled.fresh; stays = placed.settled.stays };
  start = record { stays = placed.start.stays; leads = record { signatures = placed.start.leads.signatures; uses = placed.start.leads.uses; specs = placed.start.leads.specs } };
  end = record { stays = placed.end.stays; leads = record { signatures = placed.end.leads.signatures; uses = placed.end.leads.uses; specs = placed.end.leads.specs } };
}

-- what holds of all of these components, of which the first has this number
abbrev pub AllGiven : (ℕ → Component → Type 0) → ℕ → List Component → Type 0
AllGiven Given number [] = Unit {0}
AllGiven Given number (component ∷ more) = Given number component × AllGiven Given (number + 1) more

-- a test of the blocks of each component
abbrev pub block_test : (ℕ → MadeTests) → CodeTest
block_test tests number component body = (tests number).block body.block

-- what is made of all of these components passes
pub record WholesFit (tests : ℕ → MadeTests) (final : Facts) (tables : Tables) (imports : List (List ℕ)) (first : ℕ) (components : List Component) : Type 0 where
  pub codes : IsTrue (component_codes (block_test tests) first (all_components (wholes_from final tables imports first components)))
  pub procs : IsTrue (component_procs (block_test tests) first (wholes_from final tables imports first components))
  pub sites : ComponentsOkay (λ number count owns. (tests number).site) final tables imports first components

module _ (tests : ℕ → MadeTests) (rules : (number : ℕ) → MadeRules (tests number)) (Asked : Type 0) (Had Owns : ℕ → Scene → Spot → Type 0) (final : Facts) (tables : Tables) (imports : List (List ℕ)) (shapes : Shapes) (heads : Heads) (outline : Facts)
    (R : Facts → Type 0) (Free : Spot → Type 0) (among : Component → Type 0) (between : (component : Component) → among component → KeptBetween outline shapes heads R Free component) (Given : ℕ → Component → Type 0)
    (known : (number : ℕ) (component : Component) (there : among component) → Given number component
    → ComponentParts (tests number) (AndTyped Asked (between component there).Q) Free (between component there).Opened (Had number) (Owns number) (scene_of final tables imports number component) component) where
  abbrev FreeName : Span → Type 0
  FreeName span = Free (spot_of span)

  pub components_fit : (number : ℕ) (components : List Component) → Each among components → Names Free (flat_map component_code_plain components) → AllGiven Given number components → (facts : Facts) → FreeComponents components facts
      → Placed Anywhere final (flat_map component_inside components) facts (components_read components facts).facts → R facts → (Asked → Good facts) → ErrorFree (components_read components facts).found → WholesFit tests final tables imports number components
  components_fit number [] there free given facts types here h good whole = record { codes = refl; procs = refl; sites = tt }
  components_fit number (component ∷ more) there free given facts types here h good whole =
      let step = component_read component facts in
      let scene = scene_of final tables imports number component in
      let within = between component there.0 in
      let names = each-left FreeName (component_code_plain component) _ free in
      let found = error_free_first step.found _ whole in
      let end = (components_read more step.facts).facts in
      let places = placed_both Anywhere final (component_inside component) (flat_map component_inside more) facts step.facts end (reads_component component facts) (reads_components more step.facts) here in
      let first = component_fits shapes heads outline (tests number) (rules number) Asked within.Q Free within.Opened within.kept (Had number) (Owns number) scene imports component facts names (known number component there.0 given.0)
      within.opened types.0 (placed_standing final component facts step.facts places.0) (within.enters facts h, λ asked. standing_good facts (component_decl component) (good asked)) found in
      let after = keeps_component outline shapes heads R Free among between component there.0 facts names types.0 h found in
      let rest = components_fit (number + 1) more there.1 (each-right FreeName (component_code_plain component) _ free) given.1 step.facts types.1 places.1 after (λ asked. component_good component facts types.0 (good asked) found)
      (error_free_second step.found _ whole) in
      record { codes = and_from _ _ first.codes rest.codes; procs = and_from _ _ first.procs rest.procs; sites = (first.sites, rest.sites) }
