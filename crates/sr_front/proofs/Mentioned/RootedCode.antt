-- Where no rule is broken, what the code of all components mentions passes, and what the guards of their sites do.
use Rattle.std.proofs.Common.{ℕ, Bool, List, [], ◌∷◌, flat_map, map, IsTrue, refl}
use Rattle.std.proofs.lemmas.Bool.{and_from}
use Rattle.std.specs.List.{list_all}
use Rattle.sr_check.proofs.Each.{Each}
use Rattle.sr_check.specs.Components.{components_read}
use Rattle.sr_check.specs.ErrorFree.{ErrorFree}
use Rattle.sr_check_expr.specs.declared.facts.Facts.{Facts}
use Rattle.sr_core.specs.declared.expression.Expr.TheVariants as core
use Rattle.sr_desugar.specs.Bodies.{in_body, process_send, quantifier_argument}
use Rattle.sr_desugar.specs.Core.{scene_of}
use Rattle.sr_lower_expr.proofs.Each.{both_pass}
use Rattle.sr_lower_expr.specs.declared.scene.Scene.{Scene}
use Rattle.sr_lower_expr.specs.Places.{operation_expr, own_place, own_root}
use Rattle.sr_names.specs.declared.spot.Spot.{Spot}
use Rattle.sr_outline.specs.Heads.{DeclaredOperation, Heads}
use Rattle.sr_outline.specs.Numbers.{quantifier_names as quantifier_spots}
use Rattle.sr_tables.specs.declared.sites.Mention.{Mention}
use Rattle.sr_tables.specs.declared.sites.Mention.TheVariants as mention
use Rattle.sr_tables.specs.declared.tables.Tables.{Tables}
use Rattle.sr_tables.specs.Parts.{spot_named}
use Rattle.sr_tables.specs.Shapes.{Shapes}
use Rattle.sr_tables.specs.Sites.{mentions_in, mentions_in_argument}
use Rattle.sr_tree.specs.declared.component.Component.{Component}
use Rattle.sr_tree.specs.declared.component.Item.{Item}
use Rattle.sr_tree.specs.declared.component.Process.{Process}
use Rattle.sr_tree.specs.declared.component.SpecItem.{SpecItem}
use Rattle.sr_tree.specs.declared.statement.Quantifier.{Quantifier}
use Rattle.sr_value.specs.declared.place.Span.{Span}
use Rattle.sr_front.specs.Imports.{arguments_mentions}
use Rattle.sr_front.proofs.Mentioned.CodeRules.{action_passes}
use Rattle.sr_front.proofs.Known.FreeBlocks.{FreeComponents}
use Rattle.sr_front.proofs.Known.KeptBy.{KeptBetween, Names}
use Rattle.sr_front.proofs.Known.KeptNames.{Anywhere}
use Rattle.sr_front.proofs.Made.MadeCode.{CodeHad, CodeParts, FreeHad, ItemHad as EachItemHad, SpecHad as EachSpecHad}
use Rattle.sr_front.proofs.Made.MadeComponents.{AllGiven, ComponentParts, WholesFit, components_fit as all_components_fit}
use Rattle.sr_front.proofs.Made.MadeHere.{AndTyped, HeldIn}
use Rattle.sr_front.proofs.Mentioned.MentionRules.{argument_passes, load_rule, rows, val_rule}
use Rattle.sr_front.proofs.Lists.Placed.{Ending, Placed}
use Rattle.sr_front.proofs.Names.PlainNames.{component_code_plain}
use Rattle.sr_front.proofs.Mentioned.ReadsCode.{component_inside}
use Rattle.sr_front.proofs.Mentioned.RootedDecls.{const_passes, semaphores_pass, vars_pass}
use Rattle.sr_front.proofs.Mentioned.RootedExprs.{operation_expr_passes}
use Rattle.sr_front.proofs.Mentioned.RootedFits.{mention_rules, mention_tests}
use Rattle.sr_front.proofs.Mentioned.RootedHere.{parts_pass}
use Rattle.sr_front.proofs.Mentioned.RootedParts.{Had, HadAt, Others, place_at_passes}
use Rattle.sr_front.proofs.Typed.TypedCode.{Good}
use Rattle.sr_front.proofs.Typed.TypedPlaces.{AtPlace}

-- ---- what holds of names

module _ (test : Mention → Bool) where
  -- a variable that a name means passes
  abbrev HadIn : Scene → Spot → Type 0
  HadIn scene = HadAt scene test

  -- own variables that are declared pass
  abbrev OwnsIn : Scene → Spot → Type 0
  OwnsIn scene spot = IsTrue (test (mention.Variable (own_root scene spot)))

abbrev pub OwnedAt : Scene → (Mention → Bool) → List Spot → Type 0
OwnedAt scene test = Each (OwnsIn test scene)

abbrev pub NamesHad : Scene → (Mention → Bool) → List Span → Type 0
NamesHad scene test = Each (Had scene test)

abbrev pub SpecHad : Scene → (Mention → Bool) → SpecItem → Type 0
SpecHad scene test = EachSpecHad (HadIn test) (OwnsIn test) scene

abbrev pub ItemHad : Scene → (Mention → Bool) → Item → Type 0
ItemHad scene test = EachItemHad (HadIn test) (OwnsIn test) scene

-- all names in a component pass, and what its code declares as own variables
pub record ComponentHad (scene : Scene) (test : Mention → Bool) (component : Component) : Type 0 where
  pub others : Others scene test
  pub code : CodeHad (HadIn test) (OwnsIn test) scene component

-- ---- the parts of code

abbrev PlacedIn : Scene → (Facts → Type 0) → Type 0
PlacedIn scene Q = (facts : Facts) → Q facts → Ending scene.facts facts → Good facts → AtPlace scene facts

others_in : (test : Mention → Bool) (scene : Scene) (own : List Spot) → Others scene test → Others (in_body scene own) test
others_in test scene own others = record { operations = others.operations; machine = others.machine; counts = others.counts }

reads_in : (scene : Scene) (own : List Spot) (Q : Facts → Type 0) → PlacedIn scene Q → PlacedIn (in_body scene own) Q
reads_in scene own Q reads facts h ending good = let at = reads facts h ending good in record { typed = at.typed; grows = at.grows; operations = at.operations }

module _ (test : Mention → Bool) (Q : Facts → Type 0) (Free : Spot → Type 0) (Opened : DeclaredOperation → Type 0) (scene : Scene) (others : Others scene test) (reads : PlacedIn scene Q) where
  abbrev Holds : Facts → Type 0
  Holds = AndTyped (Unit {0}) Q

  arguments_good : (quantifiers : List Quantifier) → OwnedAt scene test (quantifier_spots quantifiers) → IsTrue (list_all (argument_passes test) (map (quantifier_argument scene) quantifiers))
  arguments_good [] own = refl
  arguments_good (quantifier ∷ more) own =
      let place = own_place scene (spot_named quantifier.name) in
      and_from _ _ (val_rule test (core.Load place) (load_rule test place (place_at_passes scene test (own_root scene (spot_named quantifier.name)) own.0))) (arguments_good more own.1)

  send_good : (process : Process) → OwnedAt scene test (quantifier_spots process.quantifiers) → IsTrue (action_passes test (process_send scene process))
  send_good process own =
      let arguments = map (quantifier_argument scene) process.quantifiers in
      both_pass test (mentions_in (operation_expr scene (spot_named process.name))) (arguments_mentions arguments)
      (operation_expr_passes scene test others (spot_named process.name)) (rows test mentions_in_argument arguments (arguments_good process.quantifiers own))

  at_place : (facts : Facts) → HeldIn scene Holds facts → AtPlace scene facts
  at_place facts held = reads facts held.0.0 held.1 (held.0.1 tt)

  code_parts : CodeParts (mention_tests test) Holds Free Opened (HadIn test) (OwnsIn test) scene
  code_parts = record {
    statements = parts_pass scene test others Q (FreeHad (HadIn test) (OwnsIn test) Free scene) (λ span h. h.1) reads;
    const = λ facts held in_spec scope constant had whole. const_passes scene test others facts (at_place facts held) in_spec scope constant had whole;
    vars = λ facts held scope variables had whole. vars_pass scene test others facts (at_place facts held) scope variables had whole;
    semaphores = λ facts held scope span semaphores had opened whole. semaphores_pass scene test others facts (at_place facts held) span semaphores had whole;
    send = λ process own opened. send_good process own;
  }

-- ---- all components

module _ (test : ℕ → Mention → Bool) (final : Facts) (tables : Tables) (imports : List (List ℕ)) where
  -- all of these components, of which the first has this number
  abbrev pub AllRooted : ℕ → List Component → Type 0
  AllRooted = AllGiven (λ number component. ComponentHad (scene_of final tables imports number component) (test number) component)

module _ (test : ℕ → Mention → Bool) (final : Facts) (tables : Tables) (imports : List (List ℕ)) (shapes : Shapes) (heads : Heads) (outline : Facts) (R : Facts → Type 0) (Free : Spot → Type 0)
    (among : Component → Type 0) (between : (component : Component) → among component → KeptBetween outline shapes heads R Free component)
    (reads : (number : ℕ) (component : Component) (there : among component) → PlacedIn (scene_of final tables imports number component) (between component there).Q) where
  known : (number : ℕ) (component : Component) (there : among component) → ComponentHad (scene_of final tables imports number component) (test number) component
      → ComponentParts (mention_tests (test number)) (AndTyped (Unit {0}) (between component there).Q) Free (between component there).Opened (HadIn (test number)) (OwnsIn (test number)) (scene_of final tables imports number component) component
  known number component there had =
      let scene = scene_of final tables imports number component in
      let one = between component there in
      record {
        had = had.code;
        parts = code_parts (test number) one.Q Free one.Opened scene had.others (reads number component there);
        within = λ own. code_parts (test number) one.Q Free one.Opened (in_body scene own) (others_in (test number) scene own had.others) (reads_in scene own one.Q (reads number component there));
      }

  pub components_fit : (number : ℕ) (components : List Component) → Each among components → Names Free (flat_map component_code_plain components) → AllRooted test final tables imports number components → (facts : Facts) → FreeComponents components facts
      → Placed Anywhere final (flat_map component_inside components) facts (components_read components facts).facts → R facts → (Unit {0} → Good facts) → ErrorFree (components_read components facts).found → WholesFit (λ number. mention_tests (test number)) final tables imports number components
  components_fit =
      all_components_fit (λ number. mention_tests (test number)) (λ number. mention_rules (test number)) (Unit {0}) (λ number. HadIn (test number)) (λ number. OwnsIn (test number)) final tables imports shapes heads outline R Free among between
      (λ number component. ComponentHad (scene_of final tables imports number component) (test number) component) known
