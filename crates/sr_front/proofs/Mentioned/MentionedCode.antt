-- In the core of a program all that code mentions passes a test, where what scenes name and all that the names of components are
-- in the core pass it.
use Rattle.std.proofs.Common.{ℕ, ◌+◌, List, [], ◌∷◌, ◌++◌, flat_map, map, option_to_list, refl}
use Rattle.std.proofs.lemmas.Bool.{and_from}
use Rattle.std.specs.List.{list_all}
use Rattle.std.specs.Prelude.{Bool, IsTrue}
use Rattle.sr_check.proofs.Each.{each-left, each-right}
use Rattle.sr_check_expr.specs.declared.facts.Facts.{Facts}
use Rattle.sr_core.specs.declared.component.Body.{Body}
use Rattle.sr_core.specs.declared.component.Component.{Component as CoreComponent}
use Rattle.sr_core.specs.Tests.{codes_of}
use Rattle.sr_core.specs.Waiting.{CodeTest, component_codes}
use Rattle.sr_names.specs.declared.spot.Spot.{Spot}
use Rattle.sr_order.specs.Names.{block_names, item_names, name_names, names_spans, quantifier_names as quantifier_spans, signature_names, spec_item_names, where_some}
use Rattle.sr_outline.specs.Numbers.{formal_names, own_spots, quantifier_names, returned_names, signature_returned}
use Rattle.sr_tables.specs.declared.sites.Mention.{Mention}
use Rattle.sr_tables.specs.declared.tables.Tables.{Tables}
use Rattle.sr_tables.specs.Parts.{spot_named}
use Rattle.sr_tree.specs.declared.component.Component.{Component}
use Rattle.sr_tree.specs.declared.component.Item.{Item}
use Rattle.sr_tree.specs.declared.component.Item.TheVariants as item
use Rattle.sr_tree.specs.declared.component.ProcItem.{ProcItem}
use Rattle.sr_tree.specs.declared.types.Signature.{out-Signature}
use Rattle.sr_tree.specs.Parts.{body_of, spec_of}
use Rattle.sr_value.specs.declared.place.Span.{Span}
use Rattle.sr_lower_expr.specs.declared.scene.Scene.{Scene}
use Rattle.sr_lower_expr.proofs.Each.{both_pass, first_passes}
use Rattle.sr_desugar.specs.Bodies.{all_finals, all_procs, body_made, first_final, in_body, item_output, item_outputs}
use Rattle.sr_desugar.specs.Core.{all_components, scene_of, whole_in, whole_of, wholes_from}
use Rattle.sr_desugar.proofs.WaitsCode.{component_procs}
use Rattle.sr_front.specs.Imports.{block_mentions}
use Rattle.sr_front.proofs.Mentioned.CodeMentions.{body_passes, initial_passes}
use Rattle.sr_front.proofs.Mentioned.Mentions.{Means, NamePasses, NamesPass}

abbrev pub body_mentions_pass : (Mention → Bool) → Body → Bool
body_mentions_pass test body = list_all test (block_mentions body.block)

-- ---- one component

-- what the scene of a component names passes a test, whatever the own variables are
abbrev pub SceneMeans : Scene → (Mention → Bool) → Type 0
SceneMeans scene test = (own : List Spot) → Means (in_body scene own) test

module _ (scene : Scene) (test : Mention → Bool) (means : SceneMeans scene test) where
  -- and so does what these names are in the core
  abbrev pub NamesMean : List Span → Type 0
  NamesMean spans = (own : List Spot) → NamesPass (in_body scene own) test (means own) spans

  pub names_left : (xs ys : List Span) → NamesMean (xs ++ ys) → NamesMean xs
  names_left xs ys names own = each-left (NamePasses (in_body scene own) test (means own)) xs ys (names own)

  pub names_right : (xs ys : List Span) → NamesMean (xs ++ ys) → NamesMean ys
  names_right xs ys names own = each-right (NamePasses (in_body scene own) test (means own)) xs ys (names own)

  pub names_after : (span : Span) (spans : List Span) → NamesMean (span ∷ spans) → NamesMean spans
  names_after span spans names own = (names own).1

  own_passes : (own : List Spot) (block : List ProcItem) → NamesMean (block_names block) → IsTrue (body_mentions_pass test (body_made (in_body scene own) block).made)
  own_passes own block names = body_passes (in_body scene own) test (means own) block (names own)

  item_procs_pass : (one : Item) → NamesMean (item_names one) → IsTrue (list_all (λ proc. body_mentions_pass test proc.body) (item_output scene one).procs)
  item_procs_pass (item.Proc proc) names =
      let after = names_right (names_spans proc.formals) _ (names_after proc.name.span _ names) in
      and_from _ _ (own_passes (own_spots scene.facts (map spot_named proc.formals) (returned_names proc.returned) proc.block) proc.block (names_right (where_some name_names proc.returned) _ after)) refl
  item_procs_pass (item.Procedure procedure) names =
      and_from _ _
      (own_passes (own_spots scene.facts (formal_names (out-Signature procedure.signature).formals) (signature_returned procedure.signature) procedure.block) procedure.block
      (names_right (signature_names procedure.signature) _ (names_after procedure.name.span _ names))) refl
  item_procs_pass (item.Process process) names =
      and_from _ _
      (own_passes (own_spots scene.facts (quantifier_names process.quantifiers) [] process.block) process.block
      (names_right (flat_map quantifier_spans process.quantifiers) _ (names_after process.name.span _ names))) refl
  item_procs_pass _ names = refl

  item_finals_pass : (one : Item) → NamesMean (item_names one) → IsTrue (list_all (body_mentions_pass test) (item_output scene one).finals)
  item_finals_pass (item.Final final) names = and_from _ _ (own_passes (own_spots scene.facts [] [] final.block) final.block names) refl
  item_finals_pass _ names = refl

  procs_pass : (items : List Item) → NamesMean (flat_map item_names items) → IsTrue (list_all (λ proc. body_mentions_pass test proc.body) (all_procs (item_outputs scene items)))
  procs_pass [] names = refl
  procs_pass (one ∷ items) names =
      both_pass (λ proc. body_mentions_pass test proc.body) (item_output scene one).procs (all_procs (item_outputs scene items))
      (item_procs_pass one (names_left (item_names one) _ names)) (procs_pass items (names_right (item_names one) _ names))

  finals_pass : (items : List Item) → NamesMean (flat_map item_names items) → IsTrue (list_all (body_mentions_pass test) (all_finals (item_outputs scene items)))
  finals_pass [] names = refl
  finals_pass (one ∷ items) names =
      both_pass (body_mentions_pass test) (item_output scene one).finals (all_finals (item_outputs scene items))
      (item_finals_pass one (names_left (item_names one) _ names)) (finals_pass items (names_right (item_names one) _ names))

  first_final_passes : (finals : List Body) → IsTrue (list_all (body_mentions_pass test) finals) → IsTrue (list_all (body_mentions_pass test) (option_to_list (first_final finals)))
  first_final_passes [] all = refl
  first_final_passes (final ∷ finals) all = and_from _ _ (first_passes (body_mentions_pass test) final finals all) refl

  codes_pass : (imports : List (List ℕ)) (component : Component) → NamesMean (flat_map spec_item_names (spec_of component)) → NamesMean (flat_map item_names (body_of component))
      → IsTrue (list_all (body_mentions_pass test) (codes_of (whole_in scene imports component).component))
  codes_pass imports component in_spec in_body =
      and_from _ _ (initial_passes scene test (means scene.own) (spec_of component) (body_of component) (in_spec scene.own) (in_body scene.own))
      (first_final_passes (all_finals (item_outputs scene (body_of component))) (finals_pass (body_of component) in_body))

-- ---- all components

-- all that a component names passes a test
pub record ComponentMeans (scene : Scene) (test : Mention → Bool) (component : Component) : Type 0 where
  pub means : SceneMeans scene test
  pub in_spec : NamesMean scene test means (flat_map spec_item_names (spec_of component))
  pub in_body : NamesMean scene test means (flat_map item_names (body_of component))

abbrev pub mentions_test : (ℕ → CoreComponent → Mention → Bool) → CodeTest
mentions_test test number component body = body_mentions_pass (test number component) body

module _ (facts : Facts) (tables : Tables) (imports : List (List ℕ)) (test : ℕ → CoreComponent → Mention → Bool) where
  abbrev pub AllMean : ℕ → List Component → Type 0
  AllMean number [] = Unit {0}
  AllMean number (component ∷ more) =
      ComponentMeans (scene_of facts tables imports number component) (test number (whole_of facts tables imports (number, component)).component) component × AllMean (number + 1) more

  pub components_mention : (number : ℕ) (trees : List Component) → AllMean number trees
      → IsTrue (component_codes (mentions_test test) number (all_components (wholes_from facts tables imports number trees)))
      × IsTrue (component_procs (mentions_test test) number (wholes_from facts tables imports number trees))
  components_mention number [] all = (refl, refl)
  components_mention number (component ∷ more) all =
      let scene : Scene = scene_of facts tables imports number component in
      let here = test number (whole_of facts tables imports (number, component)).component in
      let one = all.0 in
      let rest = components_mention (number + 1) more all.1 in (
        and_from _ _ (codes_pass scene here one.means imports component one.in_spec one.in_body) rest.0,
        and_from _ _ (procs_pass scene here one.means (body_of component) one.in_body) rest.1,
      )
