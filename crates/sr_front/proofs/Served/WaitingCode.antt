-- Each site of the core services what a statement of its component means.
use Rattle.std.proofs.Common.{ℕ, List, [], ◌∷◌, map, flat_map}
use Rattle.sr_check.specs.Servicing.{Together, block_waits, component_waits, inner_waits, item_waits}
use Rattle.sr_check_expr.specs.declared.facts.Facts.{Facts}
use Rattle.sr_names.specs.declared.spot.Spot.{Spot}
use Rattle.sr_outline.specs.Numbers.{formal_names, own_spots, quantifier_names, returned_names, signature_returned}
use Rattle.sr_tables.specs.declared.tables.Tables.{Tables}
use Rattle.sr_tables.specs.Parts.{spot_named}
use Rattle.sr_tree.specs.declared.component.Component.{Component}
use Rattle.sr_tree.specs.declared.component.Item.{Item}
use Rattle.sr_tree.specs.declared.component.Item.TheVariants as item
use Rattle.sr_tree.specs.declared.component.ProcItem.{ProcItem}
use Rattle.sr_tree.specs.declared.component.ProcItem.TheVariants as inner
use Rattle.sr_tree.specs.declared.types.Signature.{out-Signature}
use Rattle.sr_tree.specs.Parts.{body_of}
use Rattle.sr_lower_expr.specs.declared.scene.Scene.{Scene}
use Rattle.sr_desugar.specs.Bodies.{in_body, inner_made, item_output, item_outputs, output_sites}
use Rattle.sr_desugar.specs.Core.{scene_of, standing, whole_of}
use Rattle.sr_desugar.specs.Statements.{all_sites}
use Rattle.sr_front.proofs.Served.Serviced.{IsClear, block_calls, component_calls, inner_calls, item_calls}
use Rattle.sr_front.proofs.Served.Waiting.{Each, Good, SiteServes, good_append, statement_serves}

module _ (P : Together → Type 0) where
  inner_good : (scene : Scene) (one : ProcItem) → Good P scene (inner_made scene one).sites (inner_waits scene.facts.uses one) (inner_calls one)
  inner_good scene (inner.Statement statement) = statement_serves P statement scene
  inner_good scene _ = λ hold clear. tt

  block_good : (scene : Scene) (block : List ProcItem) → Good P scene (all_sites (map (inner_made scene) block)) (block_waits scene.facts.uses block) (block_calls block)
  block_good scene [] = λ hold clear. tt
  block_good scene (one ∷ block) =
      good_append P scene (inner_made scene one).sites (all_sites (map (inner_made scene) block)) (inner_waits scene.facts.uses one) (block_waits scene.facts.uses block) (inner_calls one) (block_calls block)
      (inner_good scene one) (block_good scene block)

  -- the block of a proc, which has own variables
  service_good : (scene : Scene) (formals returned : List Spot) (block : List ProcItem)
      → Good P scene (all_sites (map (inner_made (in_body scene (own_spots scene.facts formals returned block))) block)) (block_waits scene.facts.uses block) (block_calls block)
  service_good scene formals returned block = block_good (in_body scene (own_spots scene.facts formals returned block)) block

  item_good : (scene : Scene) (one : Item) → Good P scene (item_output scene one).sites (item_waits scene.facts.uses one) (item_calls one)
  item_good scene (item.Spec declared) = λ hold clear. tt
  item_good scene (item.Proc proc) = service_good scene (map spot_named proc.formals) (returned_names proc.returned) proc.block
  item_good scene (item.Procedure procedure) = service_good scene (formal_names (out-Signature procedure.signature).formals) (signature_returned procedure.signature) procedure.block
  item_good scene (item.Process process) = service_good scene (quantifier_names process.quantifiers) [] process.block
  item_good scene (item.Final final) = service_good scene [] [] final.block
  item_good scene (item.Statement statement) = statement_serves P statement scene

  items_good : (scene : Scene) (items : List Item) → Good P scene (output_sites (item_outputs scene items)) (flat_map (item_waits scene.facts.uses) items) (flat_map item_calls items)
  items_good scene [] = λ hold clear. tt
  items_good scene (one ∷ items) =
      good_append P scene (item_output scene one).sites (output_sites (item_outputs scene items)) (item_waits scene.facts.uses one) (flat_map (item_waits scene.facts.uses) items) (item_calls one) (flat_map item_calls items)
      (item_good scene one) (items_good scene items)

  -- the sites of a component service what its statements mean
  pub sites_good : (facts : Facts) (tables : Tables) (imports : List (List ℕ)) (number : ℕ) (component : Component)
      → Each P (component_waits facts.uses component) → Each (IsClear (standing facts component)) (component_calls component)
      → Each (SiteServes P tables.operations) (whole_of facts tables imports (number, component)).sites
  sites_good facts tables imports number component = items_good (scene_of facts tables imports number component) (body_of component)
