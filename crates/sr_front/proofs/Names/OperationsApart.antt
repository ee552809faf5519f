-- Of names that stand at different spots some are of operations, and others stand in procs and statements.
use Rattle.std.proofs.Common.{Bool, true, false, List, [], ◌∷◌, map, flat_map}
use Rattle.std.specs.List.{IsDistinct}
use Rattle.sr_check.proofs.Each.{Each, each-append, each-left, each-right}
use Rattle.sr_check.specs.Owners.{Owned, component_at, component_owned, inner_owned, item_owned, ops_owned, sems_owned, spec_item_owned}
use Rattle.sr_names.specs.declared.spot.Spot.{Spot}
use Rattle.sr_names.specs.Spots.{same_spot, spot_of}
use Rattle.sr_order.specs.Names.{file_names}
use Rattle.sr_order.specs.Spans.{component_operations, inner_operations, item_operations, op_item_span, spec_operations}
use Rattle.sr_tables.specs.Parts.{components_in}
use Rattle.sr_tree.specs.declared.component.Component.{Component}
use Rattle.sr_tree.specs.declared.component.File.{File}
use Rattle.sr_tree.specs.declared.component.Item.{Item}
use Rattle.sr_tree.specs.declared.component.Item.TheVariants as item
use Rattle.sr_tree.specs.declared.component.ProcItem.{ProcItem}
use Rattle.sr_tree.specs.declared.component.ProcItem.TheVariants as inner
use Rattle.sr_tree.specs.declared.component.SpecItem.{SpecItem}
use Rattle.sr_tree.specs.declared.component.SpecItem.TheVariants as spec
use Rattle.sr_tree.specs.declared.declaration.OpItem.{OpItem}
use Rattle.sr_tree.specs.declared.declaration.OpItem.TheVariants.{Signed, Typed}
use Rattle.sr_tree.specs.declared.declaration.Semaphore.{Semaphore}
use Rattle.sr_tree.specs.Parts.{body_of, spec_of}
use Rattle.sr_value.specs.declared.place.Span.{Span}
use Rattle.sr_front.proofs.Known.Lasting.{Away}
use Rattle.sr_front.proofs.Names.OperationShares.{component_code_shares}
use Rattle.sr_front.proofs.Names.PlainNames.{component_code_plain}
use Rattle.sr_front.proofs.Names.Shares.{apart_in}
use Rattle.sr_front.proofs.Lists.Sharing.{turned}

-- ---- by what is declared

module _ (Q : Spot → Type 0) where
  abbrev AllSpans : List Span → Type 0
  AllSpans = Each (λ (span : Span). Q (spot_of span))

  abbrev AllOwned : List Owned → Type 0
  AllOwned = Each (λ (owned : Owned). Q owned.0)

  parts_owned : {X : Type 0} (spans : X → List Span) (owned : X → List Owned) → ((x : X) → AllSpans (spans x) → AllOwned (owned x)) → (xs : List X) → AllSpans (flat_map spans xs) → AllOwned (flat_map owned xs)
  parts_owned spans owned each [] h = tt
  parts_owned spans owned each (x ∷ xs) h =
      each-append (λ (one : Owned). Q one.0) (owned x) (flat_map owned xs) (each x (each-left (λ (span : Span). Q (spot_of span)) (spans x) (flat_map spans xs) h))
      (parts_owned spans owned each xs (each-right (λ (span : Span). Q (spot_of span)) (spans x) (flat_map spans xs) h))

  ops_are : (component : Spot) (is_local : Bool) (ops : List OpItem) → AllSpans (map op_item_span ops) → AllOwned (ops_owned component is_local ops)
  ops_are component is_local [] h = tt
  ops_are component is_local (Signed span name signature ∷ ops) h = (h.0, ops_are component is_local ops h.1)
  ops_are component is_local (Typed span name optype ∷ ops) h = (h.0, ops_are component is_local ops h.1)

  sems_are : (component : Spot) (is_local : Bool) (semaphores : List Semaphore) → AllSpans (map (λ semaphore. semaphore.name.span) semaphores) → AllOwned (sems_owned component is_local semaphores)
  sems_are component is_local [] h = tt
  sems_are component is_local (semaphore ∷ more) h = (h.0, sems_are component is_local more h.1)

  spec_item_is : (component : Spot) (one : SpecItem) → AllSpans (spec_operations one) → AllOwned (spec_item_owned component one)
  spec_item_is component (spec.Op declared) h = ops_are component false declared.items h
  spec_item_is component (spec.Sem declared) h = sems_are component false declared.semaphores h
  spec_item_is component _ h = tt

  inner_is : (component : Spot) (one : ProcItem) → AllSpans (inner_operations one) → AllOwned (inner_owned component one)
  inner_is component (inner.Op declared) h = ops_are component true declared.items h
  inner_is component (inner.Sem declared) h = sems_are component true declared.semaphores h
  inner_is component _ h = tt

  item_is : (component : Spot) (one : Item) → AllSpans (item_operations one) → AllOwned (item_owned component one)
  item_is component (item.Spec declared) h = spec_item_is component declared h
  item_is component (item.Proc proc) h = parts_owned inner_operations (inner_owned component) (inner_is component) proc.block h
  item_is component (item.Procedure procedure) h = (h.0, parts_owned inner_operations (inner_owned component) (inner_is component) procedure.block h.1)
  item_is component (item.Process process) h = (h.0, parts_owned inner_operations (inner_owned component) (inner_is component) process.block h.1)
  item_is component (item.Final final) h = parts_owned inner_operations (inner_owned component) (inner_is component) final.block h
  item_is component (item.Statement statement) h = tt

  component_is : (component : Component) → AllSpans (component_operations component) → AllOwned (component_owned component)
  component_is component h =
      let at = component_at component in
      let spans = flat_map spec_operations (spec_of component) in
      let more = flat_map item_operations (body_of component) in
      each-append (λ (one : Owned). Q one.0) (flat_map (spec_item_owned at) (spec_of component)) (flat_map (item_owned at) (body_of component))
      (parts_owned spec_operations (spec_item_owned at) (spec_item_is at) (spec_of component) (each-left (λ (span : Span). Q (spot_of span)) spans more h))
      (parts_owned item_operations (item_owned at) (item_is at) (body_of component) (each-right (λ (span : Span). Q (spot_of span)) spans more h))

-- no operation that is declared has its name where something else is declared in procs and statements
pub operations_apart : (files : List File) → IsDistinct same_spot (map spot_of (flat_map file_names files)) → Each (λ (owned : Owned). Away owned.0 (flat_map component_code_plain (components_in files))) (flat_map component_owned (components_in files))
operations_apart files distinct =
    parts_owned away component_operations component_owned (component_is away) (components_in files) (apart_in component_code_plain component_operations (λ component. turned (component_code_shares component)) files distinct)
  where
    away : Spot → Type 0
    away spot = Away spot (flat_map component_code_plain (components_in files))
