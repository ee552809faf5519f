-- The names of operations outside of blocks and of types of operations, and what is known at them at first.
use Rattle.std.proofs.Common.{◌≡◌, Bool, false, List, [], ◌∷◌, ◌++◌, Some, map, flat_map, refl}
use Rattle.sr_names.specs.declared.spot.Spot.{Spot}
use Rattle.sr_names.specs.Noted.{Meanings}
use Rattle.sr_names.specs.Specs.{Specs}
use Rattle.sr_names.specs.Spots.{spot_of}
use Rattle.sr_tree.specs.declared.component.Component.{Component}
use Rattle.sr_tree.specs.declared.component.File.{File}
use Rattle.sr_tree.specs.declared.component.Item.{Item}
use Rattle.sr_tree.specs.declared.component.Item.TheVariants as item
use Rattle.sr_tree.specs.declared.component.SpecItem.{SpecItem}
use Rattle.sr_tree.specs.declared.component.SpecItem.TheVariants as spec
use Rattle.sr_tree.specs.declared.declaration.OpTypeDecl.{OpTypeDecl}
use Rattle.sr_tree.specs.Parts.{body_of, spec_of}
use Rattle.sr_types.specs.declared.ty.Ty.{Ty}
use Rattle.sr_value.specs.declared.place.Span.{Span}
use Rattle.sr_check.proofs.Each.{Each, each-left, each-right, each-weaker}
use Rattle.sr_check_expr.specs.declared.facts.Facts.{Facts}
use Rattle.sr_check_expr.specs.declared.info.Info.TheVariants as info
use Rattle.sr_check_expr.specs.Infos.{info_at}
use Rattle.sr_check_decl.specs.Declaring.{op_item_name}
use Rattle.sr_check_decl.specs.Inferring.{program_known}
use Rattle.sr_outline.specs.Heads.{spec_item_optypes}
use Rattle.sr_outline.specs.Outline.{all_optypes}
use Rattle.sr_tables.specs.Parts.{components_in, in_component, in_item, spot_named}
use Rattle.sr_front.proofs.Known.FirstKnown.{ComponentRight, ItemRight, Knows, SpecRight, first_known}
use Rattle.sr_front.proofs.Lists.Members.{Among, all_among}

-- the names of operations and of types of operations
abbrev pub spec_item_first : SpecItem → List Span
spec_item_first (spec.OpType named) = named.name.span ∷ []
spec_item_first (spec.Op operations) = map (λ op. (op_item_name op).span) operations.items
spec_item_first (spec.Sem semaphores) = map (λ semaphore. semaphore.name.span) semaphores.semaphores
spec_item_first _ = []

abbrev pub item_first : Item → List Span
item_first (item.Spec declared) = spec_item_first declared
item_first (item.Procedure procedure) = procedure.name.span ∷ []
item_first (item.Process process) = process.name.span ∷ []
item_first _ = []

abbrev pub component_first : Component → List Span
component_first component = flat_map spec_item_first (spec_of component) ++ flat_map item_first (body_of component)

-- ---- an operation is known at its name

module _ (Op Named : Spot → Type 0) where
  abbrev Optype : Spot → Type 0
  Optype spot = Op spot × Named spot

  abbrev AtName : Span → Type 0
  AtName span = Op (spot_of span)

  abbrev IsNamed : OpTypeDecl → Type 0
  IsNamed named = Named (spot_named named.name)

  each_mapped : {A : Type 0} (span_in : A → Span) (things : List A) → Each AtName (map span_in things) → Each (λ thing. AtName (span_in thing)) things
  each_mapped span_in [] each = tt
  each_mapped span_in (thing ∷ things) each = (each.0, each_mapped span_in things each.1)

  spec_right : (one : SpecItem) → Each AtName (spec_item_first one) → Each IsNamed (spec_item_optypes one) → SpecRight Op Optype one
  spec_right (spec.OpType named) first optypes = (first.0, optypes.0)
  spec_right (spec.Op operations) first optypes = each_mapped (λ op. (op_item_name op).span) operations.items first
  spec_right (spec.Sem semaphores) first optypes = each_mapped (λ semaphore. semaphore.name.span) semaphores.semaphores first
  spec_right _ first optypes = tt

  item_right : (one : Item) → Each AtName (item_first one) → Each IsNamed (in_item spec_item_optypes one) → ItemRight Op Optype one
  item_right (item.Spec declared) first optypes = spec_right declared first optypes
  item_right (item.Procedure procedure) first optypes = first.0
  item_right (item.Process process) first optypes = first.0
  item_right _ first optypes = tt

  specs_right : (items : List SpecItem) → Each AtName (flat_map spec_item_first items) → Each IsNamed (flat_map spec_item_optypes items) → Each (SpecRight Op Optype) items
  specs_right [] first optypes = tt
  specs_right (one ∷ more) first optypes = (
    spec_right one (each-left AtName (spec_item_first one) (flat_map spec_item_first more) first) (each-left IsNamed (spec_item_optypes one) (flat_map spec_item_optypes more) optypes),
    specs_right more (each-right AtName (spec_item_first one) (flat_map spec_item_first more) first) (each-right IsNamed (spec_item_optypes one) (flat_map spec_item_optypes more) optypes),
  )

  items_right : (items : List Item) → Each AtName (flat_map item_first items) → Each IsNamed (flat_map (in_item spec_item_optypes) items) → Each (ItemRight Op Optype) items
  items_right [] first optypes = tt
  items_right (one ∷ more) first optypes = (
    item_right one (each-left AtName (item_first one) (flat_map item_first more) first) (each-left IsNamed (in_item spec_item_optypes one) (flat_map (in_item spec_item_optypes) more) optypes),
    items_right more (each-right AtName (item_first one) (flat_map item_first more) first) (each-right IsNamed (in_item spec_item_optypes one) (flat_map (in_item spec_item_optypes) more) optypes),
  )

  component_right : (tree : Component) → Each AtName (component_first tree) → Each IsNamed (in_component spec_item_optypes tree) → ComponentRight Op Optype tree
  component_right tree first optypes =
      let spec_names = flat_map spec_item_first (spec_of tree) in
      let spec_named = flat_map spec_item_optypes (spec_of tree) in (
        specs_right (spec_of tree) (each-left AtName spec_names (flat_map item_first (body_of tree)) first) (each-left IsNamed spec_named (flat_map (in_item spec_item_optypes) (body_of tree)) optypes),
        items_right (body_of tree) (each-right AtName spec_names (flat_map item_first (body_of tree)) first) (each-right IsNamed spec_named (flat_map (in_item spec_item_optypes) (body_of tree)) optypes),
      )

  components_right : (components : List Component) → Each AtName (flat_map component_first components) → Each IsNamed (all_optypes components) → Each (ComponentRight Op Optype) components
  components_right [] first optypes = tt
  components_right (tree ∷ more) first optypes = (
    component_right tree (each-left AtName (component_first tree) (flat_map component_first more) first) (each-left IsNamed (in_component spec_item_optypes tree) (all_optypes more) optypes),
    components_right more (each-right AtName (component_first tree) (flat_map component_first more) first) (each-right IsNamed (in_component spec_item_optypes tree) (all_optypes more) optypes),
  )

-- ---- what is known of a program at first

-- an operation or a type of operations has its name at a spot
abbrev pub IsFirst : List File → Spot → Type 0
IsFirst files spot = (span : Span) × Among (flat_map component_first (components_in files)) span × (spot_of span ≡ spot)

-- a type of operations has
abbrev pub IsOptype : List File → Spot → Type 0
IsOptype files spot = (named : OpTypeDecl) × Among (all_optypes (components_in files)) named × (spot_named named.name ≡ spot)

firsts_right : (files : List File) → Each (ComponentRight (IsFirst files) (λ spot. IsFirst files spot × IsOptype files spot)) (components_in files)
firsts_right files =
    let names = flat_map component_first (components_in files) in
    let optypes = all_optypes (components_in files) in
    components_right (IsFirst files) (IsOptype files) (components_in files)
    (each-weaker (Among names) (λ span. IsFirst files (spot_of span)) (λ span among. (span, among, refl)) names (all_among names))
    (each-weaker (Among optypes) (λ named. IsOptype files (spot_named named.name)) (λ named among. (named, among, refl)) optypes (all_among optypes))

module _ (uses : Meanings) (specs : Specs) (files : List File) where
  abbrev known : Facts
  known = program_known uses specs files

  knows : Knows (IsFirst files) (λ spot. IsFirst files spot × IsOptype files spot) known
  knows = first_known (IsFirst files) (λ spot. IsFirst files spot × IsOptype files spot) uses specs files (firsts_right files)

  -- an operation that is known at first isn't declared in a block
  pub first_outer : (spot : Spot) (ty : Ty) (component : Spot) (is_local : Bool) → info_at known.infos spot ≡ Some (info.Operation ty component is_local) → is_local ≡ false
  first_outer spot ty component is_local is = (knows spot (info.Operation ty component is_local) is).0

  -- it is known at a name of one
  pub operation_first : (spot : Spot) (ty : Ty) (component : Spot) (is_local : Bool) → info_at known.infos spot ≡ Some (info.Operation ty component is_local) → IsFirst files spot
  operation_first spot ty component is_local is = (knows spot (info.Operation ty component is_local) is).1

  pub optype_first : (spot : Spot) (ty : Ty) → info_at known.infos spot ≡ Some (info.OpType ty) → IsFirst files spot × IsOptype files spot
  optype_first spot ty is = knows spot (info.OpType ty) is
