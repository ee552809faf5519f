-- The operations that a program declares, by its trees, and whose each is.
use Rattle.std.specs.Prelude.{◌≡◌, Bool, true, false, List, [], ◌∷◌, ◌++◌, Some, Contains, flat_map, map}
use Rattle.sr_names.specs.declared.spot.Spot.{Spot}
use Rattle.sr_names.specs.Spots.{spot_of}
use Rattle.sr_tree.specs.declared.component.Component.{Component}
use Rattle.sr_tree.specs.declared.component.File.{File}
use Rattle.sr_tree.specs.declared.component.Item.{Item}
use Rattle.sr_tree.specs.declared.component.Item.TheVariants as item
use Rattle.sr_tree.specs.declared.component.ProcItem.{ProcItem}
use Rattle.sr_tree.specs.declared.component.ProcItem.TheVariants as inner
use Rattle.sr_tree.specs.declared.component.SpecItem.{SpecItem}
use Rattle.sr_tree.specs.declared.component.SpecItem.TheVariants as spec
use Rattle.sr_tree.specs.declared.declaration.OpItem.{OpItem}
use Rattle.sr_tree.specs.declared.declaration.Semaphore.{Semaphore}
use Rattle.sr_tree.specs.declared.name.Name.{Name}
use Rattle.sr_tree.specs.Parts.{name_of, spec_of, body_of}
use Rattle.sr_types.specs.declared.ty.Ty.{Ty}
use Rattle.sr_check_expr.specs.declared.facts.Facts.{Facts}
use Rattle.sr_check_expr.specs.declared.info.Info.TheVariants as info
use Rattle.sr_check_expr.specs.Infos.{info_at}
use Rattle.sr_check_decl.specs.Declaring.{op_item_name}

-- an operation that is declared: where its name stands, where the name of its component stands, and whether it is
-- declared in a block of a proc
abbrev pub Owned : Type 0
Owned = Spot × (Spot × Bool)

abbrev pub owned : Spot → Bool → Name → Owned
owned component is_local name = (spot_of name.span, (component, is_local))

abbrev pub ops_owned : Spot → Bool → List OpItem → List Owned
ops_owned component is_local ops = map (λ op. owned component is_local (op_item_name op)) ops

-- a semaphore is an operation
abbrev pub sems_owned : Spot → Bool → List Semaphore → List Owned
sems_owned component is_local semaphores = map (λ semaphore. owned component is_local semaphore.name) semaphores

abbrev pub spec_item_owned : Spot → SpecItem → List Owned
spec_item_owned component (spec.Op operations) = ops_owned component false operations.items
spec_item_owned component (spec.Sem semaphores) = sems_owned component false semaphores.semaphores
spec_item_owned component _ = []

abbrev pub inner_owned : Spot → ProcItem → List Owned
inner_owned component (inner.Op operations) = ops_owned component true operations.items
inner_owned component (inner.Sem semaphores) = sems_owned component true semaphores.semaphores
inner_owned component _ = []

abbrev pub block_owned : Spot → List ProcItem → List Owned
block_owned component block = flat_map (inner_owned component) block

-- a procedure and a process are operations of their component
abbrev pub item_owned : Spot → Item → List Owned
item_owned component (item.Spec inner) = spec_item_owned component inner
item_owned component (item.Proc proc) = block_owned component proc.block
item_owned component (item.Procedure procedure) = owned component false procedure.name ∷ block_owned component procedure.block
item_owned component (item.Process process) = owned component false process.name ∷ block_owned component process.block
item_owned component (item.Final final) = block_owned component final.block
item_owned component (item.Statement statement) = []

-- where the name of a component stands
abbrev pub component_at : Component → Spot
component_at component = spot_of (name_of component).span

abbrev pub component_owned : Component → List Owned
component_owned component =
    flat_map (spec_item_owned (component_at component)) (spec_of component) ++ flat_map (item_owned (component_at component)) (body_of component)

abbrev pub file_owned : File → List Owned
file_owned file = flat_map component_owned file.components

-- all operations that are declared, in the order of the text
abbrev pub declared_operations : List File → List Owned
declared_operations files = flat_map file_owned files

-- an operation is declared at a spot, in a component whose name stands at another, in a block of a proc or not
abbrev pub Declared : List File → Spot → Spot → Bool → Type 0
Declared files spot component is_local = Contains (declared_operations files) (spot, (component, is_local))

-- each operation that facts know is declared
abbrev pub Known : List File → Facts → Type 0
Known files facts =
    (spot component : Spot) (is_local : Bool) (ty : Ty) → info_at facts.infos spot ≡ Some (info.Operation ty component is_local)
    → Declared files spot component is_local

-- each operation of a component that facts know was known before
abbrev pub KnowsShared : Facts → Facts → Type 0
KnowsShared before facts =
    (spot component : Spot) (ty : Ty) → info_at facts.infos spot ≡ Some (info.Operation ty component false)
    → info_at before.infos spot ≡ Some (info.Operation ty component false)
