-- The operations that the items of a component serve, and those that are declared in their blocks.
use Rattle.std.specs.Prelude.{◌≡◌, List, [], ◌∷◌, Some, flat_map}
use Rattle.std.specs.List.{AllByRecursion}
use Rattle.sr_names.specs.declared.meaning.Decl.{Decl}
use Rattle.sr_names.specs.declared.meaning.Meaning.TheVariants.{Declared}
use Rattle.sr_names.specs.declared.meaning.Sort.TheVariants.{Operation}
use Rattle.sr_names.specs.declared.spot.Spot.{Spot}
use Rattle.sr_names.specs.Noted.{Meanings}
use Rattle.sr_names.specs.Spots.{spot_of}
use Rattle.sr_names.specs.Uses.{meaning_at}
use Rattle.sr_order.specs.Spans.{block_operations}
use Rattle.sr_tree.specs.declared.component.Component.{Component}
use Rattle.sr_tree.specs.declared.component.File.{File}
use Rattle.sr_tree.specs.declared.component.Item.{Item}
use Rattle.sr_tree.specs.declared.component.Item.TheVariants.{Spec, Proc, Procedure, Process, Final, Statement}
use Rattle.sr_tree.specs.declared.name.Name.{Name}
use Rattle.sr_tree.specs.Parts.{body_of}
use Rattle.sr_value.specs.declared.place.Span.{Span}

-- the operation that an item serves, where `meant` is what the names of procs mean: a procedure and a process declare theirs
abbrev pub item_serves : (Name → Spot) → Item → List Spot
item_serves meant (Proc proc) = meant proc.name ∷ []
item_serves meant (Procedure procedure) = spot_of procedure.name.span ∷ []
item_serves meant (Process process) = spot_of process.name.span ∷ []
item_serves meant (Spec item) = []
item_serves meant (Final final) = []
item_serves meant (Statement statement) = []

-- a name that is used means an operation, which is declared at this spot
abbrev pub MeansOperation : Meanings → Name → Spot → Type 0
MeansOperation uses name spot = (decl : Decl) × (meaning_at uses (spot_of name.span) ≡ Some (Declared decl)) × (decl.sort ≡ Operation) × (decl.spot ≡ spot)

-- the name of a proc means an operation
abbrev pub ItemMeansOperation : Meanings → (Name → Spot) → Item → Type 0
ItemMeansOperation uses meant (Proc proc) = MeansOperation uses proc.name (meant proc.name)
ItemMeansOperation uses meant (Procedure procedure) = Unit {0}
ItemMeansOperation uses meant (Process process) = Unit {0}
ItemMeansOperation uses meant (Spec item) = Unit {0}
ItemMeansOperation uses meant (Final final) = Unit {0}
ItemMeansOperation uses meant (Statement statement) = Unit {0}

abbrev pub AllMeanOperations : Meanings → (Name → Spot) → List Item → Type 0
AllMeanOperations uses meant items = AllByRecursion (ItemMeansOperation uses meant) items

-- ---- operations in blocks

-- where the operations stand that are declared in the block of an item
abbrev pub inner_operations_of : Item → List Span
inner_operations_of (Proc proc) = block_operations proc.block
inner_operations_of (Procedure procedure) = block_operations procedure.block
inner_operations_of (Process process) = block_operations process.block
inner_operations_of (Final final) = block_operations final.block
inner_operations_of (Spec item) = []
inner_operations_of (Statement statement) = []

abbrev pub locals_of : Component → List Span
locals_of component = flat_map inner_operations_of (body_of component)

abbrev pub locals_in : List File → List Span
locals_in files = flat_map (λ file. flat_map locals_of file.components) files
