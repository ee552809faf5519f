-- What it means that what stands at the head of an operation is what is declared of it: an operation, a type of operations and
-- what makes an instance are known by the type that their heads make, and this type has a signature. The check doesn't look at
-- this: where it finds no broken rule, it holds (HeadsPass outside of blocks, LocalHeads in blocks).
use Rattle.std.specs.Prelude.{Bool, false, ◌&&◌, List, [], ◌∷◌, ◌++◌, Option, Some, None, is_some}
use Rattle.sr_names.specs.declared.finding.Finding.{Finding}
use Rattle.sr_names.specs.declared.finding.Rule.TheVariants.{BadType}
use Rattle.sr_names.specs.Noted.{Meanings}
use Rattle.sr_names.specs.Specs.{Specs}
use Rattle.sr_names.specs.Spots.{spot_of}
use Rattle.sr_tree.specs.declared.component.Component.{Component}
use Rattle.sr_tree.specs.declared.component.File.{File}
use Rattle.sr_tree.specs.declared.component.Item.{Item}
use Rattle.sr_tree.specs.declared.component.Item.TheVariants as item
use Rattle.sr_tree.specs.declared.component.SpecItem.{SpecItem}
use Rattle.sr_tree.specs.declared.component.SpecItem.TheVariants as spec
use Rattle.sr_tree.specs.declared.declaration.OpItem.{OpItem}
use Rattle.sr_tree.specs.declared.declaration.Semaphore.{Semaphore}
use Rattle.sr_tree.specs.declared.name.Name.{Name}
use Rattle.sr_tree.specs.Parts.{name_of, spec_of, formals_of, body_of}
use Rattle.sr_types.specs.declared.ty.Ty.{Ty}
use Rattle.sr_types.specs.Equality.{same_type}
use Rattle.sr_types.specs.Signatures.{signature_of}
use Rattle.sr_check_expr.specs.declared.facts.Facts.{Facts}
use Rattle.sr_check_expr.specs.declared.info.Info.{Info}
use Rattle.sr_check_expr.specs.declared.info.Info.TheVariants as info
use Rattle.sr_check_expr.specs.Infos.{info_at}
use Rattle.sr_check_expr.specs.Typings.{broken_unless}
use Rattle.sr_check_decl.specs.Declaring.{component_formals, making, op_item_name, op_type, process_signature, semaphore_signature, written_type}
use Rattle.sr_check_decl.specs.Inferring.{program_known}
use Rattle.sr_check_decl.specs.TypeTrees.{operation_type, signature_type}

-- the type of operations that is declared
abbrev pub declared_type : Option Info → Option Ty
declared_type (Some (info.Operation ty component is_local)) = Some ty
declared_type (Some (info.OpType ty)) = Some ty
declared_type (Some (info.Component formals)) = Some formals
declared_type _ = None

abbrev pub is_of : Ty → Option Ty → Bool
is_of ty None = false
is_of ty (Some declared) = same_type ty declared

abbrev pub is_known_as : Facts → Name → Ty → Bool
is_known_as facts name ty = is_some (signature_of facts.signatures ty) && is_of ty (declared_type (info_at facts.infos (spot_of name.span)))

abbrev pub head_found : Facts → Name → Ty → List Finding
head_found facts name ty = broken_unless (is_known_as facts name ty) BadType name.span

-- ---- operations

abbrev pub ops_headed : Facts → List OpItem → List Finding
ops_headed facts [] = []
ops_headed facts (op ∷ ops) = head_found facts (op_item_name op) (op_type facts op) ++ ops_headed facts ops

abbrev pub sems_headed : Facts → List Semaphore → List Finding
sems_headed facts [] = []
sems_headed facts (semaphore ∷ more) = head_found facts semaphore.name (operation_type facts semaphore_signature) ++ sems_headed facts more

-- ---- components

abbrev pub spec_item_headed : Facts → SpecItem → List Finding
spec_item_headed facts (spec.OpType named) = head_found facts named.name (written_type named.signature facts)
spec_item_headed facts (spec.Op operations) = ops_headed facts operations.items
spec_item_headed facts (spec.Sem semaphores) = sems_headed facts semaphores.semaphores
spec_item_headed facts _ = []

abbrev pub spec_items_headed : Facts → List SpecItem → List Finding
spec_items_headed facts [] = []
spec_items_headed facts (inner ∷ more) = spec_item_headed facts inner ++ spec_items_headed facts more

abbrev pub item_headed : Facts → Item → List Finding
item_headed facts (item.Spec inner) = spec_item_headed facts inner
item_headed facts (item.Procedure procedure) = head_found facts procedure.name (written_type procedure.signature facts)
item_headed facts (item.Process process) = head_found facts process.name (operation_type facts (process_signature process.quantifiers))
item_headed facts _ = []

abbrev pub items_headed : Facts → List Item → List Finding
items_headed facts [] = []
items_headed facts (inner ∷ more) = item_headed facts inner ++ items_headed facts more

-- the type of what makes an instance
abbrev pub making_type : Facts → Component → Ty
making_type facts component = signature_type facts (making (component_formals facts (formals_of component)))

abbrev pub component_headed : Facts → Component → List Finding
component_headed facts component =
    head_found facts (name_of component) (making_type facts component) ++ (spec_items_headed facts (spec_of component) ++ items_headed facts (body_of component))

abbrev pub components_headed : Facts → List Component → List Finding
components_headed facts [] = []
components_headed facts (component ∷ more) = component_headed facts component ++ components_headed facts more

abbrev pub files_headed : Facts → List File → List Finding
files_headed facts [] = []
files_headed facts (file ∷ files) = components_headed facts file.components ++ files_headed facts files

-- those of a program, by all that is known before code is read
abbrev pub heads_found : Meanings → Specs → List File → List Finding
heads_found uses specs files = files_headed (program_known uses specs files) files
