-- What the declarations of components declare, before any statement is looked at.
-- Each is read where the signatures that are written in it have their numbers (`Entering`): `.._in` says what it declares
-- there.
use Rattle.std.specs.Prelude.{ℕ, ◌+◌, Bool, true, false, ◌||◌, List, [], ◌∷◌, Option, Some, None, is_some, map, length}
use Rattle.sr_value.specs.declared.place.Span.{Span}
use Rattle.sr_value.specs.declared.value.Value.TheVariants as value
use Rattle.sr_names.specs.declared.meaning.Decl.{Decl}
use Rattle.sr_names.specs.declared.spot.Spot.{Spot}
use Rattle.sr_names.specs.Spots.{spot_of}
use Rattle.sr_names.specs.declared.meaning.Sort.TheVariants.{Global}
use Rattle.sr_names.specs.Noted.{Meanings}
use Rattle.sr_names.specs.Specs.{Specs}
use Rattle.sr_tree.specs.declared.component.Component.{Component}
use Rattle.sr_tree.specs.declared.component.File.{File}
use Rattle.sr_tree.specs.declared.component.Item.{Item}
use Rattle.sr_tree.specs.declared.component.Item.TheVariants as item
use Rattle.sr_tree.specs.declared.component.Process.{Process}
use Rattle.sr_tree.specs.declared.component.SpecItem.{SpecItem}
use Rattle.sr_tree.specs.declared.component.SpecItem.TheVariants as spec
use Rattle.sr_tree.specs.declared.declaration.ConstDecl.{ConstDecl}
use Rattle.sr_tree.specs.declared.declaration.OpItem.{OpItem}
use Rattle.sr_tree.specs.declared.declaration.OpItem.TheVariants.{Signed as OfSignature, Typed as OfType}
use Rattle.sr_tree.specs.declared.declaration.Semaphore.{Semaphore}
use Rattle.sr_tree.specs.declared.declaration.TypeDecl.{TypeDecl}
use Rattle.sr_tree.specs.declared.declaration.OpTypeDecl.{OpTypeDecl}
use Rattle.sr_tree.specs.declared.declaration.VarDecl.{VarDecl}
use Rattle.sr_tree.specs.declared.name.Name.{Name}
use Rattle.sr_tree.specs.declared.statement.Quantifier.{Quantifier}
use Rattle.sr_tree.specs.declared.types.Decl.{Decl as DeclTree}
use Rattle.sr_tree.specs.declared.types.Formal.{Formal}
use Rattle.sr_tree.specs.declared.types.Signature.{Signature as SignatureTree}
use Rattle.sr_tree.specs.declared.types.TypeTree.{TypeTree, out-TypeTree}
use Rattle.sr_tree.specs.declared.types.TypeTree.TheOpen.{TypeTree-F}
use Rattle.sr_types.specs.declared.signature.Forms.TheVariants as forms
use Rattle.sr_types.specs.declared.signature.Mode.TheVariants as mode
use Rattle.sr_types.specs.declared.signature.Param.{Param}
use Rattle.sr_types.specs.declared.signature.Signature.{Signature}
use Rattle.sr_types.specs.declared.ty.Ty.{Ty}
use Rattle.sr_types.specs.declared.ty.Ty.TheVariants as ty
use Rattle.sr_types.specs.declared.typed.Static.TheVariants.{Known}
use Rattle.sr_types.specs.declared.typed.Typed.{Typed}
use Rattle.sr_types.specs.Outcomes.{computed}
use Rattle.sr_check_expr.specs.declared.facts.Facts.{Facts}
use Rattle.sr_check_expr.specs.declared.facts.Here.{Here}
use Rattle.sr_check_expr.specs.declared.info.FieldInfo.{FieldInfo}
use Rattle.sr_check_expr.specs.declared.info.Info.{Info}
use Rattle.sr_check_expr.specs.declared.info.Info.TheVariants as info
use Rattle.sr_check_expr.specs.Infos.{type_spot}
use Rattle.sr_check_expr.specs.Naming.{decl_info}
use Rattle.sr_check_decl.specs.declared.kind.NamedParam.{NamedParam}
use Rattle.sr_check_decl.specs.declared.kind.Signed.{Signed}
use Rattle.sr_check_decl.specs.declared.tally.Tally.{Tally}
use Rattle.sr_check_decl.specs.Constants.{const_of, is_static}
use Rattle.sr_check_decl.specs.Entering.{entered, signed_entered, type_entered, written_entered, formals_entered, signature_entered, ops_entered}
use Rattle.sr_check_decl.specs.Parts.{component_decl}
use Rattle.sr_tree.specs.Nested.{types_within}
use Rattle.sr_tree.specs.Parts.{name_of, spec_of, formals_of, body_of}
use Rattle.sr_check_decl.specs.TypeTrees.{free_bounds, fixed_bounds, type_kinding, formal_read, signature_read, signature_type, operation_type, formals_at, all_params, named_decl}
use Rattle.sr_check_decl.specs.Variables.{declare, variable, vars_declared, untyped_var_rule}

abbrev pub declare_name : Facts → Name → Info → Facts
declare_name facts name info = declare facts (spot_of name.span) info

-- ---- constants and variables

abbrev pub declared_if : Bool → Name → Typed → Facts → Facts
declared_if true name typed facts = declare_name facts name (info.Value typed)
declared_if false name typed facts = facts

-- a constant without a type is declared with its type and value where its value is known before the run, since types
-- may need it; others wait until the types of all that their values name are known
abbrev pub const_declared_in : Bool → ConstDecl → Facts → Facts
const_declared_in in_spec constant facts =
    declared_if (is_some constant.ty || is_static (const_of in_spec facts constant).value) constant.name (const_of in_spec facts constant) facts

abbrev pub const_declared : Bool → ConstDecl → Facts → Facts
const_declared in_spec constant facts = const_declared_in in_spec constant (written_entered constant.ty facts)

-- variables without a type wait for the type of their value, but where they can't have one
abbrev pub untyped_vars_declared : Bool → List DeclTree → Facts → Facts
untyped_vars_declared true decls facts = facts
untyped_vars_declared false decls facts = vars_declared ty.Untyped decls facts

abbrev pub var_declared_by : Option TypeTree → VarDecl → Facts → Facts
var_declared_by None variables facts = untyped_vars_declared (untyped_var_rule variables.decls variables.values) variables.decls facts
var_declared_by (Some tree) variables facts = vars_declared (type_kinding tree facts free_bounds).kind.ty variables.decls facts

abbrev pub var_declared : VarDecl → Facts → Facts
var_declared variables facts = var_declared_by variables.ty variables (written_entered variables.ty facts)

-- ---- types

abbrev pub literal_info : Spot → ℕ → ℕ → Info
literal_info spot number index = info.Value (computed (ty.Enum (type_spot spot)) (Known (value.Enum number index)))

-- the literals of an enumeration are static constants, numbered from 0
abbrev pub literals_declared : Spot → ℕ → ℕ → List Name → Facts → Facts
literals_declared spot number index [] facts = facts
literals_declared spot number index (name ∷ names) facts =
    literals_declared spot number (index + 1) names (declare_name facts name (literal_info spot number index))

-- an enumeration declares its literals too, and enumerations are counted through the program
abbrev pub enumeration_declared : Span → List Name → Tally → Tally
enumeration_declared span literals tally = record {
  facts = literals_declared (spot_of span) tally.enumerations 0 literals
      (declare tally.facts (spot_of span) (info.Enumeration tally.enumerations (length literals)));
  enumerations = tally.enumerations + 1;
}

abbrev pub field_info : NamedParam → FieldInfo
field_info param = record { name = param.name; ty = param.ty }

abbrev pub fields_of : Facts → List Formal → List FieldInfo
fields_of facts fields = map field_info (all_params (formals_at (map formal_read fields) facts true))

abbrev pub at_facts : Tally → Facts → Tally
at_facts tally facts = record tally { facts = facts }

abbrev pub layer_declared : {C D : Type 0} → TypeTree-F TypeTree Formal C D → Tally → Tally
layer_declared (TypeTree-F.Enum span literals) tally = enumeration_declared span literals tally
layer_declared (TypeTree-F.Rec span fields) tally = at_facts tally (declare tally.facts (spot_of span) (info.Record (fields_of tally.facts fields)))
layer_declared _ tally = tally

-- enumerations and records, one after the other
abbrev pub types_declared : List TypeTree → Tally → Tally
types_declared [] tally = tally
types_declared (tree ∷ trees) tally = types_declared trees (layer_declared (out-TypeTree tree) tally)

abbrev pub name_declared : TypeDecl → Tally → Tally
name_declared named tally = at_facts tally (declare_name tally.facts named.name (info.«Type» (type_kinding named.ty tally.facts fixed_bounds).kind.ty))

-- what is written in the type is declared where it stands, and then the name of the type
abbrev pub type_declared : TypeDecl → Tally → Tally
type_declared named tally = name_declared named (types_declared (types_within named.ty) (at_facts tally (type_entered named.ty tally.facts)))

-- the type of the operations of a signature as it is written
abbrev pub written_type : SignatureTree → Facts → Ty
written_type signature facts = signature_type facts (signature_read signature facts).signed

abbrev pub optype_declared_in : OpTypeDecl → Facts → Facts
optype_declared_in named facts = declare_name facts named.name (info.OpType (written_type named.signature facts))

abbrev pub optype_declared : OpTypeDecl → Facts → Facts
optype_declared named facts = optype_declared_in named (signature_entered named.signature facts)

-- ---- operations

abbrev pub operation : Facts → Bool → Ty → Info
operation facts is_local ty = info.Operation ty facts.here.component.spot is_local

abbrev pub optype_of : Option Info → Option Ty
optype_of (Some (info.OpType ty)) = Some ty
optype_of _ = None

abbrev pub or_untyped : Option Ty → Ty
or_untyped None = ty.Untyped
or_untyped (Some ty) = ty

-- the type of an operation by its signature, or by the name of one
abbrev pub op_type : Facts → OpItem → Ty
op_type facts (OfSignature span name signature) = written_type signature facts
op_type facts (OfType span name optype) = or_untyped (optype_of (decl_info facts.infos (named_decl facts optype)))

abbrev pub op_item_name : OpItem → Name
op_item_name (OfSignature span name signature) = name
op_item_name (OfType span name optype) = name

abbrev pub ops_declared : Bool → List OpItem → Facts → Facts
ops_declared is_local [] facts = facts
ops_declared is_local (op ∷ ops) facts = ops_declared is_local ops (declare_name facts (op_item_name op) (operation facts is_local (op_type facts op)))

-- an operation of a signature that isn't written
abbrev pub operation_declared : Bool → Name → Signature → Facts → Facts
operation_declared is_local name signature facts = declare_name facts name (operation facts is_local (operation_type facts signature))

-- a semaphore is an operation without formals that may be sent to alone
abbrev pub semaphore_signature : Signature
semaphore_signature = record { params = []; returns = None; forms = forms.Send }

abbrev pub semaphore_declared : Bool → Name → Facts → Facts
semaphore_declared is_local name facts = operation_declared is_local name semaphore_signature (entered semaphore_signature facts)

abbrev pub sems_declared : Bool → List Semaphore → Facts → Facts
sems_declared is_local [] facts = facts
sems_declared is_local (semaphore ∷ more) facts = sems_declared is_local more (semaphore_declared is_local semaphore.name facts)

-- a process is an operation that may be sent to alone, and takes an int for each of its quantifiers
abbrev pub process_params : List Quantifier → List Param
process_params [] = []
process_params (quantifier ∷ more) = record { mode = mode.Val; ty = ty.Int } ∷ process_params more

abbrev pub process_signature : List Quantifier → Signature
process_signature quantifiers = record { params = process_params quantifiers; returns = None; forms = forms.Send }

abbrev pub process_declared : Process → Facts → Facts
process_declared process facts =
    operation_declared false process.name (process_signature process.quantifiers) (entered (process_signature process.quantifiers) facts)

abbrev pub procedure_declared_in : Name → SignatureTree → Facts → Facts
procedure_declared_in name signature facts = declare_name facts name (operation facts false (written_type signature facts))

abbrev pub procedure_declared : Name → SignatureTree → Facts → Facts
procedure_declared name signature facts = procedure_declared_in name signature (signature_entered signature facts)

-- ---- items

abbrev pub spec_item_declared : Bool → SpecItem → Tally → Tally
spec_item_declared in_spec (spec.Import imports) tally = tally
spec_item_declared in_spec (spec.Const constant) tally = at_facts tally (const_declared in_spec constant tally.facts)
spec_item_declared in_spec (spec.«Type» named) tally = type_declared named tally
spec_item_declared in_spec (spec.OpType named) tally = at_facts tally (optype_declared named tally.facts)
spec_item_declared in_spec (spec.Op operations) tally = at_facts tally (ops_declared false operations.items (ops_entered operations.items tally.facts))
spec_item_declared in_spec (spec.Var variables) tally = at_facts tally (var_declared variables tally.facts)
spec_item_declared in_spec (spec.Sem semaphores) tally = at_facts tally (sems_declared false semaphores.semaphores tally.facts)

abbrev pub item_declared : Item → Tally → Tally
item_declared (item.Spec inner) tally = spec_item_declared false inner tally
item_declared (item.Procedure procedure) tally = at_facts tally (procedure_declared procedure.name procedure.signature tally.facts)
item_declared (item.Process process) tally = at_facts tally (process_declared process tally.facts)
item_declared _ tally = tally

abbrev pub spec_items_declared : List SpecItem → Tally → Tally
spec_items_declared [] tally = tally
spec_items_declared (inner ∷ more) tally = spec_items_declared more (spec_item_declared true inner tally)

abbrev pub items_declared : List Item → Tally → Tally
items_declared [] tally = tally
items_declared (inner ∷ more) tally = items_declared more (item_declared inner tally)

-- ---- components

abbrev pub params_declared : List NamedParam → Facts → Facts
params_declared [] facts = facts
params_declared (param ∷ params) facts = params_declared params (declare facts param.spot (variable param.ty))

-- what makes an instance takes arguments like an operation of these formals
abbrev pub making : List NamedParam → Signed
making params = record { params = params; returned = None; forms = forms.Both }

abbrev pub standing : Facts → Decl → Facts
standing facts component = record facts { here = record { component = component; in_guard = false } }

abbrev pub component_formals : Facts → List Formal → List NamedParam
component_formals facts formals = all_params (formals_at (map formal_read formals) facts false)

abbrev pub component_typed : Name → Signed → Facts → Facts
component_typed name signed facts = declare_name facts name (info.Component (signature_type facts signed))

abbrev pub with_formals : Name → List NamedParam → Facts → Facts
with_formals name params facts = params_declared params (component_typed name (making params) (signed_entered (making params) facts))

abbrev pub head_declared_in : Component → Facts → Facts
head_declared_in component facts = with_formals (name_of component) (component_formals facts (formals_of component)) facts

abbrev pub head_declared : Component → Facts → Facts
head_declared component facts = head_declared_in component (formals_entered (formals_of component) facts)

abbrev pub after_spec : Component → Tally → Tally
after_spec component tally = items_declared (body_of component) (at_facts tally (head_declared component tally.facts))

-- a component declares the names of its spec, its formals, and the names of its body
abbrev pub component_declared : Component → Tally → Tally
component_declared component tally =
    after_spec component (spec_items_declared (spec_of component) (at_facts tally (standing tally.facts (component_decl component))))

abbrev pub components_declared : List Component → Tally → Tally
components_declared [] tally = tally
components_declared (component ∷ more) tally = components_declared more (component_declared component tally)

abbrev pub files_declared : List File → Tally → Tally
files_declared [] tally = tally
files_declared (file ∷ files) tally = files_declared files (components_declared file.components tally)

-- a component may be named before it stands
abbrev pub components_named : List Component → Facts → Facts
components_named [] facts = facts
components_named (component ∷ more) facts = components_named more (declare_name facts (name_of component) (info.Component ty.Untyped))

abbrev pub files_named : List File → Facts → Facts
files_named [] facts = facts
files_named (file ∷ files) facts = files_named files (components_named file.components facts)

abbrev pub nowhere : Here
nowhere = record { component = record { sort = Global; spot = record { file = 0; from = 0 } }; in_guard = false }

abbrev pub no_facts : Meanings → Specs → Facts
no_facts uses specs = record { uses = uses; specs = specs; infos = []; signatures = []; here = nowhere }

-- all that is declared outside of procs and blocks, as far as it has a type of its own
abbrev pub program_declared : Meanings → Specs → List File → Facts
program_declared uses specs files = (files_declared files (record { facts = files_named files (no_facts uses specs); enumerations = 0 })).facts
