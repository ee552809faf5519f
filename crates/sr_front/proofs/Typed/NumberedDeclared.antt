-- All that is declared outside of code has numbers: the operations of each type that is known have a signature in the table,
-- whether rules are broken or not.
use Rattle.std.proofs.Common.{◌+◌, Bool, true, false, List, [], ◌∷◌, map, Option, Some, None, if◌then◌else◌}
use Rattle.std.specs.Prelude.{ℕ}
use Rattle.sr_names.specs.declared.spot.Spot.{Spot}
use Rattle.sr_names.specs.Noted.{Meanings}
use Rattle.sr_names.specs.Specs.{Specs}
use Rattle.sr_names.specs.Spots.{spot_of}
use Rattle.sr_tree.specs.declared.component.Component.{Component}
use Rattle.sr_tree.specs.declared.component.File.{File}
use Rattle.sr_tree.specs.declared.component.Item.{Item}
use Rattle.sr_tree.specs.declared.component.Item.TheVariants as item
use Rattle.sr_tree.specs.declared.component.SpecItem.{SpecItem}
use Rattle.sr_tree.specs.declared.component.SpecItem.TheVariants as spec
use Rattle.sr_tree.specs.declared.declaration.ConstDecl.{ConstDecl}
use Rattle.sr_tree.specs.declared.declaration.OpItem.{OpItem}
use Rattle.sr_tree.specs.declared.declaration.OpItem.TheVariants.{Signed as OfSignature, Typed as OfType}
use Rattle.sr_tree.specs.declared.declaration.Semaphore.{Semaphore}
use Rattle.sr_tree.specs.declared.declaration.TypeDecl.{TypeDecl}
use Rattle.sr_tree.specs.declared.declaration.VarDecl.{VarDecl}
use Rattle.sr_tree.specs.declared.name.Name.{Name}
use Rattle.sr_tree.specs.declared.statement.Quantifier.{Quantifier}
use Rattle.sr_tree.specs.declared.types.Decl.{Decl as DeclTree}
use Rattle.sr_tree.specs.declared.types.Formal.{Formal}
use Rattle.sr_tree.specs.declared.types.Returned.{Returned}
use Rattle.sr_tree.specs.declared.types.Signature.{Signature as SignatureTree}
use Rattle.sr_tree.specs.declared.types.TypeTree.{TypeTree, out-TypeTree}
use Rattle.sr_tree.specs.declared.types.TypeTree.TheOpen.{TypeTree-F}
use Rattle.sr_tree.specs.Nested.{types_within}
use Rattle.sr_tree.specs.Parts.{body_of, formals_of, name_of, spec_of}
use Rattle.sr_types.specs.declared.signature.Param.{Param}
use Rattle.sr_types.specs.declared.signature.Signature.{Signature}
use Rattle.sr_types.specs.declared.ty.Ty.{Ty}
use Rattle.sr_types.specs.declared.ty.Ty.TheVariants as ty
use Rattle.sr_types.specs.declared.typed.Typed.{Typed}
use Rattle.sr_types.specs.Types.{is_of_nulls}
use Rattle.sr_check_expr.specs.declared.facts.Facts.{Facts}
use Rattle.sr_check_expr.specs.declared.info.Info.{Info}
use Rattle.sr_check_expr.specs.declared.info.Info.TheVariants as info
use Rattle.sr_check_expr.specs.Exprs.{infer_expr}
use Rattle.sr_check_expr.specs.Infos.{type_spot}
use Rattle.sr_check_expr.specs.Naming.{decl_info}
use Rattle.sr_check_decl.specs.declared.kind.NamedParam.{NamedParam}
use Rattle.sr_check_decl.specs.declared.tally.Tally.{Tally}
use Rattle.sr_check_decl.specs.Constants.{const_of, const_type, type_of_value, written_kind}
use Rattle.sr_check_decl.specs.Declaring.{at_facts, component_declared, component_formals, component_typed, components_declared, components_named, const_declared, declared_if, field_info, fields_of, files_declared, files_named, head_declared, item_declared, items_declared, layer_declared, literal_info, literals_declared, making, no_facts, op_item_name, op_type, optype_of, or_untyped, ops_declared, params_declared, process_params, process_signature, program_declared, semaphore_signature, sems_declared, spec_item_declared, spec_items_declared, standing, type_declared, types_declared, untyped_vars_declared, var_declared, var_declared_by}
use Rattle.sr_check_decl.specs.Entering.{entered, formals_entered, ops_entered, signature_entered, signed_entered, type_entered, written_entered}
use Rattle.sr_check_decl.specs.Parts.{component_decl}
use Rattle.sr_check_decl.specs.TypeTrees.{fixed_bounds, free_bounds, named_decl, signature_read, signature_type, type_kinding}
use Rattle.sr_check_decl.specs.Variables.{declare, variable, vars_declared}
use Rattle.sr_check.proofs.Each.{Each, each-weaker}
use Rattle.sr_front.proofs.Typed.NumberedGrows.{declared_numbered, entered_numbered, found_numbered, standing_numbered}
use Rattle.sr_front.proofs.Typed.NumberedReads.{by_numbers, decl_found_numbered}
use Rattle.sr_front.proofs.Typed.NumberedTypes.{AllNumbered, FieldsNumbered, FoundNumbered, IsNumbered, untyped_numbered, numbered_test, expr_numbered}
use Rattle.sr_front.proofs.Typed.PassingParts.{ParamsPass}
use Rattle.sr_front.proofs.Typed.PassingReads.{decl_passes, formals_entered_so, formals_so, kinding_so, signature_entered_so, signed_entered_so, signed_lifts, signed_type_so, type_entered_so}
use Rattle.sr_front.proofs.Typed.PassingTypes.{enum_passes, int_passes}

-- ---- constants and variables

pub value_numbered : (table : List Signature) (type : Ty) → IsNumbered table type → IsNumbered table (type_of_value type)
value_numbered table type numbered = by (is_of_nulls type)
  where
    by : (nulls : Bool) → IsNumbered table (if nulls then ty.Untyped else type)
    by true = untyped_numbered table
    by false = numbered

written_numbered : (type : Option TypeTree) (facts : Facts) → AllNumbered facts → AllNumbered (written_entered type facts)
written_numbered None facts all = all
written_numbered (Some tree) facts all = type_entered_so by_numbers tree facts all

constant_type : (type : Option TypeTree) (facts : Facts) (value : Ty) → AllNumbered facts → IsNumbered facts.signatures value → IsNumbered facts.signatures (const_type (written_kind facts type) value)
constant_type None facts value all numbered = value_numbered facts.signatures value numbered
constant_type (Some tree) facts value all numbered = kinding_so by_numbers facts all tree fixed_bounds

declared_so : (b : Bool) (name : Name) (typed : Typed) (facts : Facts) → IsNumbered facts.signatures typed.ty → AllNumbered facts → AllNumbered (declared_if b name typed facts)
declared_so true name typed facts numbered all = declared_numbered facts (spot_of name.span) (info.Value typed) (numbered, tt) all
declared_so false name typed facts numbered all = all

const_numbered : (in_spec : Bool) (constant : ConstDecl) (facts : Facts) → AllNumbered facts → AllNumbered (const_declared in_spec constant facts)
const_numbered in_spec constant facts all =
    let after = written_entered constant.ty facts in
    let known = written_numbered constant.ty facts all in
    declared_so _ constant.name (const_of in_spec after constant) after
    (constant_type constant.ty after (infer_expr constant.value after).typed_expr.typed.ty known (expr_numbered after known constant.value)) known

vars_numbered : (type : Ty) (decls : List DeclTree) (facts : Facts) → IsNumbered facts.signatures type → AllNumbered facts → AllNumbered (vars_declared type decls facts)
vars_numbered type [] facts numbered all = all
vars_numbered type (decl ∷ decls) facts numbered all =
    vars_numbered type decls (declare facts (spot_of decl.name.span) (variable _)) numbered
    (declared_numbered facts (spot_of decl.name.span) (variable _) (decl_passes by_numbers facts.signatures decl.dims type numbered, tt) all)

untyped_so : (b : Bool) (decls : List DeclTree) (facts : Facts) → AllNumbered facts → AllNumbered (untyped_vars_declared b decls facts)
untyped_so true decls facts all = all
untyped_so false decls facts all = vars_numbered ty.Untyped decls facts (untyped_numbered facts.signatures) all

var_by : (type : Option TypeTree) (variables : VarDecl) (facts : Facts) → AllNumbered facts → AllNumbered (var_declared_by type variables facts)
var_by None variables facts all = untyped_so _ variables.decls facts all
var_by (Some tree) variables facts all = vars_numbered (type_kinding tree facts free_bounds).kind.ty variables.decls facts (kinding_so by_numbers facts all tree free_bounds) all

var_numbered : (variables : VarDecl) (facts : Facts) → AllNumbered facts → AllNumbered (var_declared variables facts)
var_numbered variables facts all = var_by variables.ty variables (written_entered variables.ty facts) (written_numbered variables.ty facts all)

-- ---- types

literals_numbered : (spot : Spot) (number index : ℕ) (names : List Name) (facts : Facts) → AllNumbered facts → AllNumbered (literals_declared spot number index names facts)
literals_numbered spot number index [] facts all = all
literals_numbered spot number index (name ∷ names) facts all =
    literals_numbered spot number (index + 1) names (declare facts (spot_of name.span) (literal_info spot number index))
    (declared_numbered facts (spot_of name.span) (literal_info spot number index) (enum_passes (numbered_test facts.signatures) (type_spot spot), tt) all)

fields_numbered : (table : List Signature) (params : List NamedParam) → ParamsPass (numbered_test table) params → FieldsNumbered table (map field_info params)
fields_numbered table [] each = tt
fields_numbered table (param ∷ params) each = (each.0, fields_numbered table params each.1)

layer_numbered : (layer : TypeTree-F TypeTree Formal Returned SignatureTree) (tally : Tally) → AllNumbered tally.facts → AllNumbered (layer_declared layer tally).facts
layer_numbered (TypeTree-F.Enum span literals) tally all = literals_numbered (spot_of span) tally.enumerations 0 literals _ (declared_numbered tally.facts (spot_of span) (info.Enumeration tally.enumerations _) tt all)
layer_numbered (TypeTree-F.Rec span fields) tally all =
    declared_numbered tally.facts (spot_of span) (info.Record (fields_of tally.facts fields)) (fields_numbered tally.facts.signatures _ (formals_so by_numbers tally.facts all fields true)) all
layer_numbered _ tally all = all

types_numbered : (trees : List TypeTree) (tally : Tally) → AllNumbered tally.facts → AllNumbered (types_declared trees tally).facts
types_numbered [] tally all = all
types_numbered (tree ∷ trees) tally all = types_numbered trees (layer_declared (out-TypeTree tree) tally) (layer_numbered (out-TypeTree tree) tally all)

type_numbered : (named : TypeDecl) (tally : Tally) → AllNumbered tally.facts → AllNumbered (type_declared named tally).facts
type_numbered named tally all =
    let entering = at_facts tally (type_entered named.ty tally.facts) in
    let written = types_declared (types_within named.ty) entering in
    let known = types_numbered (types_within named.ty) entering (type_entered_so by_numbers named.ty tally.facts all) in
    declared_numbered written.facts (spot_of named.name.span) (info.«Type» (type_kinding named.ty written.facts fixed_bounds).kind.ty) (kinding_so by_numbers written.facts known named.ty fixed_bounds) known

-- ---- operations

operation_so : (facts : Facts) (spot : Spot) (type : Ty) (component : Spot) (is_local : Bool) → IsNumbered facts.signatures type → AllNumbered facts → AllNumbered (declare facts spot (info.Operation type component is_local))
operation_so facts spot type component is_local numbered all = declared_numbered facts spot (info.Operation type component is_local) numbered all

written_so : (tree : SignatureTree) (facts : Facts) → IsNumbered facts.signatures (signature_type facts (signature_read tree facts).signed)
written_so tree facts = signed_type_so by_numbers facts (signature_read tree facts).signed

or_untyped_so : (table : List Signature) (found : Option Info) → FoundNumbered table found → IsNumbered table (or_untyped (optype_of found))
or_untyped_so table (Some (info.OpType type)) h = h
or_untyped_so table _ h = untyped_numbered table

op_so : (op : OpItem) (facts : Facts) → AllNumbered facts → IsNumbered facts.signatures (op_type facts op)
op_so (OfSignature span name signature) facts all = written_so signature facts
op_so (OfType span name optype) facts all = or_untyped_so facts.signatures (decl_info facts.infos (named_decl facts optype)) (decl_found_numbered facts all (named_decl facts optype))

ops_numbered : (ops : List OpItem) (facts : Facts) → AllNumbered facts → AllNumbered (ops_declared false ops facts)
ops_numbered [] facts all = all
ops_numbered (op ∷ ops) facts all = ops_numbered ops _ (operation_so facts (spot_of (op_item_name op).span) (op_type facts op) facts.here.component.spot false (op_so op facts all) all)

ops_entered_so : (ops : List OpItem) (facts : Facts) → AllNumbered facts → AllNumbered (ops_entered ops facts)
ops_entered_so [] facts all = all
ops_entered_so (OfSignature span name signature ∷ ops) facts all = ops_entered_so ops (signature_entered signature facts) (signature_entered_so by_numbers signature facts all)
ops_entered_so (OfType span name optype ∷ ops) facts all = ops_entered_so ops facts all

sems_numbered : (semaphores : List Semaphore) (facts : Facts) → AllNumbered facts → AllNumbered (sems_declared false semaphores facts)
sems_numbered [] facts all = all
sems_numbered (semaphore ∷ more) facts all =
    let after = entered semaphore_signature facts in
    sems_numbered more _ (operation_so after (spot_of semaphore.name.span) _ _ false (found_numbered after.signatures semaphore_signature) (entered_numbered facts semaphore_signature (record { params = tt; returns = tt }) all))

process_numbered : (table : List Signature) (quantifiers : List Quantifier) → Each (λ (param : Param). IsNumbered table param.ty) (process_params quantifiers)
process_numbered table [] = tt
process_numbered table (quantifier ∷ more) = (int_passes (numbered_test table), process_numbered table more)

-- ---- items

spec_numbered : (in_spec : Bool) (one : SpecItem) (tally : Tally) → AllNumbered tally.facts → AllNumbered (spec_item_declared in_spec one tally).facts
spec_numbered in_spec (spec.Import imports) tally all = all
spec_numbered in_spec (spec.Const constant) tally all = const_numbered in_spec constant tally.facts all
spec_numbered in_spec (spec.«Type» named) tally all = type_numbered named tally all
spec_numbered in_spec (spec.OpType named) tally all =
    let after = signature_entered named.signature tally.facts in
    declared_numbered after (spot_of named.name.span) (info.OpType (signature_type after (signature_read named.signature after).signed)) (written_so named.signature after) (signature_entered_so by_numbers named.signature tally.facts all)
spec_numbered in_spec (spec.Op operations) tally all = ops_numbered operations.items (ops_entered operations.items tally.facts) (ops_entered_so operations.items tally.facts all)
spec_numbered in_spec (spec.Var variables) tally all = var_numbered variables tally.facts all
spec_numbered in_spec (spec.Sem semaphores) tally all = sems_numbered semaphores.semaphores tally.facts all

item_numbered : (one : Item) (tally : Tally) → AllNumbered tally.facts → AllNumbered (item_declared one tally).facts
item_numbered (item.Spec inner) tally all = spec_numbered false inner tally all
item_numbered (item.Procedure procedure) tally all =
    let after = signature_entered procedure.signature tally.facts in
    operation_so after (spot_of procedure.name.span) _ _ false (written_so procedure.signature after) (signature_entered_so by_numbers procedure.signature tally.facts all)
item_numbered (item.Process process) tally all =
    let signature = process_signature process.quantifiers in
    let after = entered signature tally.facts in
    operation_so after (spot_of process.name.span) _ _ false (found_numbered after.signatures signature)
    (entered_numbered tally.facts signature (record { params = process_numbered tally.facts.signatures process.quantifiers; returns = tt }) all)
item_numbered _ tally all = all

specs_numbered : (items : List SpecItem) (tally : Tally) → AllNumbered tally.facts → AllNumbered (spec_items_declared items tally).facts
specs_numbered [] tally all = all
specs_numbered (one ∷ items) tally all = specs_numbered items (spec_item_declared true one tally) (spec_numbered true one tally all)

items_numbered : (items : List Item) (tally : Tally) → AllNumbered tally.facts → AllNumbered (items_declared items tally).facts
items_numbered [] tally all = all
items_numbered (one ∷ items) tally all = items_numbered items (item_declared one tally) (item_numbered one tally all)

-- ---- components

params_numbered : (params : List NamedParam) (facts : Facts) → ParamsPass (numbered_test facts.signatures) params → AllNumbered facts → AllNumbered (params_declared params facts)
params_numbered [] facts each all = all
params_numbered (param ∷ params) facts each all = params_numbered params (declare facts param.spot (variable param.ty)) each.1 (declared_numbered facts param.spot (variable param.ty) (each.0, tt) all)

head_numbered : (component : Component) (facts : Facts) → AllNumbered facts → AllNumbered (head_declared component facts)
head_numbered component facts all =
    let after = formals_entered (formals_of component) facts in
    let known = formals_entered_so by_numbers (formals_of component) facts all in
    let params = component_formals after (formals_of component) in
    let each = formals_so by_numbers after known (formals_of component) false in
    let signed = making params in
    let made = signed_entered signed after in
    let lifted = each-weaker (λ (param : NamedParam). IsNumbered after.signatures param.ty) (λ (param : NamedParam). IsNumbered made.signatures param.ty) (λ param. signed_lifts by_numbers after signed param.ty) params each in
    params_numbered params (component_typed (name_of component) signed made) lifted
    (declared_numbered made (spot_of (name_of component).span) (info.Component (signature_type made signed)) (signed_type_so by_numbers made signed) (signed_entered_so by_numbers after signed (record { params = each; returned = tt }) known))

component_numbered : (component : Component) (tally : Tally) → AllNumbered tally.facts → AllNumbered (component_declared component tally).facts
component_numbered component tally all =
    let start = at_facts tally (standing tally.facts (component_decl component)) in
    let specs = spec_items_declared (spec_of component) start in
    items_numbered (body_of component) (at_facts specs (head_declared component specs.facts))
    (head_numbered component specs.facts (specs_numbered (spec_of component) start (standing_numbered tally.facts (component_decl component) all)))

components_numbered : (components : List Component) (tally : Tally) → AllNumbered tally.facts → AllNumbered (components_declared components tally).facts
components_numbered [] tally all = all
components_numbered (one ∷ components) tally all = components_numbered components (component_declared one tally) (component_numbered one tally all)

files_numbered : (files : List File) (tally : Tally) → AllNumbered tally.facts → AllNumbered (files_declared files tally).facts
files_numbered [] tally all = all
files_numbered (file ∷ files) tally all = files_numbered files (components_declared file.components tally) (components_numbered file.components tally all)

named_numbered : (components : List Component) (facts : Facts) → AllNumbered facts → AllNumbered (components_named components facts)
named_numbered [] facts all = all
named_numbered (one ∷ components) facts all = named_numbered components _ (declared_numbered facts (spot_of (name_of one).span) (info.Component ty.Untyped) (untyped_numbered facts.signatures) all)

files_named_numbered : (files : List File) (facts : Facts) → AllNumbered facts → AllNumbered (files_named files facts)
files_named_numbered [] facts all = all
files_named_numbered (file ∷ files) facts all = files_named_numbered files (components_named file.components facts) (named_numbered file.components facts all)

-- all that is declared outside of code
pub numbered_declared : (uses : Meanings) (specs : Specs) (files : List File) → AllNumbered (program_declared uses specs files)
numbered_declared uses specs files =
    files_numbered files (record { facts = files_named files (no_facts uses specs); enumerations = 0 }) (files_named_numbered files (no_facts uses specs) (record { infos = λ spot. tt; signatures = λ number. tt }))
