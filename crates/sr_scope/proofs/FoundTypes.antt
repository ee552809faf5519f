-- The uses that are found in types and declarations are of the names in them.
use Rattle.std.proofs.Common.{subst, List, [], ◌∷◌, ◌++◌, Option, Some, None, map, flat_map, append_assoc}
use Rattle.sr_value.specs.declared.place.Span.{Span}
use Rattle.sr_names.specs.declared.meaning.Sort.TheVariants.{Variable, Quantifier as quantifier_sort}
use Rattle.sr_names.specs.declared.place.Blocks.{Blocks}
use Rattle.sr_names.specs.declared.place.Place.{Place}
use Rattle.sr_names.specs.Entries.{Entries}
use Rattle.sr_tree.specs.declared.declaration.ConstDecl.{ConstDecl}
use Rattle.sr_tree.specs.declared.declaration.OpItem.{OpItem}
use Rattle.sr_tree.specs.declared.declaration.OpItem.TheVariants as op
use Rattle.sr_tree.specs.declared.declaration.Semaphore.{Semaphore}
use Rattle.sr_tree.specs.declared.declaration.VarDecl.{VarDecl}
use Rattle.sr_tree.specs.declared.statement.Quantifier.{Quantifier}
use Rattle.sr_tree.specs.declared.types.Decl.{Decl}
use Rattle.sr_tree.specs.declared.types.DimsTree.{DimsTree}
use Rattle.sr_tree.specs.declared.types.Formal.{Formal}
use Rattle.sr_tree.specs.declared.types.RangeTree.{RangeTree}
use Rattle.sr_tree.specs.declared.types.RangeTree.TheVariants as range
use Rattle.sr_tree.specs.declared.types.Signature.{Signature}
use Rattle.sr_tree.specs.declared.types.TypeTree.{TypeTree}
use Rattle.sr_tree.specs.declared.types.TypeTree.TheOpen.{TypeTree-F}
use Rattle.sr_order.specs.Names.{where_some, expr_names, range_names, dims_names, decl_names, type_names, formal_names, signature_names, const_names, op_item_names, var_names, semaphore_names, quantifier_names}
use Rattle.sr_order.specs.Spans.{joined}
use Rattle.sr_scope.specs.Declarations.{const_found, var_found, semaphores_found, op_item_found, op_items_found, quantifier_found, quantifiers_found, with_quantifier}
use Rattle.sr_scope.specs.Declares.{names_declared}
use Rattle.sr_scope.specs.Types.{Formals, Signed, range_found, maybe_range_found, dims_found, maybe_dims_found, decls_found, formals_found, maybe_found, formals_declared, formals_twice, maybe_twice, signed_twice, signed_found, type_found, formal_read, signature_read, maybe_type_found}
use Rattle.sr_tree.proofs.TypeFolds.{FormalFits, FormalNode, KnownFormal, KnownReturned, Layers, Related, ReturnedFits, ReturnedNode, SignatureFits, SignatureNode, TypeFits, TypeNode, bare_signature, formal_related, signature_layer, signature_related, type_related}
use Rattle.sr_order.proofs.NameFolds.{type_naming}
use Rattle.sr_scope.proofs.FoundFolds.{type_finding}
use Rattle.sr_scope.proofs.Among.{Among, nothing, both, besides, after_one, regrouped}
use Rattle.sr_scope.proofs.FoundExprs.{Good, expr_among, maybe_expr_among, exprs_among, qualified_among, names_twice_among, twice_among}

-- ---- bounds

range_among : (tree : RangeTree) (place : Place) (blocks : Blocks) → Among (range_found tree place blocks) (range_names tree)
range_among (range.Length span length) place blocks = expr_among length place blocks
range_among (range.Bounds span low high) place blocks = both (expr_among low place blocks) (expr_among high place blocks)
range_among (range.From span low) place blocks = expr_among low place blocks
range_among (range.Any span) place blocks = nothing

maybe_range_among : (tree : Option RangeTree) (place : Place) (blocks : Blocks) → Among (maybe_range_found tree place blocks) (where_some range_names tree)
maybe_range_among None place blocks = nothing
maybe_range_among (Some tree) place blocks = range_among tree place blocks

dims_among : (dims : DimsTree) (place : Place) (blocks : Blocks) → Among (dims_found dims place blocks) (dims_names dims)
dims_among dims place blocks = both (range_among dims.first place blocks) (maybe_range_among dims.second place blocks)

maybe_dims_among : (dims : Option DimsTree) (place : Place) (blocks : Blocks) → Among (maybe_dims_found dims place blocks) (where_some dims_names dims)
maybe_dims_among None place blocks = nothing
maybe_dims_among (Some dims) place blocks = dims_among dims place blocks

decl_among : (decl : Decl) (place : Place) (blocks : Blocks) → Among (maybe_dims_found decl.dims place blocks) (decl_names decl)
decl_among decl place blocks = after_one decl.name.span (maybe_dims_among decl.dims place blocks)

pub decls_among : (decls : List Decl) (place : Place) (blocks : Blocks) → Among (decls_found decls place blocks) (flat_map decl_names decls)
decls_among [] place blocks = nothing
decls_among (decl ∷ decls) place blocks = both (decl_among decl place blocks) (decls_among decls place blocks)

-- ---- what is declared twice is no use

pub formals_twice_among : (formals : List Formals) (table : Entries) → Among (formals_twice formals table) []
formals_twice_among [] table = nothing
formals_twice_among (formal ∷ formals) table =
    besides (names_twice_among Variable formal.names table) (formals_twice_among formals (names_declared Variable formal.names table))

maybe_twice_among : (formals : Option Formals) (table : Entries) → Among (maybe_twice formals table) []
maybe_twice_among None table = nothing
maybe_twice_among (Some formals) table = names_twice_among Variable formals.names table

pub signed_twice_among : (signed : Signed) (table : Entries) → Among (signed_twice signed table) []
signed_twice_among signed table =
    besides (formals_twice_among signed.formals table) (maybe_twice_among signed.returned (formals_declared signed.formals table))

-- ---- types with what is known of them

abbrev FormalsGood : Formals → List Span → List Span → Type 0
FormalsGood read names again = Good read.found names

abbrev among : Related
among = record {
  first = type_finding;
  second = type_naming;
  third = type_naming;
  Types = λ finds names again. Good finds names;
  Formals = FormalsGood;
  Returns = FormalsGood;
  Signatures = λ signed names again. Good (signed_found signed) names;
}

abbrev read : SignatureNode among → Signed
read y = signature_layer type_finding (bare_signature among y)

formals_good : (place : Place) (blocks : Blocks) (trees : List (KnownFormal among))
    → Among (formals_found (map formal_read (map (λ tree. tree.0) trees)) place blocks) (joined (map formal_names (map (λ tree. tree.0) trees)))
formals_good place blocks [] = nothing
formals_good place blocks (tree ∷ trees) = both (tree.1 place blocks) (formals_good place blocks trees)

-- ---- each kind of tree from its parts

type_good : (y : TypeNode among) → TypeFits among y
type_good (TypeTree-F.Int span) place blocks = nothing
type_good (TypeTree-F.Bool span) place blocks = nothing
type_good (TypeTree-F.Char span) place blocks = nothing
type_good (TypeTree-F.Str span length) place blocks = maybe_expr_among length place blocks
type_good (TypeTree-F.Enum span literals) place blocks = nothing
type_good (TypeTree-F.Rec span fields) place blocks =
    besides (formals_twice_among (map formal_read (map (λ tree. tree.0) fields)) []) (after_one span (formals_good place blocks fields))
type_good (TypeTree-F.CapOf span name) place blocks = qualified_among place blocks name
type_good (TypeTree-F.CapMachine span) place blocks = nothing
type_good (TypeTree-F.CapOperation span signature) place blocks = signature.1 place blocks
type_good (TypeTree-F.Array span dims item) place blocks = both (dims_among dims place blocks) (item.1 place blocks)
type_good (TypeTree-F.Named span name) place blocks = qualified_among place blocks name

formal_good : (y : FormalNode among) → FormalFits among y
formal_good y place blocks = both (decls_among y.decls place blocks) (y.ty.1 place blocks)

returned_good : (y : ReturnedNode among) → ReturnedFits among y
returned_good y place blocks = both (decl_among y.decl place blocks) (y.ty.1 place blocks)

signature_good : (y : SignatureNode among) → SignatureFits among y
signature_good y place blocks =
    besides (signed_twice_among (read y) []) (by y.returned)
  where
    by : (returned : Option (KnownReturned among))
        → Among (formals_found (read (record y { returned = returned })).formals place blocks ++ maybe_found (read (record y { returned = returned })).returned place blocks)
        (signature_layer type_naming (bare_signature among (record y { returned = returned })))
    by None = both (formals_good place blocks y.formals) (nothing {s = []})
    by (Some returned) = both (formals_good place blocks y.formals) (returned.1 place blocks)

-- ---- all trees

layers : Layers among
layers = record { types = type_good; formals = formal_good; returns = returned_good; signatures = signature_good }

pub type_among : (tree : TypeTree) (place : Place) (blocks : Blocks) → Among (type_found tree place blocks) (type_names tree)
type_among = type_related among layers

formal_among : (tree : Formal) (place : Place) (blocks : Blocks) → Among ((formal_read tree).found place blocks) (formal_names tree)
formal_among = formal_related among layers

pub signature_among : (tree : Signature) (place : Place) (blocks : Blocks) → Among (signed_found (signature_read tree) place blocks) (signature_names tree)
signature_among = signature_related among layers

pub formals_among : (formals : List Formal) (place : Place) (blocks : Blocks) → Among (formals_found (map formal_read formals) place blocks) (flat_map formal_names formals)
formals_among [] place blocks = nothing
formals_among (formal ∷ formals) place blocks = both (formal_among formal place blocks) (formals_among formals place blocks)

maybe_type_among : (tree : Option TypeTree) (place : Place) (blocks : Blocks) → Among (maybe_type_found tree place blocks) (where_some type_names tree)
maybe_type_among None place blocks = nothing
maybe_type_among (Some tree) place blocks = type_among tree place blocks

-- ---- declarations

pub const_among : (declared : ConstDecl) (place : Place) (blocks : Blocks) → Among (const_found declared place blocks) (const_names declared)
const_among declared place blocks =
    after_one declared.name.span (both (maybe_type_among declared.ty place blocks) (expr_among declared.value place blocks))

pub var_among : (declared : VarDecl) (place : Place) (blocks : Blocks) → Among (var_found declared place blocks) (var_names declared)
var_among declared place blocks =
    both (decls_among declared.decls place blocks) (both (maybe_type_among declared.ty place blocks) (exprs_among declared.values place blocks))

pub semaphores_among : (semaphores : List Semaphore) (place : Place) (blocks : Blocks) → Among (semaphores_found semaphores place blocks) (flat_map semaphore_names semaphores)
semaphores_among [] place blocks = nothing
semaphores_among (semaphore ∷ semaphores) place blocks =
    both (after_one semaphore.name.span (maybe_expr_among semaphore.value place blocks)) (semaphores_among semaphores place blocks)

op_item_among : (item : OpItem) (place : Place) (blocks : Blocks) → Among (op_item_found item place blocks) (op_item_names item)
op_item_among (op.Signed span name signature) place blocks = after_one name.span (signature_among signature place blocks)
op_item_among (op.Typed span name optype) place blocks = after_one name.span (qualified_among place blocks optype)

pub op_items_among : (items : List OpItem) (place : Place) (blocks : Blocks) → Among (op_items_found items place blocks) (flat_map op_item_names items)
op_items_among [] place blocks = nothing
op_items_among (item ∷ items) place blocks = both (op_item_among item place blocks) (op_items_among items place blocks)

-- ---- quantifiers

quantifier_among : (quantifier : Quantifier) (place : Place) (blocks : Blocks) → Among (quantifier_found quantifier place blocks) (quantifier_names quantifier)
quantifier_among quantifier place blocks =
    let first = expr_names quantifier.first in
    let last = expr_names quantifier.last in
    let step = where_some expr_names quantifier.step in
    let condition = where_some expr_names quantifier.such_that in
    after_one quantifier.name.span
    (subst (λ (spans : List Span). Among (quantifier_found quantifier place blocks) (first ++ spans)) (append_assoc last step condition)
    (regrouped first (last ++ step) condition
    (both
    (both (expr_among quantifier.first place blocks) (both (expr_among quantifier.last place blocks) (maybe_expr_among quantifier.step place blocks)))
    (besides (twice_among quantifier_sort quantifier.name blocks.inner) (maybe_expr_among quantifier.such_that place (with_quantifier quantifier blocks))))))

pub quantifiers_among : (quantifiers : List Quantifier) (place : Place) (blocks : Blocks) → Among (quantifiers_found quantifiers place blocks) (flat_map quantifier_names quantifiers)
quantifiers_among [] place blocks = nothing
quantifiers_among (quantifier ∷ more) place blocks =
    both (quantifier_among quantifier place blocks) (quantifiers_among more place (with_quantifier quantifier blocks))
