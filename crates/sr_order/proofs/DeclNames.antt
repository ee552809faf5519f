-- The spans of the names in a declaration are picked from its tokens.
use Rattle.std.proofs.Common.{List, Option, flat_map}
use Rattle.sr_tree.specs.declared.declaration.ConstDecl.{ConstDecl}
use Rattle.sr_tree.specs.declared.declaration.Import.{Import}
use Rattle.sr_tree.specs.declared.declaration.OpDecl.{OpDecl}
use Rattle.sr_tree.specs.declared.declaration.OpItem.{OpItem}
use Rattle.sr_tree.specs.declared.declaration.OpTypeDecl.{OpTypeDecl}
use Rattle.sr_tree.specs.declared.declaration.SemDecl.{SemDecl}
use Rattle.sr_tree.specs.declared.declaration.Semaphore.{Semaphore}
use Rattle.sr_tree.specs.declared.declaration.TypeDecl.{TypeDecl}
use Rattle.sr_tree.specs.declared.declaration.VarDecl.{VarDecl}
use Rattle.sr_tree.specs.declared.expr.Expr.{Expr}
use Rattle.sr_tree.specs.declared.token.Token.{Token}
use Rattle.sr_tree.specs.declared.types.TypeTree.{TypeTree}
use Rattle.sr_tree.specs.Declarations as d
use Rattle.sr_tree.specs.Declarations.{SpellsOptionalType, SpellsImport, SpellsConst, SpellsTypeDecl, SpellsOpType, SpellsOpItem, SpellsMoreOpItems, SpellsOp, SpellsValues, SpellsVar, SpellsInitial, SpellsMoreSemaphores, SpellsSem}
use Rattle.sr_order.specs.Order.{Picks, nothing, left_out, picked}
use Rattle.sr_order.specs.Names.{where_some, expr_names, type_names, import_names, const_names, type_decl_names, optype_names, op_item_names, op_names, var_names, semaphore_names, sem_names}
use Rattle.sr_order.proofs.Picked.{both}
use Rattle.sr_order.proofs.ExprNames.{qualified-picked, expr-picked, exprs-picked}
use Rattle.sr_order.proofs.TypeNames.{names-picked, decls-picked, plain-type-picked, type-picked, signature-picked}

optional-type : {t : Option TypeTree} {u : List Token} → SpellsOptionalType t u → Picks (where_some type_names t) u
optional-type d.no_type = nothing
optional-type (d.typed t h d) = left_out t (plain-type-picked d)

pub import-picked : {declared : Import} {u : List Token} → SpellsImport declared u → Picks (import_names declared) u
import-picked (d.imports t h d) = left_out t (names-picked d)

pub const-picked : {declared : ConstDecl} {u : List Token} → SpellsConst declared u → Picks (const_names declared) u
const-picked (d.constant t n b h i d j e) = left_out t (picked n (both (optional-type d) (left_out b (expr-picked e))))

pub type-decl-picked : {declared : TypeDecl} {u : List Token} → SpellsTypeDecl declared u → Picks (type_decl_names declared) u
type-decl-picked (d.type_decl t n e h i j d) = left_out t (picked n (left_out e (type-picked d)))

pub optype-picked : {declared : OpTypeDecl} {u : List Token} → SpellsOpType declared u → Picks (optype_names declared) u
optype-picked (d.optype t n e h i j d) = left_out t (picked n (left_out e (signature-picked d)))

op-item : {i : OpItem} {u : List Token} → SpellsOpItem i u → Picks (op_item_names i) u
op-item (d.signed n h d) = picked n (signature-picked d)
op-item (d.of_optype n c h i d) = picked n (left_out c (qualified-picked d))

more-ops : {is : List OpItem} {u : List Token} → SpellsMoreOpItems is u → Picks (flat_map op_item_names is) u
more-ops d.no_more_op_items = nothing
more-ops (d.one_more_op_item t h d m) = left_out t (both (op-item d) (more-ops m))

pub op-picked : {declared : OpDecl} {u : List Token} → SpellsOp declared u → Picks (op_names declared) u
op-picked (d.op t h d m) = left_out t (both (op-item d) (more-ops m))

values-picked : {es : List Expr} {u : List Token} → SpellsValues es u → Picks (flat_map expr_names es) u
values-picked d.no_values = nothing
values-picked (d.values t h d m) = left_out t (both (expr-picked d) (exprs-picked m))

pub var-picked : {declared : VarDecl} {u : List Token} → SpellsVar declared u → Picks (var_names declared) u
var-picked (d.variables t h d e v) = left_out t (both (decls-picked d) (both (optional-type e) (values-picked v)))

initial-picked : {e : Option Expr} {u : List Token} → SpellsInitial e u → Picks (where_some expr_names e) u
initial-picked d.no_initial = nothing
initial-picked (d.initial t h d) = left_out t (expr-picked d)

more-semaphores : {ss : List Semaphore} {u : List Token} → SpellsMoreSemaphores ss u → Picks (flat_map semaphore_names ss) u
more-semaphores d.no_more_semaphores = nothing
more-semaphores (d.one_more_semaphore t n h i e m) = left_out t (picked n (both (initial-picked e) (more-semaphores m)))

pub sem-picked : {declared : SemDecl} {u : List Token} → SpellsSem declared u → Picks (sem_names declared) u
sem-picked (d.semaphores t n h i e m) = left_out t (picked n (both (initial-picked e) (more-semaphores m)))
