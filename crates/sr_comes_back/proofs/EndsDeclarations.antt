-- A line may end after declarations.
use Rattle.std.proofs.Common.{List, refl, Option}
use Rattle.sr_tree.specs.declared.token.Token.{Token}
use Rattle.sr_tree.specs.declared.expr.Expr.{Expr}
use Rattle.sr_tree.specs.declared.types.TypeTree.{TypeTree}
use Rattle.sr_tree.specs.declared.declaration.Import.{Import}
use Rattle.sr_tree.specs.declared.declaration.ConstDecl.{ConstDecl}
use Rattle.sr_tree.specs.declared.declaration.TypeDecl.{TypeDecl}
use Rattle.sr_tree.specs.declared.declaration.OpTypeDecl.{OpTypeDecl}
use Rattle.sr_tree.specs.declared.declaration.OpDecl.{OpDecl}
use Rattle.sr_tree.specs.declared.declaration.OpItem.{OpItem}
use Rattle.sr_tree.specs.declared.declaration.VarDecl.{VarDecl}
use Rattle.sr_tree.specs.declared.declaration.SemDecl.{SemDecl}
use Rattle.sr_tree.specs.declared.declaration.Semaphore.{Semaphore}
use Rattle.sr_tree.specs.Declarations as d
use Rattle.sr_tree.specs.Declarations.{SpellsOptionalType, SpellsImport, SpellsConst, SpellsTypeDecl, SpellsOpType, SpellsOpItem, SpellsMoreOpItems, SpellsOp, SpellsValues, SpellsVar, SpellsInitial, SpellsMoreSemaphores, SpellsSem}
use Rattle.sr_comes_back.proofs.Ending.{Ends, KeepsEnd, keeps_none, ends_skip, ends_with, ends_after, ends_then, keeps_of, keeps_both, may_end_is}
use Rattle.sr_comes_back.proofs.EndsExpressions.{ends_qualified_name, ends_expr, keeps_more_exprs}
use Rattle.sr_comes_back.proofs.EndsTypes.{ends_names, ends_decls, ends_plain_type, ends_type, ends_signature}

pub keeps_optional_type : {x : Option TypeTree} {u : List Token} → SpellsOptionalType x u → KeepsEnd u
keeps_optional_type (d.no_type) = keeps_none
keeps_optional_type (d.typed colon h0 h1) = keeps_of (ends_skip colon (ends_plain_type h1))

pub ends_import : {x : Import} {u : List Token} → SpellsImport x u → Ends u
ends_import (d.imports t h0 h1) = ends_skip t (ends_names h1)

pub ends_const : {x : ConstDecl} {u : List Token} → SpellsConst x u → Ends u
ends_const (d.constant {u = u} t n becomes h0 h1 h2 h3 h4) = ends_skip t (ends_skip n (ends_after u (ends_skip becomes (ends_expr h4))))

pub ends_type_decl : {x : TypeDecl} {u : List Token} → SpellsTypeDecl x u → Ends u
ends_type_decl (d.type_decl t n equal h0 h1 h2 h3) = ends_skip t (ends_skip n (ends_skip equal (ends_type h3)))

pub ends_op_type : {x : OpTypeDecl} {u : List Token} → SpellsOpType x u → Ends u
ends_op_type (d.optype t n equal h0 h1 h2 h3) = ends_skip t (ends_skip n (ends_skip equal (ends_signature h3)))

pub ends_op_item : {x : OpItem} {u : List Token} → SpellsOpItem x u → Ends u
ends_op_item (d.signed n h0 h1) = ends_skip n (ends_signature h1)
ends_op_item (d.of_optype n colon h0 h1 h2) = ends_skip n (ends_skip colon (ends_qualified_name h2))

pub keeps_more_op_items : {x : List OpItem} {u : List Token} → SpellsMoreOpItems x u → KeepsEnd u
keeps_more_op_items (d.no_more_op_items) = keeps_none
keeps_more_op_items (d.one_more_op_item comma h0 h1 h2) = keeps_of (ends_skip comma (ends_then (ends_op_item h1) (keeps_more_op_items h2)))

pub ends_op : {x : OpDecl} {u : List Token} → SpellsOp x u → Ends u
ends_op (d.op t h0 h1 h2) = ends_skip t (ends_then (ends_op_item h1) (keeps_more_op_items h2))

pub keeps_values : {x : List Expr} {u : List Token} → SpellsValues x u → KeepsEnd u
keeps_values (d.no_values) = keeps_none
keeps_values (d.values becomes h0 h1 h2) = keeps_of (ends_skip becomes (ends_then (ends_expr h1) (keeps_more_exprs h2)))

pub ends_var : {x : VarDecl} {u : List Token} → SpellsVar x u → Ends u
ends_var (d.variables t h0 h1 h2 h3) = ends_skip t (ends_then (ends_decls h1) (keeps_both (keeps_optional_type h2) (keeps_values h3)))

pub keeps_initial : {x : Option Expr} {u : List Token} → SpellsInitial x u → KeepsEnd u
keeps_initial (d.no_initial) = keeps_none
keeps_initial (d.initial becomes h0 h1) = keeps_of (ends_skip becomes (ends_expr h1))

pub keeps_more_semaphores : {x : List Semaphore} {u : List Token} → SpellsMoreSemaphores x u → KeepsEnd u
keeps_more_semaphores (d.no_more_semaphores) = keeps_none
keeps_more_semaphores (d.one_more_semaphore comma n h0 h1 h2 h3) = keeps_of (ends_skip comma (ends_with n (may_end_is n h1 refl) (keeps_both (keeps_initial h2) (keeps_more_semaphores h3))))

pub ends_sem : {x : SemDecl} {u : List Token} → SpellsSem x u → Ends u
ends_sem (d.semaphores t n h0 h1 h2 h3) = ends_skip t (ends_with n (may_end_is n h1 refl) (keeps_both (keeps_initial h2) (keeps_more_semaphores h3)))
