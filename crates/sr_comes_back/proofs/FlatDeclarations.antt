-- In declarations, after their first word, no line begins outside of brackets.
use Rattle.std.proofs.Common.{List, ◌∷◌, ◌++◌, refl, Option}
use Rattle.sr_tree.specs.declared.token.Token.{Token}
use Rattle.sr_tree.specs.declared.expr.Expr.{Expr}
use Rattle.sr_tree.specs.declared.types.TypeTree.{TypeTree}
use Rattle.sr_tree.specs.declared.declaration.Import.{Import}
use Rattle.sr_tree.specs.declared.declaration.ConstDecl.{ConstDecl}
use Rattle.sr_tree.specs.declared.declaration.TypeDecl.{TypeDecl}
use Rattle.sr_tree.specs.declared.declaration.OpTypeDecl.{OpTypeDecl}
use Rattle.sr_tree.specs.declared.declaration.OpDecl.{OpDecl}
use Rattle.sr_tree.specs.declared.declaration.OpItem.{OpItem}
use Rattle.sr_tree.specs.declared.declaration.VarDecl.{VarDecl}
use Rattle.sr_tree.specs.declared.declaration.SemDecl.{SemDecl}
use Rattle.sr_tree.specs.declared.declaration.Semaphore.{Semaphore}
use Rattle.sr_tree.specs.Declarations as d
use Rattle.sr_tree.specs.Declarations.{SpellsOptionalType, SpellsImport, SpellsConst, SpellsTypeDecl, SpellsOpType, SpellsOpItem, SpellsMoreOpItems, SpellsOp, SpellsValues, SpellsVar, SpellsInitial, SpellsMoreSemaphores, SpellsSem}
use Rattle.sr_comes_back.proofs.Flat.{Flat, Headed, none_flat, flat_token, flat_both, plain_is, heads_is}
use Rattle.sr_comes_back.proofs.FlatExpressions.{flat_qualified_name, flat_expr, flat_more_exprs}
use Rattle.sr_comes_back.proofs.FlatTypes.{flat_names, flat_decls, flat_plain_type, flat_type, flat_signature}

pub flat_optional_type : {x : Option TypeTree} {u : List Token} → SpellsOptionalType x u → Flat u
flat_optional_type (d.no_type) = none_flat
flat_optional_type (d.typed colon h0 h1) = flat_token colon (plain_is colon h0 refl) (flat_plain_type h1)

pub headed_import : {x : Import} {u : List Token} → SpellsImport x u → Headed u
headed_import (d.imports {u = u} t h0 h1) = record { head = t; rest = u; splits = refl; heads = heads_is t h0 refl; flat = (flat_names h1) }

pub headed_const : {x : ConstDecl} {u : List Token} → SpellsConst x u → Headed u
headed_const (d.constant {u = u} {v = v} t n becomes h0 h1 h2 h3 h4) = record { head = t; rest = n ∷ (u ++ becomes ∷ v); splits = refl; heads = heads_is t h0 refl; flat = (flat_token n (plain_is n h1 refl) (flat_both (flat_optional_type h2) (flat_token becomes (plain_is becomes h3 refl) (flat_expr h4)))) }

pub headed_type_decl : {x : TypeDecl} {u : List Token} → SpellsTypeDecl x u → Headed u
headed_type_decl (d.type_decl {u = u} t n equal h0 h1 h2 h3) = record { head = t; rest = n ∷ equal ∷ u; splits = refl; heads = heads_is t h0 refl; flat = (flat_token n (plain_is n h1 refl) (flat_token equal (plain_is equal h2 refl) (flat_type h3))) }

pub headed_op_type : {x : OpTypeDecl} {u : List Token} → SpellsOpType x u → Headed u
headed_op_type (d.optype {u = u} t n equal h0 h1 h2 h3) = record { head = t; rest = n ∷ equal ∷ u; splits = refl; heads = heads_is t h0 refl; flat = (flat_token n (plain_is n h1 refl) (flat_token equal (plain_is equal h2 refl) (flat_signature h3))) }

pub flat_op_item : {x : OpItem} {u : List Token} → SpellsOpItem x u → Flat u
flat_op_item (d.signed n h0 h1) = flat_token n (plain_is n h0 refl) (flat_signature h1)
flat_op_item (d.of_optype n colon h0 h1 h2) = flat_token n (plain_is n h0 refl) (flat_token colon (plain_is colon h1 refl) (flat_qualified_name h2))

pub flat_more_op_items : {x : List OpItem} {u : List Token} → SpellsMoreOpItems x u → Flat u
flat_more_op_items (d.no_more_op_items) = none_flat
flat_more_op_items (d.one_more_op_item comma h0 h1 h2) = flat_token comma (plain_is comma h0 refl) (flat_both (flat_op_item h1) (flat_more_op_items h2))

pub headed_op : {x : OpDecl} {u : List Token} → SpellsOp x u → Headed u
headed_op (d.op {u = u} {v = v} t h0 h1 h2) = record { head = t; rest = u ++ v; splits = refl; heads = heads_is t h0 refl; flat = (flat_both (flat_op_item h1) (flat_more_op_items h2)) }

pub flat_values : {x : List Expr} {u : List Token} → SpellsValues x u → Flat u
flat_values (d.no_values) = none_flat
flat_values (d.values becomes h0 h1 h2) = flat_token becomes (plain_is becomes h0 refl) (flat_both (flat_expr h1) (flat_more_exprs h2))

pub headed_var : {x : VarDecl} {u : List Token} → SpellsVar x u → Headed u
headed_var (d.variables {u = u} {v = v} {w = w} t h0 h1 h2 h3) = record { head = t; rest = u ++ (v ++ w); splits = refl; heads = heads_is t h0 refl; flat = (flat_both (flat_decls h1) (flat_both (flat_optional_type h2) (flat_values h3))) }

pub flat_initial : {x : Option Expr} {u : List Token} → SpellsInitial x u → Flat u
flat_initial (d.no_initial) = none_flat
flat_initial (d.initial becomes h0 h1) = flat_token becomes (plain_is becomes h0 refl) (flat_expr h1)

pub flat_more_semaphores : {x : List Semaphore} {u : List Token} → SpellsMoreSemaphores x u → Flat u
flat_more_semaphores (d.no_more_semaphores) = none_flat
flat_more_semaphores (d.one_more_semaphore comma n h0 h1 h2 h3) = flat_token comma (plain_is comma h0 refl) (flat_token n (plain_is n h1 refl) (flat_both (flat_initial h2) (flat_more_semaphores h3)))

pub headed_sem : {x : SemDecl} {u : List Token} → SpellsSem x u → Headed u
headed_sem (d.semaphores {u = u} {v = v} t n h0 h1 h2 h3) = record { head = t; rest = n ∷ (u ++ v); splits = refl; heads = heads_is t h0 refl; flat = (flat_token n (plain_is n h1 refl) (flat_both (flat_initial h2) (flat_more_semaphores h3))) }
