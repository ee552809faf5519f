-- Tokens that are told again spell the same declarations.
use Rattle.std.proofs.Common.{List, [], ◌∷◌, ◌++◌, map, ap, sym, subst, ◌∙◌, Option, Some, None}
use Rattle.std.proofs.lemmas.List.{map-append}
use Rattle.sr_tree.specs.declared.token.Token.{Token}
use Rattle.sr_tree.specs.declared.expr.Expr.{Expr}
use Rattle.sr_tree.specs.declared.types.TypeTree.{TypeTree}
use Rattle.sr_tree.specs.declared.declaration.Import.{Import}
use Rattle.sr_tree.specs.declared.declaration.ConstDecl.{ConstDecl}
use Rattle.sr_tree.specs.declared.declaration.TypeDecl.{TypeDecl}
use Rattle.sr_tree.specs.declared.declaration.OpTypeDecl.{OpTypeDecl}
use Rattle.sr_tree.specs.declared.declaration.OpDecl.{OpDecl}
use Rattle.sr_tree.specs.declared.declaration.OpItem.{OpItem}
use Rattle.sr_tree.specs.declared.declaration.VarDecl.{VarDecl}
use Rattle.sr_tree.specs.declared.declaration.SemDecl.{SemDecl}
use Rattle.sr_tree.specs.declared.declaration.Semaphore.{Semaphore}
use Rattle.sr_tree.specs.declared.declaration.OpItem.TheVariants.{Signed, Typed}
use Rattle.sr_tree.specs.Declarations as d
use Rattle.sr_tree.specs.Declarations.{SpellsOptionalType, SpellsImport, SpellsConst, SpellsTypeDecl, SpellsOpType, SpellsOpItem, SpellsMoreOpItems, SpellsOp, SpellsValues, SpellsVar, SpellsInitial, SpellsMoreSemaphores, SpellsSem}
use Rattle.sr_tree.specs.Tables.{name_of}
use Rattle.sr_grammar_laws.specs.SameExpressions as same_exprs
use Rattle.sr_grammar_laws.specs.SameExpressions.{SameExprs, SameList, SameOptionalExpr}
use Rattle.sr_grammar_laws.specs.SameTypes as same_types
use Rattle.sr_grammar_laws.specs.SameTypes.{SameOptionalTypeTree}
use Rattle.sr_grammar_laws.specs.SameDeclarations as same_decls
use Rattle.sr_grammar_laws.specs.SameDeclarations.{SameConstDecl, SameImport, SameOpDecl, SameOpItem, SameOpTypeDecl, SameSemDecl, SameSemaphore, SameTypeDecl, SameVarDecl}
use Rattle.sr_grammar_laws.specs.Retelling.{Keeps}
use Rattle.sr_grammar_laws.proofs.Retold.{same_name}
use Rattle.sr_grammar_laws.proofs.AgainExpressions.{again_qualified_name, again_expr, again_more_exprs}
use Rattle.sr_grammar_laws.proofs.AgainTypes.{again_names, again_decls, again_plain_type, again_type, again_signature}

module _ (retell : Token → Token) (keeps : Keeps retell) where
  pub again_optional_type : {x : Option TypeTree} {u : List Token} → SpellsOptionalType x u → (x' : Option TypeTree) × SpellsOptionalType x' (map retell u) × SameOptionalTypeTree x x'
  again_optional_type (d.no_type) = (None, d.no_type, same_types.no_type_tree)
  again_optional_type (d.typed {u = u} colon h0 h1) =
      let r2 = again_plain_type retell keeps h1 in
      ((Some r2.0), d.typed (retell colon) (keeps.kind colon ∙ h0) r2.1, (same_types.some_type_tree r2.2))

  pub again_import : {x : Import} {u : List Token} → SpellsImport x u → (x' : Import) × SpellsImport x' (map retell u) × SameImport x x'
  again_import (d.imports {u = u} t h0 h1) =
      let r2 = again_names retell keeps h1 in
      ((record { span = (retell t).span; names = r2.0 }), d.imports (retell t) (keeps.kind t ∙ h0) r2.1, (same_decls.import r2.2))

  pub again_const : {x : ConstDecl} {u : List Token} → SpellsConst x u → (x' : ConstDecl) × SpellsConst x' (map retell u) × SameConstDecl x x'
  again_const (d.constant {u = u} {v = v} t n becomes h0 h1 h2 h3 h4) =
      let r3 = again_optional_type h2 in
      let r5 = again_expr retell keeps h4 in
      ((record { span = (retell t).span; name = name_of (retell n); ty = r3.0; value = r5.0 }), subst (λ z. SpellsConst (record { span = (retell t).span; name = name_of (retell n); ty = r3.0; value = r5.0 }) z) (sym (ap (λ z. retell t ∷ z) (ap (λ z. retell n ∷ z) (map-append retell u (becomes ∷ v))))) (d.constant (retell t) (retell n) (retell becomes) (keeps.kind t ∙ h0) (keeps.kind n ∙ h1) r3.1 (keeps.kind becomes ∙ h3) r5.1), (same_decls.const_decl (same_name retell keeps n h1) r3.2 r5.2))

  pub again_type_decl : {x : TypeDecl} {u : List Token} → SpellsTypeDecl x u → (x' : TypeDecl) × SpellsTypeDecl x' (map retell u) × SameTypeDecl x x'
  again_type_decl (d.type_decl {u = u} t n equal h0 h1 h2 h3) =
      let r4 = again_type retell keeps h3 in
      ((record { span = (retell t).span; name = name_of (retell n); ty = r4.0 }), d.type_decl (retell t) (retell n) (retell equal) (keeps.kind t ∙ h0) (keeps.kind n ∙ h1) (keeps.kind equal ∙ h2) r4.1, (same_decls.type_decl (same_name retell keeps n h1) r4.2))

  pub again_op_type : {x : OpTypeDecl} {u : List Token} → SpellsOpType x u → (x' : OpTypeDecl) × SpellsOpType x' (map retell u) × SameOpTypeDecl x x'
  again_op_type (d.optype {u = u} t n equal h0 h1 h2 h3) =
      let r4 = again_signature retell keeps h3 in
      ((record { span = (retell t).span; name = name_of (retell n); signature = r4.0 }), d.optype (retell t) (retell n) (retell equal) (keeps.kind t ∙ h0) (keeps.kind n ∙ h1) (keeps.kind equal ∙ h2) r4.1, (same_decls.op_type_decl (same_name retell keeps n h1) r4.2))

  pub again_op_item : {x : OpItem} {u : List Token} → SpellsOpItem x u → (x' : OpItem) × SpellsOpItem x' (map retell u) × SameOpItem x x'
  again_op_item (d.signed {u = u} n h0 h1) =
      let r2 = again_signature retell keeps h1 in
      ((Signed (retell n).span (name_of (retell n)) r2.0), d.signed (retell n) (keeps.kind n ∙ h0) r2.1, (same_decls.signed (same_name retell keeps n h0) r2.2))
  again_op_item (d.of_optype {u = u} n colon h0 h1 h2) =
      let r3 = again_qualified_name retell keeps h2 in
      ((Typed (retell n).span (name_of (retell n)) r3.0), d.of_optype (retell n) (retell colon) (keeps.kind n ∙ h0) (keeps.kind colon ∙ h1) r3.1, (same_decls.typed (same_name retell keeps n h0) r3.2))

  pub again_more_op_items : {x : List OpItem} {u : List Token} → SpellsMoreOpItems x u → (x' : List OpItem) × SpellsMoreOpItems x' (map retell u) × SameList SameOpItem x x'
  again_more_op_items (d.no_more_op_items) = ([], d.no_more_op_items, same_exprs.none_left)
  again_more_op_items (d.one_more_op_item {u = u} {v = v} comma h0 h1 h2) =
      let r2 = again_op_item h1 in
      let r3 = again_more_op_items h2 in
      ((r2.0 ∷ r3.0), subst (λ z. SpellsMoreOpItems (r2.0 ∷ r3.0) z) (sym (ap (λ z. retell comma ∷ z) (map-append retell u (v)))) (d.one_more_op_item (retell comma) (keeps.kind comma ∙ h0) r2.1 r3.1), (same_exprs.one_more r2.2 r3.2))

  pub again_op : {x : OpDecl} {u : List Token} → SpellsOp x u → (x' : OpDecl) × SpellsOp x' (map retell u) × SameOpDecl x x'
  again_op (d.op {u = u} {v = v} t h0 h1 h2) =
      let r2 = again_op_item h1 in
      let r3 = again_more_op_items h2 in
      ((record { span = (retell t).span; items = r2.0 ∷ r3.0 }), subst (λ z. SpellsOp (record { span = (retell t).span; items = r2.0 ∷ r3.0 }) z) (sym (ap (λ z. retell t ∷ z) (map-append retell u (v)))) (d.op (retell t) (keeps.kind t ∙ h0) r2.1 r3.1), (same_decls.op_decl (same_exprs.one_more r2.2 r3.2)))

  pub again_values : {x : List Expr} {u : List Token} → SpellsValues x u → (x' : List Expr) × SpellsValues x' (map retell u) × SameExprs x x'
  again_values (d.no_values) = ([], d.no_values, same_exprs.no_exprs)
  again_values (d.values {u = u} {v = v} becomes h0 h1 h2) =
      let r2 = again_expr retell keeps h1 in
      let r3 = again_more_exprs retell keeps h2 in
      ((r2.0 ∷ r3.0), subst (λ z. SpellsValues (r2.0 ∷ r3.0) z) (sym (ap (λ z. retell becomes ∷ z) (map-append retell u (v)))) (d.values (retell becomes) (keeps.kind becomes ∙ h0) r2.1 r3.1), (same_exprs.more_exprs r2.2 r3.2))

  pub again_var : {x : VarDecl} {u : List Token} → SpellsVar x u → (x' : VarDecl) × SpellsVar x' (map retell u) × SameVarDecl x x'
  again_var (d.variables {u = u} {v = v} {w = w} t h0 h1 h2 h3) =
      let r2 = again_decls retell keeps h1 in
      let r3 = again_optional_type h2 in
      let r4 = again_values h3 in
      ((record { span = (retell t).span; decls = r2.0; ty = r3.0; values = r4.0 }), subst (λ z. SpellsVar (record { span = (retell t).span; decls = r2.0; ty = r3.0; values = r4.0 }) z) (sym (ap (λ z. retell t ∷ z) (map-append retell u (v ++ w) ∙ ap (λ z. map retell u ++ z) (map-append retell v (w))))) (d.variables (retell t) (keeps.kind t ∙ h0) r2.1 r3.1 r4.1), (same_decls.var_decl r2.2 r3.2 r4.2))

  pub again_initial : {x : Option Expr} {u : List Token} → SpellsInitial x u → (x' : Option Expr) × SpellsInitial x' (map retell u) × SameOptionalExpr x x'
  again_initial (d.no_initial) = (None, d.no_initial, same_exprs.no_expr)
  again_initial (d.initial {u = u} becomes h0 h1) =
      let r2 = again_expr retell keeps h1 in
      ((Some r2.0), d.initial (retell becomes) (keeps.kind becomes ∙ h0) r2.1, (same_exprs.some_expr r2.2))

  pub again_more_semaphores : {x : List Semaphore} {u : List Token} → SpellsMoreSemaphores x u → (x' : List Semaphore) × SpellsMoreSemaphores x' (map retell u) × SameList SameSemaphore x x'
  again_more_semaphores (d.no_more_semaphores) = ([], d.no_more_semaphores, same_exprs.none_left)
  again_more_semaphores (d.one_more_semaphore {u = u} {v = v} comma n h0 h1 h2 h3) =
      let r3 = again_initial h2 in
      let r4 = again_more_semaphores h3 in
      ((record { span = (retell n).span; name = name_of (retell n); value = r3.0 } ∷ r4.0), subst (λ z. SpellsMoreSemaphores (record { span = (retell n).span; name = name_of (retell n); value = r3.0 } ∷ r4.0) z) (sym (ap (λ z. retell comma ∷ z) (ap (λ z. retell n ∷ z) (map-append retell u (v))))) (d.one_more_semaphore (retell comma) (retell n) (keeps.kind comma ∙ h0) (keeps.kind n ∙ h1) r3.1 r4.1), (same_exprs.one_more (same_decls.semaphore (same_name retell keeps n h1) r3.2) r4.2))

  pub again_sem : {x : SemDecl} {u : List Token} → SpellsSem x u → (x' : SemDecl) × SpellsSem x' (map retell u) × SameSemDecl x x'
  again_sem (d.semaphores {u = u} {v = v} t n h0 h1 h2 h3) =
      let r3 = again_initial h2 in
      let r4 = again_more_semaphores h3 in
      ((record { span = (retell t).span; semaphores = record { span = (retell n).span; name = name_of (retell n); value = r3.0 } ∷ r4.0 }), subst (λ z. SpellsSem (record { span = (retell t).span; semaphores = record { span = (retell n).span; name = name_of (retell n); value = r3.0 } ∷ r4.0 }) z) (sym (ap (λ z. retell t ∷ z) (ap (λ z. retell n ∷ z) (map-append retell u (v))))) (d.semaphores (retell t) (retell n) (keeps.kind t ∙ h0) (keeps.kind n ∙ h1) r3.1 r4.1), (same_decls.sem_decl (same_exprs.one_more (same_decls.semaphore (same_name retell keeps n h1) r3.2) r4.2)))
