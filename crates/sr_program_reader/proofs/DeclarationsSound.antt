-- What the readers of declarations read is spelled so by the grammar, and depends on one token after it alone.
use Rattle.std.proofs.Common.{sym, subst, List, [], ◌∷◌, ◌++◌, Option, Some, None}
use Rattle.sr_reader.proofs.Soundness.{Sound, Then, joined, Returns, returns, returned-sound, weaker, then-sound, branch-sound, append-nil, ended}
use Rattle.sr_tree.specs.declared.declaration.ConstDecl.{ConstDecl}
use Rattle.sr_tree.specs.declared.declaration.Import.{Import}
use Rattle.sr_tree.specs.declared.declaration.OpDecl.{OpDecl}
use Rattle.sr_tree.specs.declared.declaration.OpItem.{OpItem}
use Rattle.sr_tree.specs.declared.declaration.OpItem.TheVariants.{Signed, Typed}
use Rattle.sr_tree.specs.declared.declaration.OpTypeDecl.{OpTypeDecl}
use Rattle.sr_tree.specs.declared.declaration.SemDecl.{SemDecl}
use Rattle.sr_tree.specs.declared.declaration.Semaphore.{Semaphore}
use Rattle.sr_tree.specs.declared.declaration.TypeDecl.{TypeDecl}
use Rattle.sr_tree.specs.declared.declaration.VarDecl.{VarDecl}
use Rattle.sr_tree.specs.declared.expr.Expr.{Expr}
use Rattle.sr_tree.specs.declared.name.Name.{Name}
use Rattle.sr_tree.specs.declared.name.QualifiedName.{QualifiedName}
use Rattle.sr_tree.specs.declared.token.Sign.TheVariants as sign
use Rattle.sr_tree.specs.declared.token.Token.{Token}
use Rattle.sr_tree.specs.declared.token.Word.TheVariants as word
use Rattle.sr_tree.specs.declared.types.Signature.{Signature}
use Rattle.sr_tree.specs.declared.types.TypeTree.{TypeTree}
use Rattle.sr_tree.specs.Declarations as g
use Rattle.sr_tree.specs.Declarations.{SpellsOptionalType, SpellsImport, SpellsConst, SpellsTypeDecl, SpellsOpType, SpellsOpItem, SpellsMoreOpItems, SpellsOp, SpellsValues, SpellsVar, SpellsInitial, SpellsMoreSemaphores, SpellsSem}
use Rattle.sr_tree.specs.Expressions as expressions
use Rattle.sr_tree.specs.Expressions.{SpellsExpr, SpellsMoreExprs, SpellsQualifiedName}
use Rattle.sr_tree.specs.Tables.{IsSign, IsName, name_of}
use Rattle.sr_tree.specs.Types.{SpellsNames, SpellsDecls, SpellsPlainType, SpellsType, SpellsSignature}
use Rattle.sr_expr_reader.specs.Readers.{Readers, is_comma, next_argument_at, more_arguments_at}
use Rattle.sr_tree.specs.Tokens.{sign_at}
use Rattle.sr_expr_reader.specs.TypeReaders.{TypeReaders}
use Rattle.sr_expr_reader.proofs.ExpressionsSound.{SoundReaders, operand-sound, qualified-sound}
use Rattle.sr_expr_reader.proofs.ListsSound.{Grows, grows, list-sound}
use Rattle.sr_expr_reader.proofs.TokensSound.{ASign, a_sign, AWord, a_word, AName, a_name, sign-sound, word-sound, name-sound}
use Rattle.sr_expr_reader.proofs.TypesSound.{SoundTypeReaders, names-sound, decls-sound, plain-type-sound, type-sound, signature-sound}
use Rattle.sr_program_reader.specs.DeclarationReaders.{optional_type_at, import_at, const_at, type_decl_at, optype_at, op_item_at, next_op_item_at, more_op_items_at, op_at, values_at, var_at, initial_at, semaphore_at, next_semaphore_at, more_semaphores_at, sem_at}

-- what is read last, where it is not yet known to be that
pub finish : {A : Type 0} (P : A → List Token → Type 0) (x a : A) (u z : List Token) → Returns x a z → P x u → P a (u ++ z)
finish P x a u z returns h = subst (P x) (sym (append-nil u)) h

-- a semaphore with its value
pub data SpellsSemaphore : Semaphore → List Token → Type 0 where
  semaphore : {e : Option Expr} {u : List Token} (n : Token) → IsName n → SpellsInitial e u
      → SpellsSemaphore (record { span = n.span; name = name_of n; value = e }) (n ∷ u)

-- lists with commas grow as the grammar says

op_items : (i : OpItem) (is : List OpItem) (u v : List Token) → Then (ASign sign.Comma) (λ c. SpellsOpItem) i u → SpellsMoreOpItems is v
    → SpellsMoreOpItems (i ∷ is) (u ++ v)
op_items i is w v (joined (a_sign comma h) d) m = g.one_more_op_item comma h d m

exprs : (e : Expr) (es : List Expr) (u v : List Token) → Then (ASign sign.Comma) (λ c. SpellsExpr 5) e u → SpellsMoreExprs es v → SpellsMoreExprs (e ∷ es) (u ++ v)
exprs e es w v (joined (a_sign comma h) d) m = expressions.one_more_expr comma h d m

semaphores : (s : Semaphore) (ss : List Semaphore) (u v : List Token) → Then (ASign sign.Comma) (λ c. SpellsSemaphore) s u → SpellsMoreSemaphores ss v
    → SpellsMoreSemaphores (s ∷ ss) (u ++ v)
semaphores s ss w v (joined (a_sign comma h) (semaphore n i d)) m = g.one_more_semaphore comma n h i d m

module _ (r : Readers) (l : SoundReaders r) where
  -- values

  more_exprs-sound : (es : List Expr) → Sound (Grows SpellsMoreExprs es) (more_arguments_at r es)
  unfolding more_arguments_at next_argument_at
  more_exprs-sound es = list-sound (ASign sign.Comma) (SpellsExpr 5) SpellsMoreExprs (sign_at sign.Comma) (r.operand 5) is_comma expressions.no_more_exprs exprs
      (sign-sound sign.Comma) (l.operand 5) r.steps es

  values_found : (es : List Expr) (u : List Token)
      → Then (ASign sign.Assign) (λ b. Then (SpellsExpr 5) (λ e. Grows SpellsMoreExprs (e ∷ []))) es u → SpellsValues es u
  values_found es w (joined (a_sign b h) (joined d (grows m))) = g.values b h d m

  no_values_found : (es : List Expr) (u : List Token) → Returns [] es u → SpellsValues es u
  no_values_found es u returns = g.no_values

  initial_found : (e : Option Expr) (u : List Token) → Then (ASign sign.Assign) (λ b. Then (SpellsExpr 5) (λ x. Returns (Some x))) e u → SpellsInitial e u
  initial_found e w (joined (a_sign b h) (joined {a = x} {u = u} d returns)) = ended (λ y. SpellsInitial (Some x) (b ∷ y)) u (g.initial b h d)

  no_initial_found : (e : Option Expr) (u : List Token) → Returns None e u → SpellsInitial e u
  no_initial_found e u returns = g.no_initial

  initial-sound : Sound SpellsInitial (initial_at r)
  unfolding initial_at
  initial-sound = branch-sound
      (weaker initial_found (then-sound (sign-sound sign.Assign) (λ b. then-sound (operand-sound r l 5) (λ e. returned-sound (Some e)))))
      (weaker no_initial_found (returned-sound None))

  -- imports

  import_found : (d : Import) (u : List Token)
      → Then (AWord word.Import) (λ s. Then SpellsNames (λ ns. Returns (record { span = s; names = ns }))) d u → SpellsImport d u
  import_found d w (joined (a_word t h) (joined {a = ns} {u = u} n returns)) =
      ended (λ x. SpellsImport (record { span = t.span; names = ns }) (t ∷ x)) u (g.imports t h n)

  pub import-sound : Sound SpellsImport (import_at r)
  unfolding import_at
  import-sound = weaker import_found (then-sound (word-sound word.Import) (λ s. then-sound (names-sound r) (λ ns. returned-sound (record { span = s; names = ns }))))

  -- semaphores

  semaphore_found : (s : Semaphore) (u : List Token)
      → Then AName (λ n. Then SpellsInitial (λ e. Returns (record { span = n.span; name = n; value = e }))) s u → SpellsSemaphore s u
  semaphore_found s w (joined (a_name n h) (joined {a = e} {u = u} d returns)) =
      ended (λ x. SpellsSemaphore (record { span = n.span; name = name_of n; value = e }) (n ∷ x)) u (semaphore n h d)

  semaphore-sound : Sound SpellsSemaphore (semaphore_at r)
  unfolding semaphore_at
  semaphore-sound = weaker semaphore_found (then-sound name-sound (λ n. then-sound initial-sound (λ e. returned-sound (record { span = n.span; name = n; value = e }))))

  sem_found : (d : SemDecl) (u : List Token)
      → Then (AWord word.Sem) (λ s. Then SpellsSemaphore (λ x. Then (Grows SpellsMoreSemaphores (x ∷ [])) (λ ss. Returns (record { span = s; semaphores = ss })))) d u
      → SpellsSem d u
  sem_found d w (joined (a_word t h) (joined (semaphore {e = e} {u = u} n i x) (joined (grows {bs = ss} {u = v} m) returns))) =
      ended (λ y. SpellsSem (record { span = t.span; semaphores = record { span = n.span; name = name_of n; value = e } ∷ ss }) (t ∷ n ∷ (u ++ y))) v
      (g.semaphores t n h i x m)

  pub sem-sound : Sound SpellsSem (sem_at r)
  unfolding sem_at more_semaphores_at next_semaphore_at
  sem-sound = weaker sem_found (then-sound (word-sound word.Sem) (λ s. then-sound semaphore-sound (λ x. then-sound
      (list-sound (ASign sign.Comma) SpellsSemaphore SpellsMoreSemaphores (sign_at sign.Comma) (semaphore_at r) is_comma g.no_more_semaphores semaphores
      (sign-sound sign.Comma) semaphore-sound r.steps (x ∷ [])) (λ ss. returned-sound (record { span = s; semaphores = ss })))))

  values-sound : Sound SpellsValues (values_at r)
  unfolding values_at
  values-sound = branch-sound
      (weaker values_found (then-sound (sign-sound sign.Assign) (λ b. then-sound (operand-sound r l 5) (λ e. more_exprs-sound (e ∷ [])))))
      (weaker no_values_found (returned-sound []))

-- what stands after the name of an operation
data AfterOpName (n : Name) : OpItem → List Token → Type 0 where
  signed_after : {s : Signature} {u : List Token} → SpellsSignature s u → AfterOpName n (Signed n.span n s) u
  typed_after : {q : QualifiedName} {u : List Token} (colon : Token) → IsSign sign.Colon colon → SpellsQualifiedName q u
      → AfterOpName n (Typed n.span n q) (colon ∷ u)

module _ (r : TypeReaders) (l : SoundTypeReaders r) where
  optional_type_found : (m : Option TypeTree) (u : List Token) → Then (ASign sign.Colon) (λ c. Then SpellsPlainType (λ t. Returns (Some t))) m u
      → SpellsOptionalType m u
  optional_type_found m w (joined (a_sign c h) (joined {a = t} {u = u} d returns)) = ended (λ x. SpellsOptionalType (Some t) (c ∷ x)) u (g.typed c h d)

  no_type_found : (m : Option TypeTree) (u : List Token) → Returns None m u → SpellsOptionalType m u
  no_type_found m u returns = g.no_type

  optional_type-sound : Sound SpellsOptionalType (optional_type_at r)
  unfolding optional_type_at
  optional_type-sound = branch-sound
      (weaker optional_type_found (then-sound (sign-sound sign.Colon) (λ c. then-sound (plain-type-sound r l) (λ t. returned-sound (Some t)))))
      (weaker no_type_found (returned-sound None))

  const_found : (d : ConstDecl) (u : List Token)
      → Then (AWord word.Const) (λ s. Then AName (λ n. Then SpellsOptionalType (λ ty. Then (ASign sign.Assign) (λ b. Then (SpellsExpr 5)
      (λ e. Returns (record { span = s; name = n; ty = ty; value = e })))))) d u → SpellsConst d u
  const_found d w (joined (a_word t h) (joined (a_name n i) (joined {a = ty} {u = u} o (joined (a_sign b j) (joined {a = e} {u = v} x end))))) =
      finish (λ y z. SpellsConst y (t ∷ n ∷ (u ++ b ∷ z))) (record { span = t.span; name = name_of n; ty = ty; value = e }) d v _ end (g.constant t n b h i o j x)

  pub const-sound : Sound SpellsConst (const_at r)
  unfolding const_at
  const-sound = weaker const_found (then-sound (word-sound word.Const) (λ s. then-sound name-sound (λ n. then-sound optional_type-sound (λ ty.
      then-sound (sign-sound sign.Assign) (λ b. then-sound (operand-sound r.expressions l.expressions 5)
      (λ e. returned-sound (record { span = s; name = n; ty = ty; value = e })))))))

  type_found : (d : TypeDecl) (u : List Token)
      → Then (AWord word.Type) (λ s. Then AName (λ n. Then (ASign sign.Equal) (λ q. Then SpellsType (λ ty. Returns (record { span = s; name = n; ty = ty }))))) d u
      → SpellsTypeDecl d u
  type_found d w (joined (a_word t h) (joined (a_name n i) (joined (a_sign q j) (joined {a = ty} {u = u} x end)))) =
      finish (λ y z. SpellsTypeDecl y (t ∷ n ∷ q ∷ z)) (record { span = t.span; name = name_of n; ty = ty }) d u _ end (g.type_decl t n q h i j x)

  pub type_decl-sound : Sound SpellsTypeDecl (type_decl_at r)
  unfolding type_decl_at
  type_decl-sound = weaker type_found (then-sound (word-sound word.Type) (λ s. then-sound name-sound (λ n. then-sound (sign-sound sign.Equal) (λ q.
      then-sound (type-sound r l) (λ ty. returned-sound (record { span = s; name = n; ty = ty }))))))

  optype_found : (d : OpTypeDecl) (u : List Token)
      → Then (AWord word.OpType) (λ s. Then AName (λ n. Then (ASign sign.Equal) (λ q. Then SpellsSignature (λ x. Returns (record { span = s; name = n; signature = x }))))) d u
      → SpellsOpType d u
  optype_found d w (joined (a_word t h) (joined (a_name n i) (joined (a_sign q j) (joined {a = s} {u = u} x end)))) =
      finish (λ y z. SpellsOpType y (t ∷ n ∷ q ∷ z)) (record { span = t.span; name = name_of n; signature = s }) d u _ end (g.optype t n q h i j x)

  pub optype-sound : Sound SpellsOpType (optype_at r)
  unfolding optype_at
  optype-sound = weaker optype_found (then-sound (word-sound word.OpType) (λ s. then-sound name-sound (λ n. then-sound (sign-sound sign.Equal) (λ q.
      then-sound (signature-sound r l) (λ x. returned-sound (record { span = s; name = n; signature = x }))))))

  signed_found : (n : Name) (i : OpItem) (u : List Token) → Then SpellsSignature (λ s. Returns (Signed n.span n s)) i u → AfterOpName n i u
  signed_found n i w (joined {a = s} {u = u} d returns) = ended (AfterOpName n (Signed n.span n s)) u (signed_after d)

  typed_found : (n : Name) (i : OpItem) (u : List Token) → Then (ASign sign.Colon) (λ c. Then SpellsQualifiedName (λ q. Returns (Typed n.span n q))) i u
      → AfterOpName n i u
  typed_found n i w (joined (a_sign c h) (joined {a = q} {u = u} d returns)) = ended (λ x. AfterOpName n (Typed n.span n q) (c ∷ x)) u (typed_after c h d)

  op_item_found : (i : OpItem) (u : List Token) → Then AName AfterOpName i u → SpellsOpItem i u
  op_item_found i u (joined (a_name n h) (signed_after d)) = g.signed n h d
  op_item_found i u (joined (a_name n h) (typed_after c j d)) = g.of_optype n c h j d

  op_item-sound : Sound SpellsOpItem (op_item_at r)
  unfolding op_item_at
  op_item-sound = weaker op_item_found (then-sound name-sound (λ n. branch-sound
      (weaker (typed_found n) (then-sound (sign-sound sign.Colon) (λ c. then-sound qualified-sound (λ q. returned-sound (Typed n.span n q)))))
      (weaker (signed_found n) (then-sound (signature-sound r l) (λ s. returned-sound (Signed n.span n s))))))

  op_found : (d : OpDecl) (u : List Token)
      → Then (AWord word.Op) (λ s. Then SpellsOpItem (λ i. Then (Grows SpellsMoreOpItems (i ∷ [])) (λ is. Returns (record { span = s; items = is })))) d u → SpellsOp d u
  op_found d w (joined (a_word t h) (joined {a = i} {u = u} x (joined (grows {bs = is} {u = v} m) returns))) =
      ended (λ y. SpellsOp (record { span = t.span; items = i ∷ is }) (t ∷ (u ++ y))) v (g.op t h x m)

  pub op-sound : Sound SpellsOp (op_at r)
  unfolding op_at more_op_items_at next_op_item_at
  op-sound = weaker op_found (then-sound (word-sound word.Op) (λ s. then-sound op_item-sound (λ i. then-sound
      (list-sound (ASign sign.Comma) SpellsOpItem SpellsMoreOpItems (sign_at sign.Comma) (op_item_at r) is_comma g.no_more_op_items op_items
      (sign-sound sign.Comma) op_item-sound r.expressions.steps (i ∷ [])) (λ is. returned-sound (record { span = s; items = is })))))

  var_found : (d : VarDecl) (u : List Token)
      → Then (AWord word.Var) (λ s. Then SpellsDecls (λ ds. Then SpellsOptionalType (λ ty. Then SpellsValues
      (λ es. Returns (record { span = s; decls = ds; ty = ty; values = es }))))) d u → SpellsVar d u
  var_found d z (joined (a_word t h) (joined {a = ds} {u = u} x (joined {a = ty} {u = v} o (joined {a = es} {u = w} y returns)))) =
      ended (λ k. SpellsVar (record { span = t.span; decls = ds; ty = ty; values = es }) (t ∷ (u ++ (v ++ k)))) w (g.variables t h x o y)

  pub var-sound : Sound SpellsVar (var_at r)
  unfolding var_at
  var-sound = weaker var_found (then-sound (word-sound word.Var) (λ s. then-sound (decls-sound r.expressions l.expressions) (λ ds. then-sound optional_type-sound
      (λ ty. then-sound (values-sound r.expressions l.expressions) (λ es. returned-sound (record { span = s; decls = ds; ty = ty; values = es }))))))
