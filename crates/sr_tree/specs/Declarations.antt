-- Which lists of tokens spell which declarations.
use Rattle.std.specs.Prelude.{List, [], ◌∷◌, ◌++◌, Option, Some, None}
use Rattle.sr_tree.specs.declared.declaration.ConstDecl.{ConstDecl}
use Rattle.sr_tree.specs.declared.declaration.Import.{Import}
use Rattle.sr_tree.specs.declared.declaration.OpDecl.{OpDecl}
use Rattle.sr_tree.specs.declared.declaration.OpItem.{OpItem}
use Rattle.sr_tree.specs.declared.declaration.OpItem.TheVariants.{Signed, Typed}
use Rattle.sr_tree.specs.declared.declaration.OpTypeDecl.{OpTypeDecl}
use Rattle.sr_tree.specs.declared.declaration.SemDecl.{SemDecl}
use Rattle.sr_tree.specs.declared.declaration.Semaphore.{Semaphore}
use Rattle.sr_tree.specs.declared.declaration.TypeDecl.{TypeDecl}
use Rattle.sr_tree.specs.declared.declaration.VarDecl.{VarDecl}
use Rattle.sr_tree.specs.declared.expr.Expr.{Expr}
use Rattle.sr_tree.specs.declared.name.Name.{Name}
use Rattle.sr_tree.specs.declared.name.QualifiedName.{QualifiedName}
use Rattle.sr_tree.specs.declared.token.Sign.TheVariants as sign
use Rattle.sr_tree.specs.declared.token.Token.{Token}
use Rattle.sr_tree.specs.declared.token.Word.TheVariants as word
use Rattle.sr_tree.specs.declared.types.Decl.{Decl}
use Rattle.sr_tree.specs.declared.types.Signature.{Signature}
use Rattle.sr_tree.specs.declared.types.TypeTree.{TypeTree}
use Rattle.sr_tree.specs.Tables.{IsSign, IsWord, IsName, name_of}
use Rattle.sr_tree.specs.Expressions.{SpellsExpr, SpellsMoreExprs, SpellsQualifiedName}
use Rattle.sr_tree.specs.Types.{SpellsNames, SpellsDecls, SpellsPlainType, SpellsType, SpellsSignature}

-- [":" type]
pub data SpellsOptionalType : Option TypeTree → List Token → Type 0 where
  no_type : SpellsOptionalType None []
  typed : {t : TypeTree} {u : List Token} (colon : Token) → IsSign sign.Colon colon → SpellsPlainType t u → SpellsOptionalType (Some t) (colon ∷ u)

-- import = "import" name {"," name}
pub data SpellsImport : Import → List Token → Type 0 where
  imports : {ns : List Name} {u : List Token} (t : Token) → IsWord word.Import t → SpellsNames ns u
      → SpellsImport (record { span = t.span; names = ns }) (t ∷ u)

-- const = "const" name [":" type] ":=" expr
pub data SpellsConst : ConstDecl → List Token → Type 0 where
  constant : {ty : Option TypeTree} {e : Expr} {u v : List Token} (t n becomes : Token) → IsWord word.Const t → IsName n
      → SpellsOptionalType ty u → IsSign sign.Assign becomes → SpellsExpr 5 e v
      → SpellsConst (record { span = t.span; name = name_of n; ty = ty; value = e }) (t ∷ n ∷ (u ++ becomes ∷ v))

-- type_decl = "type" name "=" type
pub data SpellsTypeDecl : TypeDecl → List Token → Type 0 where
  type_decl : {ty : TypeTree} {u : List Token} (t n equal : Token) → IsWord word.Type t → IsName n → IsSign sign.Equal equal → SpellsType ty u
      → SpellsTypeDecl (record { span = t.span; name = name_of n; ty = ty }) (t ∷ n ∷ equal ∷ u)

-- optype = "optype" name "=" signature
pub data SpellsOpType : OpTypeDecl → List Token → Type 0 where
  optype : {s : Signature} {u : List Token} (t n equal : Token) → IsWord word.OpType t → IsName n → IsSign sign.Equal equal → SpellsSignature s u
      → SpellsOpType (record { span = t.span; name = name_of n; signature = s }) (t ∷ n ∷ equal ∷ u)

-- op_item = name signature | name ":" qname
pub data SpellsOpItem : OpItem → List Token → Type 0 where
  signed : {s : Signature} {u : List Token} (n : Token) → IsName n → SpellsSignature s u → SpellsOpItem (Signed n.span (name_of n) s) (n ∷ u)
  of_optype : {q : QualifiedName} {u : List Token} (n colon : Token) → IsName n → IsSign sign.Colon colon → SpellsQualifiedName q u
      → SpellsOpItem (Typed n.span (name_of n) q) (n ∷ colon ∷ u)

-- {"," op_item}
pub data SpellsMoreOpItems : List OpItem → List Token → Type 0 where
  no_more_op_items : SpellsMoreOpItems [] []
  one_more_op_item : {i : OpItem} {is : List OpItem} {u v : List Token} (comma : Token) → IsSign sign.Comma comma → SpellsOpItem i u
      → SpellsMoreOpItems is v → SpellsMoreOpItems (i ∷ is) (comma ∷ (u ++ v))

-- op = "op" op_item {"," op_item}
pub data SpellsOp : OpDecl → List Token → Type 0 where
  op : {i : OpItem} {is : List OpItem} {u v : List Token} (t : Token) → IsWord word.Op t → SpellsOpItem i u → SpellsMoreOpItems is v
      → SpellsOp (record { span = t.span; items = i ∷ is }) (t ∷ (u ++ v))

-- [":=" expr {"," expr}]
pub data SpellsValues : List Expr → List Token → Type 0 where
  no_values : SpellsValues [] []
  values : {e : Expr} {es : List Expr} {u v : List Token} (becomes : Token) → IsSign sign.Assign becomes → SpellsExpr 5 e u
      → SpellsMoreExprs es v → SpellsValues (e ∷ es) (becomes ∷ (u ++ v))

-- var = "var" decl {"," decl} [":" type] [":=" expr {"," expr}]
pub data SpellsVar : VarDecl → List Token → Type 0 where
  variables : {ds : List Decl} {ty : Option TypeTree} {es : List Expr} {u v w : List Token} (t : Token) → IsWord word.Var t → SpellsDecls ds u
      → SpellsOptionalType ty v → SpellsValues es w
      → SpellsVar (record { span = t.span; decls = ds; ty = ty; values = es }) (t ∷ (u ++ (v ++ w)))

-- [":=" expr]
pub data SpellsInitial : Option Expr → List Token → Type 0 where
  no_initial : SpellsInitial None []
  initial : {e : Expr} {u : List Token} (becomes : Token) → IsSign sign.Assign becomes → SpellsExpr 5 e u → SpellsInitial (Some e) (becomes ∷ u)

-- {"," name [":=" expr]}
pub data SpellsMoreSemaphores : List Semaphore → List Token → Type 0 where
  no_more_semaphores : SpellsMoreSemaphores [] []
  one_more_semaphore : {e : Option Expr} {ss : List Semaphore} {u v : List Token} (comma n : Token) → IsSign sign.Comma comma → IsName n
      → SpellsInitial e u → SpellsMoreSemaphores ss v
      → SpellsMoreSemaphores (record { span = n.span; name = name_of n; value = e } ∷ ss) (comma ∷ n ∷ (u ++ v))

-- sem = "sem" name [":=" expr] {"," name [":=" expr]}
pub data SpellsSem : SemDecl → List Token → Type 0 where
  semaphores : {e : Option Expr} {ss : List Semaphore} {u v : List Token} (t n : Token) → IsWord word.Sem t → IsName n → SpellsInitial e u
      → SpellsMoreSemaphores ss v
      → SpellsSem (record { span = t.span; semaphores = record { span = n.span; name = name_of n; value = e } ∷ ss }) (t ∷ n ∷ (u ++ v))
