-- Readers of declarations, and of lists of items with separators.
use Rattle.std.specs.Prelude.{ℕ, Bool, true, false, List, [], ◌∷◌, ◌++◌, Option, Some, None, if◌then◌else◌}
use Rattle.sr_reader.specs.Reader.{Reader, returned, ◌>>=◌, branch, while}
use Rattle.sr_tree.specs.declared.declaration.ConstDecl.{ConstDecl}
use Rattle.sr_tree.specs.declared.declaration.Import.{Import}
use Rattle.sr_tree.specs.declared.declaration.OpDecl.{OpDecl}
use Rattle.sr_tree.specs.declared.declaration.OpItem.{OpItem}
use Rattle.sr_tree.specs.declared.declaration.OpItem.TheVariants.{Signed, Typed}
use Rattle.sr_tree.specs.declared.declaration.OpTypeDecl.{OpTypeDecl}
use Rattle.sr_tree.specs.declared.declaration.SemDecl.{SemDecl}
use Rattle.sr_tree.specs.declared.declaration.Semaphore.{Semaphore}
use Rattle.sr_tree.specs.declared.declaration.TypeDecl.{TypeDecl}
use Rattle.sr_tree.specs.declared.declaration.VarDecl.{VarDecl}
use Rattle.sr_tree.specs.declared.expr.Expr.{Expr}
use Rattle.sr_tree.specs.declared.token.Sign.TheVariants as sign
use Rattle.sr_tree.specs.declared.token.Token.{Token}
use Rattle.sr_tree.specs.declared.token.Word.TheVariants as word
use Rattle.sr_tree.specs.declared.types.TypeTree.{TypeTree}
use Rattle.sr_tree.specs.Tests.{is_sign}
use Rattle.sr_expr_reader.specs.Readers.{Readers, qualified_at, is_comma, more_arguments_at, operand_at}
use Rattle.sr_tree.specs.Tokens.{sign_at, word_at, name_at, separator_at, is_separator}
use Rattle.sr_expr_reader.specs.TypeReaders.{TypeReaders, names_at, decls_at, signature_at, plain_type_at, type_at}

-- ---- lists of items

-- whether a separator or an item stands next, where a list has these items so far and another may begin or not
abbrev pub may_go_on : {A : Type 0} → (Token → Bool) → List A × Bool → Token → Bool
may_go_on begins state t = if is_separator t.kind then true else if state.1 then begins t else false

-- a separator, after which an item may begin, or an item, after which none may
unfoldable pub next_item_at : {A : Type 0} → Reader Token A → List A × Bool → Reader Token (List A × Bool)
next_item_at item state = branch (λ t. is_separator t.kind)
    (do
      separator ← separator_at
      returned (state.0, true))
    (do
      i ← item
      returned (state.0 ++ i ∷ [], false))

unfoldable pub items_at : {A : Type 0} → (Token → Bool) → Reader Token A → ℕ → List A × Bool → Reader Token (List A × Bool)
items_at begins item steps state = while (may_go_on begins) (next_item_at item) steps state

-- list(X): items with one or more separators between two and any number before and after
unfoldable pub list_at : {A : Type 0} → (Token → Bool) → Reader Token A → ℕ → Reader Token (List A)
list_at begins item steps = do
  state ← items_at begins item steps ([], true)
  returned state.0

-- ---- declarations

-- [":" type]
unfoldable pub optional_type_at : TypeReaders → Reader Token (Option TypeTree)
optional_type_at r = branch (λ t. is_sign sign.Colon t.kind)
    (do
      colon ← sign_at sign.Colon
      ty ← plain_type_at r
      returned (Some ty))
    (returned None)

-- "import" name {"," name}
unfoldable pub import_at : Readers → Reader Token Import
import_at r = do
  span ← word_at word.Import
  ns ← names_at r
  returned (record { span = span; names = ns })

-- "const" name [":" type] ":=" expr
unfoldable pub const_at : TypeReaders → Reader Token ConstDecl
const_at r = do
  span ← word_at word.Const
  n ← name_at
  ty ← optional_type_at r
  becomes ← sign_at sign.Assign
  e ← operand_at r.expressions 5
  returned (record { span = span; name = n; ty = ty; value = e })

-- "type" name "=" type
unfoldable pub type_decl_at : TypeReaders → Reader Token TypeDecl
type_decl_at r = do
  span ← word_at word.Type
  n ← name_at
  equal ← sign_at sign.Equal
  ty ← type_at r
  returned (record { span = span; name = n; ty = ty })

-- "optype" name "=" signature
unfoldable pub optype_at : TypeReaders → Reader Token OpTypeDecl
optype_at r = do
  span ← word_at word.OpType
  n ← name_at
  equal ← sign_at sign.Equal
  s ← signature_at r
  returned (record { span = span; name = n; signature = s })

-- name signature | name ":" qname
unfoldable pub op_item_at : TypeReaders → Reader Token OpItem
op_item_at r = do
  n ← name_at
  branch (λ t. is_sign sign.Colon t.kind)
      (do
        colon ← sign_at sign.Colon
        q ← qualified_at
        returned (Typed n.span n q))
      (do
        s ← signature_at r
        returned (Signed n.span n s))

-- {"," op_item}
unfoldable pub next_op_item_at : TypeReaders → List OpItem → Reader Token (List OpItem)
next_op_item_at r is = do
  comma ← sign_at sign.Comma
  i ← op_item_at r
  returned (is ++ i ∷ [])

unfoldable pub more_op_items_at : TypeReaders → List OpItem → Reader Token (List OpItem)
more_op_items_at r is = while is_comma (next_op_item_at r) r.expressions.steps is

-- "op" op_item {"," op_item}
unfoldable pub op_at : TypeReaders → Reader Token OpDecl
op_at r = do
  span ← word_at word.Op
  i ← op_item_at r
  is ← more_op_items_at r (i ∷ [])
  returned (record { span = span; items = is })

-- [":=" expr {"," expr}]
unfoldable pub values_at : Readers → Reader Token (List Expr)
values_at r = branch (λ t. is_sign sign.Assign t.kind)
    (do
      becomes ← sign_at sign.Assign
      e ← operand_at r 5
      more_arguments_at r (e ∷ []))
    (returned [])

-- "var" decl {"," decl} [":" type] [":=" expr {"," expr}]
unfoldable pub var_at : TypeReaders → Reader Token VarDecl
var_at r = do
  span ← word_at word.Var
  ds ← decls_at r.expressions
  ty ← optional_type_at r
  es ← values_at r.expressions
  returned (record { span = span; decls = ds; ty = ty; values = es })

-- [":=" expr]
unfoldable pub initial_at : Readers → Reader Token (Option Expr)
initial_at r = branch (λ t. is_sign sign.Assign t.kind)
    (do
      becomes ← sign_at sign.Assign
      e ← operand_at r 5
      returned (Some e))
    (returned None)

-- name [":=" expr]
unfoldable pub semaphore_at : Readers → Reader Token Semaphore
semaphore_at r = do
  n ← name_at
  e ← initial_at r
  returned (record { span = n.span; name = n; value = e })

-- {"," name [":=" expr]}
unfoldable pub next_semaphore_at : Readers → List Semaphore → Reader Token (List Semaphore)
next_semaphore_at r ss = do
  comma ← sign_at sign.Comma
  s ← semaphore_at r
  returned (ss ++ s ∷ [])

unfoldable pub more_semaphores_at : Readers → List Semaphore → Reader Token (List Semaphore)
more_semaphores_at r ss = while is_comma (next_semaphore_at r) r.steps ss

-- "sem" name [":=" expr] {"," name [":=" expr]}
unfoldable pub sem_at : Readers → Reader Token SemDecl
sem_at r = do
  span ← word_at word.Sem
  s ← semaphore_at r
  ss ← more_semaphores_at r (s ∷ [])
  returned (record { span = span; semaphores = ss })
