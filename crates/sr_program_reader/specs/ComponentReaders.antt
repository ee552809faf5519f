-- Readers of components and of files. None of them reads itself again.
use Rattle.std.specs.Prelude.{Bool, true, false, ◌&&◌, ◌||◌, nat_eq, List, [], ◌∷◌, ◌++◌, length, Option, Some, None, Ok, Err, if◌then◌else◌}
use Rattle.std.specs.Cmp.Lexicographic.{pointwise}
use Rattle.sr_reader.specs.Reader.{Reader, returned, unfit, ◌>>=◌, one, branch, while}
use Rattle.sr_value.specs.declared.place.Span.{Span}
use Rattle.sr_tree.specs.declared.component.Component.{Component}
use Rattle.sr_tree.specs.declared.component.Component.TheVariants.{Resource, SplitResource, Global}
use Rattle.sr_tree.specs.declared.component.File.{File}
use Rattle.sr_tree.specs.declared.component.FinalCode.{FinalCode}
use Rattle.sr_tree.specs.declared.component.Item.{Item}
use Rattle.sr_tree.specs.declared.component.Item.TheVariants as item
use Rattle.sr_tree.specs.declared.component.Proc.{Proc}
use Rattle.sr_tree.specs.declared.component.ProcItem.{ProcItem}
use Rattle.sr_tree.specs.declared.component.ProcItem.TheVariants as proc_item
use Rattle.sr_tree.specs.declared.component.Procedure.{Procedure}
use Rattle.sr_tree.specs.declared.component.Process.{Process}
use Rattle.sr_tree.specs.declared.component.SpecItem.{SpecItem}
use Rattle.sr_tree.specs.declared.component.SpecItem.TheVariants as spec_item
use Rattle.sr_tree.specs.declared.name.Name.{Name}
use Rattle.sr_tree.specs.declared.token.Sign.TheVariants as sign
use Rattle.sr_tree.specs.declared.token.Token.{Token}
use Rattle.sr_tree.specs.declared.token.TokenKind.{TokenKind}
use Rattle.sr_tree.specs.declared.token.Word.TheVariants as word
use Rattle.sr_tree.specs.declared.types.Formal.{Formal}
use Rattle.sr_tree.specs.Tests.{is_sign, is_word, is_name}
use Rattle.sr_tree.specs.Tokens.{sign_at, word_at, name_at, separator_at}
use Rattle.sr_expr_reader.specs.TypeReaders.{TypeReaders, is_separated, formal_at, signature_at}
use Rattle.sr_program_reader.specs.DeclarationReaders.{items_at, list_at, import_at, const_at, type_decl_at, optype_at, op_at, var_at, sem_at}
use Rattle.sr_program_reader.specs.StatementReaders.{StatementReaders, begins_statement, statement_at, enclosed_names_at, returned_name_at, optional_quantifiers_at}

-- ---- names after `body` and `end`

-- whether a token is this name
abbrev pub is_this_name : Name → Token → Bool
is_this_name name t = is_name t.kind && pointwise nat_eq t.text name.text

unfoldable pub this_name_at : Name → Reader Token Span
this_name_at name = one (λ t. if is_this_name name t then Some t.span else None)

-- "end" [name]
unfoldable pub end_at : Name → Reader Token Span
end_at name = do
  span ← word_at word.End
  branch (λ t. is_name t.kind) (this_name_at name) (returned span)

-- ---- specs

-- the words that it begins with in the spec of a resource
abbrev pub begins_resource_spec : TokenKind → Bool
begins_resource_spec k = is_word word.Import k || is_word word.Const k || is_word word.Type k || is_word word.OpType k || is_word word.Op k

-- the words that it begins with in the spec of a global
abbrev pub begins_spec : TokenKind → Bool
begins_spec k = begins_resource_spec k || is_word word.Var k || is_word word.Sem k

-- what may stand in the spec of a resource
unfoldable pub resource_spec_item_at : TypeReaders → Reader Token SpecItem
resource_spec_item_at r = branch (λ t. is_word word.Import t.kind)
    (do
      d ← import_at r.expressions
      returned (spec_item.Import d))
    (branch (λ t. is_word word.Const t.kind)
    (do
      d ← const_at r
      returned (spec_item.Const d))
    (branch (λ t. is_word word.Type t.kind)
    (do
      d ← type_decl_at r
      returned (spec_item.Type d))
    (branch (λ t. is_word word.OpType t.kind)
    (do
      d ← optype_at r
      returned (spec_item.OpType d))
    (do
      d ← op_at r
      returned (spec_item.Op d)))))

-- what may stand in the spec of a global
unfoldable pub spec_item_at : TypeReaders → Reader Token SpecItem
spec_item_at r = branch (λ t. is_word word.Var t.kind)
    (do
      d ← var_at r
      returned (spec_item.Var d))
    (branch (λ t. is_word word.Sem t.kind)
    (do
      d ← sem_at r.expressions
      returned (spec_item.Sem d))
    (resource_spec_item_at r))

-- ---- procs, procedures, processes and final code

-- what a proc item begins with
abbrev pub begins_proc_item : TokenKind → Bool
begins_proc_item k = is_word word.Const k || is_word word.Var k || is_word word.Op k || is_word word.Sem k || begins_statement k

unfoldable pub proc_item_at : StatementReaders → Reader Token ProcItem
proc_item_at r = branch (λ t. is_word word.Const t.kind)
    (do
      d ← const_at r.types
      returned (proc_item.Const d))
    (branch (λ t. is_word word.Var t.kind)
    (do
      d ← var_at r.types
      returned (proc_item.Var d))
    (branch (λ t. is_word word.Op t.kind)
    (do
      d ← op_at r.types
      returned (proc_item.Op d))
    (branch (λ t. is_word word.Sem t.kind)
    (do
      d ← sem_at r.types.expressions
      returned (proc_item.Sem d))
    (do
      s ← statement_at r
      returned (proc_item.Statement s)))))

unfoldable pub proc_block_at : StatementReaders → Reader Token (List ProcItem)
proc_block_at r = list_at (λ t. begins_proc_item t.kind) (proc_item_at r) r.types.expressions.steps

unfoldable pub proc_at : StatementReaders → Reader Token Proc
proc_at r = do
  span ← word_at word.Proc
  name ← name_at
  formals ← enclosed_names_at r.types.expressions
  result ← returned_name_at
  block ← proc_block_at r
  last ← end_at name
  returned (record { span = span; name = name; formals = formals; returned = result; block = block })

unfoldable pub procedure_at : StatementReaders → Reader Token Procedure
procedure_at r = do
  span ← word_at word.Procedure
  name ← name_at
  signature ← signature_at r.types
  block ← proc_block_at r
  last ← end_at name
  returned (record { span = span; name = name; signature = signature; block = block })

unfoldable pub process_at : StatementReaders → Reader Token Process
process_at r = do
  span ← word_at word.Process
  name ← name_at
  quantifiers ← optional_quantifiers_at r.types.expressions
  block ← proc_block_at r
  last ← end_at name
  returned (record { span = span; name = name; quantifiers = quantifiers; block = block })

unfoldable pub final_at : StatementReaders → Reader Token FinalCode
final_at r = do
  span ← word_at word.Final
  block ← proc_block_at r
  last ← word_at word.End
  returned (record { span = span; block = block })

-- ---- items

-- what an item other than final code begins with
abbrev pub begins_item : TokenKind → Bool
begins_item k = begins_spec k || is_word word.Proc k || is_word word.Procedure k || is_word word.Process k || begins_statement k

-- an item other than final code
unfoldable pub item_at : StatementReaders → Reader Token Item
item_at r = branch (λ t. begins_spec t.kind)
    (do
      i ← spec_item_at r.types
      returned (item.Spec i))
    (branch (λ t. is_word word.Proc t.kind)
    (do
      p ← proc_at r
      returned (item.Proc p))
    (branch (λ t. is_word word.Procedure t.kind)
    (do
      p ← procedure_at r
      returned (item.Procedure p))
    (branch (λ t. is_word word.Process t.kind)
    (do
      p ← process_at r
      returned (item.Process p))
    (do
      s ← statement_at r
      returned (item.Statement s)))))

-- items other than final code, after those that were read
unfoldable pub plain_items_at : StatementReaders → List Item × Bool → Reader Token (List Item × Bool)
plain_items_at r state = items_at (λ t. begins_item t.kind) (item_at r) r.types.expressions.steps state

-- final code, where an item may begin
abbrev pub is_final_code : List Item × Bool → Token → Bool
is_final_code state t = state.1 && is_word word.Final t.kind

-- final code and the items after it
unfoldable pub final_and_items_at : StatementReaders → List Item → Reader Token (List Item)
final_and_items_at r before = do
  f ← final_at r
  state ← plain_items_at r (before ++ item.Final f ∷ [], false)
  returned state.0

-- the items of a resource, with final code once at most
unfoldable pub resource_items_at : StatementReaders → Reader Token (List Item)
resource_items_at r = do
  state ← plain_items_at r ([], true)
  branch (is_final_code state) (final_and_items_at r state.0) (returned state.0)

-- the items of a global
unfoldable pub global_items_at : StatementReaders → Reader Token (List Item)
global_items_at r = list_at (λ t. begins_item t.kind) (item_at r) r.types.expressions.steps

-- ---- components

-- the words that pass a formal otherwise than by value
abbrev pub is_mode_by_place : TokenKind → Bool
is_mode_by_place k = is_word word.Var k || is_word word.Res k

unfoldable pub value_formal_at : TypeReaders → Reader Token Formal
value_formal_at r = branch (λ t. is_mode_by_place t.kind) unfit (formal_at r)

-- {";" formal}
unfoldable pub next_value_formal_at : TypeReaders → List Formal → Reader Token (List Formal)
next_value_formal_at r fs = do
  separator ← separator_at
  f ← value_formal_at r
  returned (fs ++ f ∷ [])

unfoldable pub more_value_formals_at : TypeReaders → List Formal → Reader Token (List Formal)
more_value_formals_at r fs = while is_separated (next_value_formal_at r) r.expressions.steps fs

-- formals that are passed by value
unfoldable pub value_formals_at : TypeReaders → Reader Token (List Formal)
value_formals_at r = do
  opening ← sign_at sign.OpenParen
  branch (λ t. is_sign sign.CloseParen t.kind)
      (do
        closing ← sign_at sign.CloseParen
        returned [])
      (do
        f ← value_formal_at r
        fs ← more_value_formals_at r (f ∷ [])
        closing ← sign_at sign.CloseParen
        returned fs)

unfoldable pub optional_value_formals_at : TypeReaders → Reader Token (List Formal)
optional_value_formals_at r = branch (λ t. is_sign sign.OpenParen t.kind) (value_formals_at r) (returned [])

-- what stands after the name of a resource that isn't split
unfoldable pub whole_resource_at : StatementReaders → Span → Name → Reader Token Component
whole_resource_at r span name = do
  formals ← value_formals_at r.types
  items ← resource_items_at r
  last ← end_at name
  returned (Resource span name formals items)

unfoldable pub resource_spec_at : TypeReaders → Reader Token (List SpecItem)
resource_spec_at r = list_at (λ t. begins_resource_spec t.kind) (resource_spec_item_at r) r.expressions.steps

unfoldable pub global_spec_at : TypeReaders → Reader Token (List SpecItem)
global_spec_at r = list_at (λ t. begins_spec t.kind) (spec_item_at r) r.expressions.steps

-- what stands after the name of a resource that is split
unfoldable pub split_resource_at : StatementReaders → Span → Name → Reader Token Component
split_resource_at r span name = do
  spec ← resource_spec_at r.types
  body ← word_at word.Body
  same ← this_name_at name
  formals ← optional_value_formals_at r.types
  items ← resource_items_at r
  last ← end_at name
  returned (SplitResource span name spec formals items)

unfoldable pub resource_at : StatementReaders → Reader Token Component
resource_at r = do
  span ← word_at word.Resource
  name ← name_at
  branch (λ t. is_sign sign.OpenParen t.kind) (whole_resource_at r span name) (split_resource_at r span name)

-- ["body" name list(item)] of a global
unfoldable pub global_body_at : StatementReaders → Name → Reader Token (Option (List Item))
global_body_at r name = branch (λ t. is_word word.Body t.kind)
    (do
      body ← word_at word.Body
      same ← this_name_at name
      items ← global_items_at r
      returned (Some items))
    (returned None)

unfoldable pub global_at : StatementReaders → Reader Token Component
global_at r = do
  span ← word_at word.Global
  name ← name_at
  spec ← global_spec_at r.types
  body ← global_body_at r name
  last ← end_at name
  returned (Global span name spec body)

unfoldable pub component_at : StatementReaders → Reader Token Component
component_at r = branch (λ t. is_word word.Global t.kind) (global_at r) (resource_at r)

-- ---- files

abbrev pub begins_component : TokenKind → Bool
begins_component k = is_word word.Resource k || is_word word.Global k

-- the end of the tokens
unfoldable pub end_of_tokens : Reader Token (Unit {0})
end_of_tokens [] = Ok (tt, [])
end_of_tokens (t ∷ s) = Err (length (t ∷ s))

unfoldable pub file_at : StatementReaders → Reader Token File
file_at r = do
  components ← list_at (λ t. begins_component t.kind) (component_at r) r.types.expressions.steps
  nothing ← end_of_tokens
  returned (record { components = components })
