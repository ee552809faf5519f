-- Readers of types, signatures and declared names. What reads a type from after a token again is a field of a
-- record, as with expressions.
use Rattle.std.specs.Prelude.{ℕ, zero, suc, Bool, true, false, List, [], ◌∷◌, ◌++◌, Option, Some, None, is_some, option_map, if◌then◌else◌}
use Rattle.sr_reader.specs.Reader.{Reader, returned, unfit, ◌>>=◌, one, branch, while}
use Rattle.sr_value.specs.declared.place.Span.{Span}
use Rattle.sr_tree.specs.declared.expr.BasicType.{BasicType}
use Rattle.sr_tree.specs.declared.expr.BasicType.TheVariants as basic
use Rattle.sr_tree.specs.declared.expr.Expr.{Expr}
use Rattle.sr_tree.specs.declared.name.Name.{Name}
use Rattle.sr_tree.specs.declared.token.Sign.TheVariants as sign
use Rattle.sr_tree.specs.declared.token.Token.{Token}
use Rattle.sr_tree.specs.declared.token.TokenKind.{TokenKind}
use Rattle.sr_tree.specs.declared.token.TokenKind.TheVariants as kind
use Rattle.sr_tree.specs.declared.token.Word.TheVariants as word
use Rattle.sr_tree.specs.declared.types.Decl.{Decl}
use Rattle.sr_tree.specs.declared.types.DimsTree.{DimsTree}
use Rattle.sr_tree.specs.declared.types.Formal.{Formal, roll-Formal}
use Rattle.sr_tree.specs.declared.types.InvocationKind.{InvocationKind}
use Rattle.sr_tree.specs.declared.types.PassMode.{PassMode}
use Rattle.sr_tree.specs.declared.types.RangeTree.{RangeTree}
use Rattle.sr_tree.specs.declared.types.RangeTree.TheVariants as range
use Rattle.sr_tree.specs.declared.types.Returned.{Returned, out-Returned, roll-Returned}
use Rattle.sr_tree.specs.declared.types.Signature.{Signature, roll-Signature}
use Rattle.sr_tree.specs.declared.types.TypePlace.{TypePlace}
use Rattle.sr_tree.specs.declared.types.TypePlace.TheVariants.{Declaration, Elsewhere}
use Rattle.sr_tree.specs.declared.types.TypeTree.{TypeTree}
use Rattle.sr_tree.specs.declared.types.TypeTree.TheFolds.{fold-TypeTree}
use Rattle.sr_tree.specs.declared.types.TypeTree.TheOpen.{TypeTree-F}
use Rattle.sr_tree.specs.declared.types.TypeTree.TheVariants as ty
use Rattle.sr_tree.specs.Expressions.{expr_span}
use Rattle.sr_tree.specs.Tables.{basic_of}
use Rattle.sr_tree.specs.Tests.{is_sign, is_word}
use Rattle.sr_tree.specs.Types.{kind_of, pass_mode_of}
use Rattle.sr_expr_reader.specs.Readers.{Readers, readers, qualified_at, is_comma, operand_at}
use Rattle.sr_tree.specs.Tokens.{sign_at, word_at, name_at, separator_at, is_separator}

-- `declared` reads a type from after a token within the declaration of a type, and `nested` one elsewhere
pub record TypeReaders : Type 0 where
  pub expressions : Readers
  pub nested : Reader Token TypeTree
  pub declared : Reader Token TypeTree

abbrev pub nested_in : TypePlace → TypeReaders → Reader Token TypeTree
nested_in Declaration r = r.declared
nested_in Elsewhere r = r.nested

-- readers of what stands at a place
abbrev pub within : TypePlace → TypeReaders → TypeReaders
within place r = record r { nested = nested_in place r }

-- single tokens
abbrev pub basic_type : Span → BasicType → TypeTree
basic_type span basic.Int = ty.Int span
basic_type span basic.Bool = ty.Bool span
basic_type span basic.Char = ty.Char span

unfoldable pub basic_type_at : Reader Token TypeTree
basic_type_at = one (λ t. option_map (basic_type t.span) (basic_of t.kind))

abbrev pub mode_of : TokenKind → Option PassMode
mode_of (kind.Word w) = pass_mode_of w
mode_of _ = None

unfoldable pub mode_word_at : Reader Token (Span × PassMode)
mode_word_at = one (λ t. option_map (λ m. (t.span, m)) (mode_of t.kind))

abbrev pub invocation_kind_of : TokenKind → Option InvocationKind
invocation_kind_of (kind.Word w) = kind_of w
invocation_kind_of _ = None

unfoldable pub kind_at : Reader Token InvocationKind
kind_at = one (λ t. invocation_kind_of t.kind)

-- {"," name}
unfoldable pub next_name_at : List Name → Reader Token (List Name)
next_name_at ns = do
  comma ← sign_at sign.Comma
  n ← name_at
  returned (ns ++ n ∷ [])

unfoldable pub more_names_at : Readers → List Name → Reader Token (List Name)
more_names_at r ns = while is_comma next_name_at r.steps ns

-- name {"," name}
unfoldable pub names_at : Readers → Reader Token (List Name)
names_at r = do
  n ← name_at
  more_names_at r (n ∷ [])

-- ":" (expr | "*") after a lower bound
unfoldable pub upper_bound_at : Readers → Expr → Reader Token RangeTree
upper_bound_at r low = do
  colon ← sign_at sign.Colon
  branch (λ t. is_sign sign.Star t.kind)
      (do
        star ← sign_at sign.Star
        returned (range.From (expr_span low) low))
      (do
        high ← r.operand 5
        returned (range.Bounds (expr_span low) low high))

unfoldable pub range_at : Readers → Reader Token RangeTree
range_at r = branch (λ t. is_sign sign.Star t.kind)
    (do
      star ← sign_at sign.Star
      returned (range.Any star))
    (do
      low ← operand_at r 5
      branch (λ t. is_sign sign.Colon t.kind) (upper_bound_at r low) (returned (range.Length (expr_span low) low)))

unfoldable pub second_range_at : Readers → Reader Token (Option RangeTree)
second_range_at r = branch (λ t. is_sign sign.Comma t.kind)
    (do
      comma ← sign_at sign.Comma
      second ← range_at r
      returned (Some second))
    (returned None)

unfoldable pub dims_at : Readers → Reader Token DimsTree
dims_at r = do
  span ← sign_at sign.OpenBracket
  first ← range_at r
  second ← second_range_at r
  closing ← sign_at sign.CloseBracket
  returned (record { span = span; first = first; second = second })

unfoldable pub decl_at : Readers → Reader Token Decl
decl_at r = do
  n ← name_at
  branch (λ t. is_sign sign.OpenBracket t.kind)
      (do
        dims ← dims_at r
        returned (record { span = n.span; name = n; dims = Some dims }))
      (returned (record { span = n.span; name = n; dims = None }))

-- {"," decl}
unfoldable pub next_decl_at : Readers → List Decl → Reader Token (List Decl)
next_decl_at r ds = do
  comma ← sign_at sign.Comma
  d ← decl_at r
  returned (ds ++ d ∷ [])

unfoldable pub more_decls_at : Readers → List Decl → Reader Token (List Decl)
more_decls_at r ds = while is_comma (next_decl_at r) r.steps ds

unfoldable pub decls_at : Readers → Reader Token (List Decl)
decls_at r = do
  d ← decl_at r
  more_decls_at r (d ∷ [])

-- ["val" | "var" | "res"]
unfoldable pub mode_at : Reader Token (Option (Span × PassMode))
mode_at = branch (λ t. is_some (mode_of t.kind))
    (do
      m ← mode_word_at
      returned (Some m))
    (returned None)

-- the span of the first token of a formal
abbrev pub formal_start : Option (Span × PassMode) → List Decl → Span
formal_start (Some m) ds = m.0
formal_start None (d ∷ ds) = d.span
formal_start None [] = record { file = 0; from = 0; to = 0; line = 0 }

-- what stands after the word before a formal
unfoldable pub formal_after_at : TypeReaders → Option (Span × PassMode) → Reader Token Formal
formal_after_at r m = do
  ds ← decls_at r.expressions
  colon ← sign_at sign.Colon
  t ← r.nested
  returned (roll-Formal (record { span = formal_start m ds; mode = option_map (λ x. x.1) m; decls = ds; ty = t }))

unfoldable pub formal_at : TypeReaders → Reader Token Formal
formal_at r = do
  m ← mode_at
  formal_after_at r m

abbrev pub is_separated : {A : Type 0} → A → Token → Bool
is_separated a t = is_separator t.kind

-- {";" formal}
unfoldable pub next_formal_at : TypeReaders → List Formal → Reader Token (List Formal)
next_formal_at r fs = do
  separator ← separator_at
  f ← formal_at r
  returned (fs ++ f ∷ [])

unfoldable pub more_formals_at : TypeReaders → List Formal → Reader Token (List Formal)
more_formals_at r fs = while is_separated (next_formal_at r) r.expressions.steps fs

-- [formal {";" formal}] ")"
unfoldable pub formals_after_at : TypeReaders → Reader Token (List Formal)
formals_after_at r = branch (λ t. is_sign sign.CloseParen t.kind)
    (do
      closing ← sign_at sign.CloseParen
      returned [])
    (do
      f ← formal_at r
      fs ← more_formals_at r (f ∷ [])
      closing ← sign_at sign.CloseParen
      returned fs)

unfoldable pub formals_at : TypeReaders → Reader Token (List Formal)
formals_at r = do
  opening ← sign_at sign.OpenParen
  formals_after_at r

-- ["returns" decl ":" type]
unfoldable pub returned_at : TypeReaders → Reader Token (Option Returned)
returned_at r = branch (λ t. is_word word.Returns t.kind)
    (do
      span ← word_at word.Returns
      d ← decl_at r.expressions
      colon ← sign_at sign.Colon
      t ← r.nested
      returned (Some (roll-Returned (record { span = span; decl = d; ty = t }))))
    (returned None)

-- ["," kind] "}"
unfoldable pub more_kinds_at : Reader Token (List InvocationKind)
more_kinds_at = branch (λ t. is_sign sign.Comma t.kind)
    (do
      comma ← sign_at sign.Comma
      k ← kind_at
      closing ← sign_at sign.CloseBrace
      returned (k ∷ []))
    (do
      closing ← sign_at sign.CloseBrace
      returned [])

-- ["{" kind ["," kind] "}"]
unfoldable pub kinds_at : Reader Token (List InvocationKind)
kinds_at = branch (λ t. is_sign sign.OpenBrace t.kind)
    (do
      opening ← sign_at sign.OpenBrace
      k ← kind_at
      ks ← more_kinds_at
      returned (k ∷ ks))
    (returned [])

-- whether the braces after a type would belong to a signature at its end
abbrev pub has_no_kinds : {A : Type 0} → List A → Bool
has_no_kinds [] = true
has_no_kinds (k ∷ ks) = false

abbrev pub type_ends_open : TypeTree-F Bool Bool Bool Bool → Bool
type_ends_open (TypeTree-F.CapOperation span signature) = signature
type_ends_open (TypeTree-F.Array span dims item) = item
type_ends_open _ = false

unfoldable pub ends_open : TypeTree → Bool
ends_open = fold-TypeTree Bool Bool Bool Bool type_ends_open (λ formal. false) (λ returned. false) (λ signature. has_no_kinds signature.kinds)

abbrev pub returns_open : Option Returned → Bool
returns_open None = false
returns_open (Some r) = ends_open (out-Returned r).ty

-- the braces of a signature, where they don't belong to one that its type ends in
unfoldable pub own_kinds_at : Option Returned → Reader Token (List InvocationKind)
own_kinds_at r = if returns_open r then returned [] else kinds_at

unfoldable pub signature_at : TypeReaders → Reader Token Signature
signature_at r = do
  span ← sign_at sign.OpenParen
  fs ← formals_after_at r
  x ← returned_at r
  ks ← own_kinds_at x
  returned (roll-Signature (record { span = span; formals = fs; returned = x; kinds = ks }))

-- "string" "[" (expr | "*") "]"
unfoldable pub string_at : Readers → Reader Token TypeTree
string_at r = do
  span ← word_at word.String
  opening ← sign_at sign.OpenBracket
  branch (λ t. is_sign sign.Star t.kind)
      (do
        star ← sign_at sign.Star
        closing ← sign_at sign.CloseBracket
        returned (ty.Str span None))
      (do
        e ← r.operand 5
        closing ← sign_at sign.CloseBracket
        returned (ty.Str span (Some e)))

-- "cap" (qname | "vm" | signature)
unfoldable pub cap_at : TypeReaders → Reader Token TypeTree
cap_at r = do
  span ← word_at word.Cap
  branch (λ t. is_word word.Vm t.kind)
      (do
        vm ← word_at word.Vm
        returned (ty.CapMachine span))
      (branch (λ t. is_sign sign.OpenParen t.kind)
      (do
        s ← signature_at r
        returned (ty.CapOperation span s))
      (do
        q ← qualified_at
        returned (ty.CapOf span q)))

-- dims type
unfoldable pub array_type_at : TypeReaders → Reader Token TypeTree
array_type_at r = do
  d ← dims_at r.expressions
  item ← r.nested
  returned (ty.Array d.span d item)

unfoldable pub plain_type_at : TypeReaders → Reader Token TypeTree
plain_type_at r = branch (λ t. is_some (basic_of t.kind)) basic_type_at
    (branch (λ t. is_word word.String t.kind) (string_at r.expressions)
    (branch (λ t. is_word word.Cap t.kind) (cap_at r)
    (branch (λ t. is_sign sign.OpenBracket t.kind) (array_type_at r)
    (do
      q ← qualified_at
      returned (ty.Named q.span q)))))

-- "enum" "(" name {"," name} ")"
unfoldable pub enum_at : Readers → Reader Token TypeTree
enum_at r = do
  span ← word_at word.Enum
  opening ← sign_at sign.OpenParen
  ns ← names_at r
  closing ← sign_at sign.CloseParen
  returned (ty.Enum span ns)

-- {";" field}
unfoldable pub next_field_at : TypeReaders → List Formal → Reader Token (List Formal)
next_field_at r fs = do
  separator ← separator_at
  f ← formal_after_at r None
  returned (fs ++ f ∷ [])

unfoldable pub more_fields_at : TypeReaders → List Formal → Reader Token (List Formal)
more_fields_at r fs = while is_separated (next_field_at r) r.expressions.steps fs

-- "rec" "(" field {";" field} ")"
unfoldable pub record_type_at : TypeReaders → Reader Token TypeTree
record_type_at r = do
  span ← word_at word.Rec
  opening ← sign_at sign.OpenParen
  f ← formal_after_at r None
  fs ← more_fields_at r (f ∷ [])
  closing ← sign_at sign.CloseParen
  returned (ty.Rec span fs)

-- a type of which each part may be an enumeration or a record that is declared there
unfoldable pub type_at : TypeReaders → Reader Token TypeTree
type_at r = branch (λ t. is_word word.Enum t.kind) (enum_at r.expressions)
    (branch (λ t. is_word word.Rec t.kind) (record_type_at (within Declaration r)) (plain_type_at (within Declaration r)))

abbrev pub type_in_at : TypePlace → TypeReaders → Reader Token TypeTree
type_in_at Declaration r = type_at r
type_in_at Elsewhere r = plain_type_at (within Elsewhere r)

unfoldable mutual
  pub nested : ℕ → Reader Token TypeTree
  nested zero = unfit
  nested (suc k) = plain_type_at (record { expressions = readers k; nested = nested k; declared = declared k })

  pub declared : ℕ → Reader Token TypeTree
  declared zero = unfit
  declared (suc k) = type_at (record { expressions = readers k; nested = nested k; declared = declared k })

abbrev pub type_readers : ℕ → TypeReaders
type_readers k = record { expressions = readers k; nested = nested k; declared = declared k }
