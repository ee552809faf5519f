-- Readers of expressions. Those that read from after a token again are fields of a record, so that they
-- are defined by recursion on a number that bounds the tokens.
use Rattle.std.specs.Prelude.{ℕ, zero, suc, Bool, true, false, ◌&&◌, nat_lt, nat_le, List, [], ◌∷◌, ◌++◌, Option, Some, None, is_some, option_map, if◌then◌else◌}
use Rattle.sr_reader.specs.Reader.{Reader, returned, unfit, ◌>>=◌, one, branch, while}
use Rattle.sr_value.specs.declared.place.Span.{Span}
use Rattle.sr_tree.specs.declared.expr.BasicType.TheVariants as basic
use Rattle.sr_tree.specs.declared.expr.BinaryOperator.{BinaryOperator}
use Rattle.sr_tree.specs.declared.expr.Conversion.{Conversion}
use Rattle.sr_tree.specs.declared.expr.Conversion.TheVariants as conversion
use Rattle.sr_tree.specs.declared.expr.Create.{Create}
use Rattle.sr_tree.specs.declared.expr.Create.TheOpen.{Expr-F}
use Rattle.sr_tree.specs.declared.expr.Create.TheVariants as create
use Rattle.sr_tree.specs.declared.expr.Expr.{Expr, out-Expr}
use Rattle.sr_tree.specs.declared.expr.Expr.TheVariants as expr
use Rattle.sr_tree.specs.declared.expr.Literal.{Literal}
use Rattle.sr_tree.specs.declared.expr.Part.{Part}
use Rattle.sr_tree.specs.declared.expr.UnaryOperator.{UnaryOperator}
use Rattle.sr_tree.specs.declared.name.QualifiedName.{QualifiedName}
use Rattle.sr_tree.specs.declared.token.Sign.TheVariants as sign
use Rattle.sr_tree.specs.declared.token.Token.{Token}
use Rattle.sr_tree.specs.declared.token.Word.TheVariants as word
use Rattle.sr_tree.specs.Expressions.{expr_span, invocation, is_conversion_word, part}
use Rattle.sr_tree.specs.Tables.{literal_of, conversion_of, unary_of, binary_of, right_level, left_level}
use Rattle.sr_tree.specs.Tests.{is_sign, is_word, is_name}
use Rattle.sr_tree.specs.Tokens.{sign_at, word_at, name_at}

pub record Readers : Type 0 where
  pub steps : ℕ
  pub operand : ℕ → Reader Token Expr
  pub factor : Reader Token Expr
  pub primary : Reader Token Expr

-- single tokens
unfoldable pub binary_at : Reader Token BinaryOperator
binary_at = one (λ t. binary_of t.kind)

unfoldable pub unary_at : Reader Token (Span × UnaryOperator)
unary_at = one (λ t. option_map (λ o. (t.span, o)) (unary_of t.kind))

unfoldable pub literal_at : Reader Token (Span × Literal)
literal_at = one (λ t. option_map (λ l. (t.span, l)) (literal_of t.kind t.text))

unfoldable pub conversion_at : Reader Token (Span × Conversion)
conversion_at = one (λ t. option_map (λ c. (t.span, c)) (conversion_of t.kind))

unfoldable pub qualified_at : Reader Token QualifiedName
qualified_at = do
  first ← name_at
  branch (λ t. is_sign sign.Point t.kind)
      (do
        point ← sign_at sign.Point
        second ← name_at
        returned (record { span = first.span; first = first; second = Some second }))
      (returned (record { span = first.span; first = first; second = None }))

-- `(`, an expression and `)`
unfoldable pub enclosed_at : Readers → Reader Token (Span × Expr)
enclosed_at r = do
  opening ← sign_at sign.OpenParen
  inner ← r.operand 5
  closing ← sign_at sign.CloseParen
  returned (opening, inner)

-- {"," expr}
unfoldable pub next_argument_at : Readers → List Expr → Reader Token (List Expr)
next_argument_at r es = do
  comma ← sign_at sign.Comma
  e ← r.operand 5
  returned (es ++ e ∷ [])

abbrev pub is_comma : {A : Type 0} → A → Token → Bool
is_comma a t = is_sign sign.Comma t.kind

unfoldable pub more_arguments_at : Readers → List Expr → Reader Token (List Expr)
more_arguments_at r es = while is_comma (next_argument_at r) r.steps es

-- "(" [args] ")"
unfoldable pub arguments_at : Readers → Reader Token (List Expr)
arguments_at r = do
  opening ← sign_at sign.OpenParen
  branch (λ t. is_sign sign.CloseParen t.kind)
      (do
        closing ← sign_at sign.CloseParen
        returned [])
      (do
        e ← r.operand 5
        es ← more_arguments_at r (e ∷ [])
        closing ← sign_at sign.CloseParen
        returned es)

-- ["on" primary]
unfoldable pub on_at : Readers → Reader Token (Option Expr)
on_at r = branch (λ t. is_word word.On t.kind)
    (do
      on ← word_at word.On
      e ← r.primary
      returned (Some e))
    (returned None)

unfoldable pub create_at : Readers → Reader Token Create
create_at r = do
  span ← word_at word.Create
  branch (λ t. is_word word.Vm t.kind)
      (do
        vm ← word_at word.Vm
        opening ← sign_at sign.OpenParen
        closing ← sign_at sign.CloseParen
        returned (create.Machine span))
      (do
        q ← qualified_at
        es ← arguments_at r
        m ← on_at r
        returned (create.Resource span q es m))

-- a part of an array that is repeated
unfoldable pub repeated_part_at : Readers → Reader Token Part
repeated_part_at r = do
  span ← sign_at sign.OpenBracket
  count ← r.operand 5
  closing ← sign_at sign.CloseBracket
  value ← r.operand 5
  returned (part span (Some count) value)

unfoldable pub part_at : Readers → Reader Token Part
part_at r = branch (λ t. is_sign sign.OpenBracket t.kind) (repeated_part_at r)
    (do
      value ← r.operand 5
      returned (part (expr_span value) None value))

unfoldable pub next_part_at : Readers → List Part → Reader Token (List Part)
next_part_at r ps = do
  comma ← sign_at sign.Comma
  p ← part_at r
  returned (ps ++ p ∷ [])

unfoldable pub more_parts_at : Readers → List Part → Reader Token (List Part)
more_parts_at r ps = while is_comma (next_part_at r) r.steps ps

-- the rest of an array after its first parts
unfoldable pub array_at : Readers → Span → List Part → Reader Token Expr
array_at r span first = do
  ps ← more_parts_at r first
  closing ← sign_at sign.CloseParen
  returned (expr.Parts span ps)

-- an expression in brackets, or an array
unfoldable pub bracketed_at : Readers → Reader Token Expr
bracketed_at r = do
  span ← sign_at sign.OpenParen
  branch (λ t. is_sign sign.OpenBracket t.kind)
      (do
        p ← repeated_part_at r
        array_at r span (p ∷ []))
      (do
        e ← r.operand 5
        branch (λ t. is_sign sign.Comma t.kind)
            (do
              ps ← next_part_at r (part (expr_span e) None e ∷ [])
              array_at r span ps)
            (do
              closing ← sign_at sign.CloseParen
              returned (expr.Group span e)))

-- the words `int` and `char` without a bracket
unfoldable pub unconverted_at : Span → Conversion → Reader Token Expr
unconverted_at span conversion.Int = returned (expr.BasicType span basic.Int)
unconverted_at span conversion.Char = returned (expr.BasicType span basic.Char)
unconverted_at span conversion.Str = unfit

unfoldable pub converted_at : Readers → Reader Token Expr
converted_at r = do
  c ← conversion_at
  branch (λ t. is_sign sign.OpenParen t.kind)
      (do
        e ← enclosed_at r
        returned (expr.Conversion c.0 c.1 e.1))
      (unconverted_at c.0 c.1)

unfoldable pub start_at : Readers → Reader Token Expr
start_at r = branch (λ t. is_some (conversion_of t.kind)) (converted_at r)
    (branch (λ t. is_sign sign.OpenParen t.kind) (bracketed_at r)
    (branch (λ t. is_name t.kind)
    (do
      n ← name_at
      returned (expr.Name n))
    (branch (λ t. is_word word.Bool t.kind)
    (do
      span ← word_at word.Bool
      returned (expr.BasicType span basic.Bool))
    (do
      l ← literal_at
      returned (expr.Literal l.0 l.1)))))

-- what may stand after a primary and continue it
unfoldable pub field_at : Expr → Reader Token Expr
field_at p = do
  point ← sign_at sign.Point
  n ← name_at
  returned (expr.Field (expr_span p) p n)

unfoldable pub second_at : Readers → Reader Token (Option Expr)
second_at r = branch (λ t. is_sign sign.Comma t.kind)
    (do
      comma ← sign_at sign.Comma
      e ← r.operand 5
      returned (Some e))
    (returned None)

unfoldable pub index_at : Readers → Expr → Reader Token Expr
index_at r p = do
  opening ← sign_at sign.OpenBracket
  e ← r.operand 5
  second ← second_at r
  closing ← sign_at sign.CloseBracket
  returned (expr.Index (expr_span p) p e second)

unfoldable pub call_at : Readers → Expr → Reader Token Expr
call_at r p = do
  es ← arguments_at r
  returned (expr.Call (invocation p es))

-- a bracket after `int` or `char` would be a conversion's
abbrev pub is_callable : Expr → Token → Bool
is_callable p t = if is_conversion_word p then false else is_sign sign.OpenParen t.kind

abbrev pub is_suffix : Expr → Token → Bool
is_suffix p t = if is_sign sign.Point t.kind then true else if is_sign sign.OpenBracket t.kind then true else is_callable p t

unfoldable pub suffix_at : Readers → Expr → Reader Token Expr
suffix_at r p = branch (λ t. is_sign sign.Point t.kind) (field_at p)
    (branch (λ t. is_sign sign.OpenBracket t.kind) (index_at r p)
    (branch (is_callable p) (call_at r p) unfit))

unfoldable pub suffixes_at : Readers → Expr → Reader Token Expr
suffixes_at r p = while is_suffix (suffix_at r) r.steps p

unfoldable pub primary_at : Readers → Reader Token Expr
primary_at r = do
  p ← start_at r
  suffixes_at r p

unfoldable pub signed_at : Readers → Reader Token Expr
signed_at r = do
  o ← unary_at
  e ← r.factor
  returned (expr.Unary o.0 o.1 e)

unfoldable pub pending_at : Reader Token Expr
pending_at = do
  span ← sign_at sign.Query
  n ← name_at
  returned (expr.Pending span n)

unfoldable pub factor_at : Readers → Reader Token Expr
factor_at r = branch (λ t. is_word word.Create t.kind)
    (do
      c ← create_at r
      returned (expr.Create c))
    (branch (λ t. is_some (unary_of t.kind)) (signed_at r)
    (branch (λ t. is_sign sign.Query t.kind) pending_at (primary_at r)))

-- the tightest level that an expression is of
abbrev pub level_of : Expr → ℕ
level_of e = elim (out-Expr e) [ Expr-F.Binary span left operator right ↦ suc (right_level operator) | _ ↦ 0 ]

-- whether an operator may follow an expression within a level
abbrev pub may_follow : ℕ → Expr → Option BinaryOperator → Bool
may_follow limit left None = false
may_follow limit left (Some o) = nat_lt (right_level o) limit && nat_le (level_of left) (left_level o)

abbrev pub is_operator : ℕ → Expr → Token → Bool
is_operator limit left t = may_follow limit left (binary_of t.kind)

unfoldable pub operation_at : Readers → Expr → Reader Token Expr
operation_at r left = do
  o ← binary_at
  right ← r.operand (right_level o)
  returned (expr.Binary (expr_span left) left o right)

unfoldable pub operators_at : Readers → ℕ → Expr → Reader Token Expr
operators_at r limit left = while (is_operator limit) (operation_at r) r.steps left

unfoldable pub operand_at : Readers → ℕ → Reader Token Expr
operand_at r limit = do
  e ← factor_at r
  operators_at r limit e

unfoldable pub readers : ℕ → Readers
readers zero = record { steps = 0; operand = λ limit. unfit; factor = unfit; primary = unfit }
readers (suc k) = record { steps = suc k; operand = operand_at (readers k); factor = factor_at (readers k); primary = primary_at (readers k) }
