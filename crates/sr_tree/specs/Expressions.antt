-- Which lists of tokens spell which expressions: one case for each alternative of the grammar.
use Rattle.std.specs.Prelude.{◌≡◌, ◌<◌, ℕ, Bool, true, false, List, [], ◌∷◌, ◌++◌, Option, Some, None, is_some}
use Rattle.sr_value.specs.declared.place.Span.{Span}
use Rattle.sr_tree.specs.declared.expr.BasicType.{BasicType}
use Rattle.sr_tree.specs.declared.expr.BasicType.TheVariants as basic
use Rattle.sr_tree.specs.declared.expr.BinaryOperator.{BinaryOperator}
use Rattle.sr_tree.specs.declared.expr.Conversion.{Conversion}
use Rattle.sr_tree.specs.declared.expr.Create.{Create, out-Create}
use Rattle.sr_tree.specs.declared.expr.Create.TheVariants as create
use Rattle.sr_tree.specs.declared.expr.Create.TheOpen.{Create-F, Expr-F}
use Rattle.sr_tree.specs.declared.expr.Expr.{Expr, out-Expr}
use Rattle.sr_tree.specs.declared.expr.Expr.TheVariants as expr
use Rattle.sr_tree.specs.declared.expr.Invocation.{Invocation, out-Invocation, roll-Invocation}
use Rattle.sr_tree.specs.declared.expr.Literal.{Literal}
use Rattle.sr_tree.specs.declared.expr.Part.{Part, out-Part, roll-Part}
use Rattle.sr_tree.specs.declared.expr.UnaryOperator.{UnaryOperator}
use Rattle.sr_tree.specs.declared.name.QualifiedName.{QualifiedName}
use Rattle.sr_tree.specs.declared.token.Sign.TheVariants as sign
use Rattle.sr_tree.specs.declared.token.Token.{Token}
use Rattle.sr_tree.specs.declared.token.Word.TheVariants as word
use Rattle.sr_tree.specs.Tables.{IsSign, IsWord, IsName, name_of, literal_of, basic_of, conversion_of, unary_of, binary_of, right_level, left_level}

-- the span of the first token of an expression
abbrev pub create_span : Create → Span
create_span c = elim (out-Create c) [ Create-F.Resource span resource arguments machine ↦ span | Create-F.Machine span ↦ span ]

abbrev pub expr_span : Expr → Span
expr_span e = elim (out-Expr e) [
  | Expr-F.Literal span literal ↦ span
  | Expr-F.Name name ↦ name.span
  | Expr-F.BasicType span basic ↦ span
  | Expr-F.Conversion span conversion value ↦ span
  | Expr-F.Group span inner ↦ span
  | Expr-F.Parts span parts ↦ span
  | Expr-F.Field span r field ↦ span
  | Expr-F.Index span array first second ↦ span
  | Expr-F.Call invocation ↦ (out-Invocation invocation).span
  | Expr-F.Create c ↦ create_span c
  | Expr-F.Unary span operator operand ↦ span
  | Expr-F.Pending span operation ↦ span
  | Expr-F.Binary span left operator right ↦ span
]

-- `callee(arguments)`
abbrev pub invocation : Expr → List Expr → Invocation
invocation callee arguments = roll-Invocation (record { span = expr_span callee; callee = callee; arguments = arguments })

abbrev pub part : Span → Option Expr → Expr → Part
part span count value = roll-Part (record { span = span; count = count; value = value })

-- `int` and `char` directly before a bracket convert, and are no operation that is called
abbrev pub is_conversion_word : Expr → Bool
is_conversion_word e = elim (out-Expr e) [
  | Expr-F.BasicType span b ↦ elim b [ basic.Int ↦ true | basic.Char ↦ true | basic.Bool ↦ false ]
  | _ ↦ false
]

-- what stands in brackets is an array where it has two parts or more, or a first part that is repeated
abbrev pub is_array : Part → List Part → Bool
is_array p [] = is_some (out-Part p).count
is_array p (q ∷ ps) = true

-- qname = name ["." name]
pub data SpellsQualifiedName : QualifiedName → List Token → Type 0 where
  plain : (n : Token) → IsName n → SpellsQualifiedName (record { span = n.span; first = name_of n; second = None }) (n ∷ [])
  qualified : (n p m : Token) → IsName n → IsSign sign.Point p → IsName m
      → SpellsQualifiedName (record { span = n.span; first = name_of n; second = Some (name_of m) }) (n ∷ p ∷ m ∷ [])

mutual
  -- an expression of a level: a factor, or an operator of at most that level between two operands
  pub data SpellsExpr : ℕ → Expr → List Token → Type 0 where
    factor : {level : ℕ} {e : Expr} {u : List Token} → SpellsFactor e u → SpellsExpr level e u
    binary : {level : ℕ} {a b : Expr} {u v : List Token} (t : Token) (o : BinaryOperator) → binary_of t.kind ≡ Some o → right_level o < level
        → SpellsExpr (left_level o) a u → SpellsExpr (right_level o) b v
        → SpellsExpr level (expr.Binary (expr_span a) a o b) (u ++ t ∷ v)

  -- factor = create | primary | ("-" | "+" | "not") factor | "?" name
  pub data SpellsFactor : Expr → List Token → Type 0 where
    creates : {c : Create} {u : List Token} → SpellsCreate c u → SpellsFactor (expr.Create c) u
    primary : {e : Expr} {u : List Token} → SpellsPrimary e u → SpellsFactor e u
    unary : {e : Expr} {u : List Token} (t : Token) (o : UnaryOperator) → unary_of t.kind ≡ Some o → SpellsFactor e u
        → SpellsFactor (expr.Unary t.span o e) (t ∷ u)
    pending : (t n : Token) → IsSign sign.Query t → IsName n → SpellsFactor (expr.Pending t.span (name_of n)) (t ∷ n ∷ [])

  -- create = "create" qname "(" [args] ")" ["on" primary] | "create" "vm" "(" ")"
  pub data SpellsCreate : Create → List Token → Type 0 where
    resource : {q : QualifiedName} {es : List Expr} {m : Option Expr} {u v w : List Token} (t opening closing : Token)
        → IsWord word.Create t → SpellsQualifiedName q u → IsSign sign.OpenParen opening → SpellsArguments es v
        → IsSign sign.CloseParen closing → SpellsOn m w
        → SpellsCreate (create.Resource t.span q es m) (t ∷ (u ++ opening ∷ (v ++ closing ∷ w)))
    machine : (t vm opening closing : Token) → IsWord word.Create t → IsWord word.Vm vm
        → IsSign sign.OpenParen opening → IsSign sign.CloseParen closing
        → SpellsCreate (create.Machine t.span) (t ∷ vm ∷ opening ∷ closing ∷ [])

  -- ["on" primary]
  pub data SpellsOn : Option Expr → List Token → Type 0 where
    not_on : SpellsOn None []
    on_machine : {e : Expr} {u : List Token} (t : Token) → IsWord word.On t → SpellsPrimary e u → SpellsOn (Some e) (t ∷ u)

  -- primary = number | char | string | "true" | "false" | "null" | "noop" | name | "int" | "bool" | "char"
  --         | ("int" | "char" | "string") "(" expr ")" | "(" expr ")" | "(" part {"," part} ")"
  --         | primary "." name | primary "[" expr ["," expr] "]" | primary "(" [args] ")"
  pub data SpellsPrimary : Expr → List Token → Type 0 where
    literal : (t : Token) (l : Literal) → literal_of t.kind t.text ≡ Some l → SpellsPrimary (expr.Literal t.span l) (t ∷ [])
    name : (t : Token) → IsName t → SpellsPrimary (expr.Name (name_of t)) (t ∷ [])
    basic_type : (t : Token) (b : BasicType) → basic_of t.kind ≡ Some b → SpellsPrimary (expr.BasicType t.span b) (t ∷ [])
    conversion : {e : Expr} {u : List Token} (t opening closing : Token) (c : Conversion) → conversion_of t.kind ≡ Some c
        → IsSign sign.OpenParen opening → SpellsExpr 5 e u → IsSign sign.CloseParen closing
        → SpellsPrimary (expr.Conversion t.span c e) (t ∷ opening ∷ (u ++ closing ∷ []))
    group : {e : Expr} {u : List Token} (opening closing : Token) → IsSign sign.OpenParen opening
        → SpellsExpr 5 e u → IsSign sign.CloseParen closing
        → SpellsPrimary (expr.Group opening.span e) (opening ∷ (u ++ closing ∷ []))
    parts : {p : Part} {ps : List Part} {u v : List Token} (opening closing : Token) → IsSign sign.OpenParen opening
        → SpellsPart p u → SpellsMoreParts ps v → is_array p ps ≡ true → IsSign sign.CloseParen closing
        → SpellsPrimary (expr.Parts opening.span (p ∷ ps)) (opening ∷ (u ++ (v ++ closing ∷ [])))
    field : {p : Expr} {u : List Token} (point n : Token) → SpellsPrimary p u → IsSign sign.Point point → IsName n
        → SpellsPrimary (expr.Field (expr_span p) p (name_of n)) (u ++ point ∷ n ∷ [])
    index : {p e : Expr} {second : Option Expr} {u v w : List Token} (opening closing : Token) → SpellsPrimary p u
        → IsSign sign.OpenBracket opening → SpellsExpr 5 e v → SpellsSecond second w → IsSign sign.CloseBracket closing
        → SpellsPrimary (expr.Index (expr_span p) p e second) (u ++ opening ∷ (v ++ (w ++ closing ∷ [])))
    call : {p : Expr} {es : List Expr} {u v : List Token} (opening closing : Token) → SpellsPrimary p u → is_conversion_word p ≡ false
        → IsSign sign.OpenParen opening → SpellsArguments es v → IsSign sign.CloseParen closing
        → SpellsPrimary (expr.Call (invocation p es)) (u ++ opening ∷ (v ++ closing ∷ []))

  -- ["," expr]
  pub data SpellsSecond : Option Expr → List Token → Type 0 where
    no_second : SpellsSecond None []
    second : {e : Expr} {u : List Token} (comma : Token) → IsSign sign.Comma comma → SpellsExpr 5 e u → SpellsSecond (Some e) (comma ∷ u)

  -- part = ["[" expr "]"] expr
  pub data SpellsPart : Part → List Token → Type 0 where
    once : {e : Expr} {u : List Token} → SpellsExpr 5 e u → SpellsPart (part (expr_span e) None e) u
    repeated : {c e : Expr} {u v : List Token} (opening closing : Token) → IsSign sign.OpenBracket opening → SpellsExpr 5 c u
        → IsSign sign.CloseBracket closing → SpellsExpr 5 e v
        → SpellsPart (part opening.span (Some c) e) (opening ∷ (u ++ closing ∷ v))

  -- {"," part}
  pub data SpellsMoreParts : List Part → List Token → Type 0 where
    no_more_parts : SpellsMoreParts [] []
    one_more_part : {p : Part} {ps : List Part} {u v : List Token} (comma : Token) → IsSign sign.Comma comma → SpellsPart p u
        → SpellsMoreParts ps v → SpellsMoreParts (p ∷ ps) (comma ∷ (u ++ v))

  -- [args], where args = expr {"," expr}
  pub data SpellsArguments : List Expr → List Token → Type 0 where
    no_arguments : SpellsArguments [] []
    arguments : {e : Expr} {es : List Expr} {u v : List Token} → SpellsExpr 5 e u → SpellsMoreExprs es v → SpellsArguments (e ∷ es) (u ++ v)

  -- {"," expr}
  pub data SpellsMoreExprs : List Expr → List Token → Type 0 where
    no_more_exprs : SpellsMoreExprs [] []
    one_more_expr : {e : Expr} {es : List Expr} {u v : List Token} (comma : Token) → IsSign sign.Comma comma → SpellsExpr 5 e u
        → SpellsMoreExprs es v → SpellsMoreExprs (e ∷ es) (comma ∷ (u ++ v))
