-- Expressions that are the same but for their spans.
use Rattle.std.specs.Prelude.{◌≡◌, List, [], ◌∷◌, Option, Some, None}
use Rattle.sr_value.specs.declared.place.Span.{Span}
use Rattle.sr_tree.specs.declared.name.Name.{Name}
use Rattle.sr_tree.specs.declared.name.QualifiedName.{QualifiedName}
use Rattle.sr_tree.specs.declared.expr.Literal.{Literal}
use Rattle.sr_tree.specs.declared.expr.BasicType.{BasicType}
use Rattle.sr_tree.specs.declared.expr.Conversion.{Conversion}
use Rattle.sr_tree.specs.declared.expr.UnaryOperator.{UnaryOperator}
use Rattle.sr_tree.specs.declared.expr.BinaryOperator.{BinaryOperator}
use Rattle.sr_tree.specs.declared.expr.Expr.{Expr}
use Rattle.sr_tree.specs.declared.expr.Expr.TheVariants as expr
use Rattle.sr_tree.specs.declared.expr.Part.{Part, roll-Part}
use Rattle.sr_tree.specs.declared.expr.Invocation.{Invocation, roll-Invocation}
use Rattle.sr_tree.specs.declared.expr.Create.{Create}
use Rattle.sr_tree.specs.declared.expr.Create.TheVariants as creation

-- both or neither
pub data SameOption {A : Type 0} (Same : A → A → Type 0) : Option A → Option A → Type 0 where
  none : SameOption Same None None
  some : {x y : A} → Same x y → SameOption Same (Some x) (Some y)

-- one by one
pub data SameList {A : Type 0} (Same : A → A → Type 0) : List A → List A → Type 0 where
  none_left : SameList Same [] []
  one_more : {x y : A} {xs ys : List A} → Same x y → SameList Same xs ys → SameList Same (x ∷ xs) (y ∷ ys)

abbrev pub SameName : Name → Name → Type 0
SameName a b = a.text ≡ b.text

pub data SameQualifiedName : QualifiedName → QualifiedName → Type 0 where
  qualified_name : {span span' : Span} {first first' : Name} {second second' : Option Name} → SameName first first' → SameOption SameName second second' → SameQualifiedName (record { span = span; first = first; second = second }) (record { span = span'; first = first'; second = second' })

mutual
  pub data SameExpr : Expr → Expr → Type 0 where
    literal : {span span' : Span} {literal : Literal} → SameExpr (expr.Literal span literal) (expr.Literal span' literal)
    name : {it it' : Name} → SameName it it' → SameExpr (expr.Name it) (expr.Name it')
    basic_type : {span span' : Span} {basic : BasicType} → SameExpr (expr.BasicType span basic) (expr.BasicType span' basic)
    conversion : {span span' : Span} {conversion : Conversion} {value value' : Expr} → SameExpr value value' → SameExpr (expr.Conversion span conversion value) (expr.Conversion span' conversion value')
    group : {span span' : Span} {inner inner' : Expr} → SameExpr inner inner' → SameExpr (expr.Group span inner) (expr.Group span' inner')
    parts : {span span' : Span} {parts parts' : List Part} → SameParts parts parts' → SameExpr (expr.Parts span parts) (expr.Parts span' parts')
    field : {span span' : Span} {r r' : Expr} {field field' : Name} → SameExpr r r' → SameName field field' → SameExpr (expr.Field span r field) (expr.Field span' r' field')
    index : {span span' : Span} {array array' : Expr} {first first' : Expr} {second second' : Option Expr} → SameExpr array array' → SameExpr first first' → SameOptionalExpr second second' → SameExpr (expr.Index span array first second) (expr.Index span' array' first' second')
    call : {it it' : Invocation} → SameInvocation it it' → SameExpr (expr.Call it) (expr.Call it')
    create : {it it' : Create} → SameCreate it it' → SameExpr (expr.Create it) (expr.Create it')
    unary : {span span' : Span} {operator : UnaryOperator} {operand operand' : Expr} → SameExpr operand operand' → SameExpr (expr.Unary span operator operand) (expr.Unary span' operator operand')
    pending : {span span' : Span} {operation operation' : Name} → SameName operation operation' → SameExpr (expr.Pending span operation) (expr.Pending span' operation')
    binary : {span span' : Span} {left left' : Expr} {operator : BinaryOperator} {right right' : Expr} → SameExpr left left' → SameExpr right right' → SameExpr (expr.Binary span left operator right) (expr.Binary span' left' operator right')

  pub data SamePart : Part → Part → Type 0 where
    part : {span span' : Span} {count count' : Option Expr} {value value' : Expr} → SameOptionalExpr count count' → SameExpr value value' → SamePart (roll-Part (record { span = span; count = count; value = value })) (roll-Part (record { span = span'; count = count'; value = value' }))

  pub data SameInvocation : Invocation → Invocation → Type 0 where
    invocation : {span span' : Span} {callee callee' : Expr} {arguments arguments' : List Expr} → SameExpr callee callee' → SameExprs arguments arguments' → SameInvocation (roll-Invocation (record { span = span; callee = callee; arguments = arguments })) (roll-Invocation (record { span = span'; callee = callee'; arguments = arguments' }))

  pub data SameCreate : Create → Create → Type 0 where
    resource : {span span' : Span} {resource resource' : QualifiedName} {arguments arguments' : List Expr} {machine machine' : Option Expr} → SameQualifiedName resource resource' → SameExprs arguments arguments' → SameOptionalExpr machine machine' → SameCreate (creation.Resource span resource arguments machine) (creation.Resource span' resource' arguments' machine')
    machine : {span span' : Span} → SameCreate (creation.Machine span) (creation.Machine span')

  pub data SameExprs : List Expr → List Expr → Type 0 where
    no_exprs : SameExprs [] []
    more_exprs : {x y : Expr} {xs ys : List Expr} → SameExpr x y → SameExprs xs ys → SameExprs (x ∷ xs) (y ∷ ys)

  pub data SameParts : List Part → List Part → Type 0 where
    no_parts : SameParts [] []
    more_parts : {x y : Part} {xs ys : List Part} → SamePart x y → SameParts xs ys → SameParts (x ∷ xs) (y ∷ ys)

  pub data SameOptionalExpr : Option Expr → Option Expr → Type 0 where
    no_expr : SameOptionalExpr None None
    some_expr : {x y : Expr} → SameExpr x y → SameOptionalExpr (Some x) (Some y)
