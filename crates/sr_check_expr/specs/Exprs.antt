-- What is found in an expression, and what it is: one line for each construct.
use Rattle.std.specs.Prelude.{ℕ, false, List, [], ◌∷◌, ◌++◌, Option, Some, None, map}
use Rattle.std.specs.Option.{option_map}
use Rattle.sr_value.specs.declared.operator.Operator.{Operator}
use Rattle.sr_value.specs.declared.operator.Operator.TheVariants as operator
use Rattle.sr_value.specs.declared.place.Span.{Span}
use Rattle.sr_names.specs.declared.finding.Finding.{Finding}
use Rattle.sr_names.specs.declared.finding.Rule.TheVariants.{BadUse}
use Rattle.sr_names.specs.declared.spot.Spot.{Spot}
use Rattle.sr_names.specs.Spots.{spot_of, same_spot}
use Rattle.sr_names.specs.Uses.{meaning_at}
use Rattle.sr_tree.specs.declared.expr.BinaryOperator.{BinaryOperator}
use Rattle.sr_tree.specs.declared.expr.BinaryOperator.TheVariants as binary
use Rattle.sr_tree.specs.declared.expr.Conversion.{Conversion}
use Rattle.sr_tree.specs.declared.expr.Conversion.TheVariants as conversion
use Rattle.sr_tree.specs.declared.expr.Create.TheOpen.{Create-F, Expr-F, Invocation-F, Part-F}
use Rattle.sr_tree.specs.declared.expr.Create.{Create, fold-Create}
use Rattle.sr_tree.specs.declared.expr.Expr.{Expr, fold-Expr}
use Rattle.sr_tree.specs.declared.expr.Invocation.{Invocation, fold-Invocation}
use Rattle.sr_tree.specs.declared.expr.Part.{Part, fold-Part}
use Rattle.sr_tree.specs.declared.expr.UnaryOperator.{UnaryOperator}
use Rattle.sr_tree.specs.declared.name.Name.{Name}
use Rattle.sr_tree.specs.declared.expr.UnaryOperator.TheVariants as unary
use Rattle.sr_types.specs.declared.aggregates.Repeated.{Repeated}
use Rattle.sr_types.specs.declared.ty.Ty.TheVariants as ty
use Rattle.sr_types.specs.declared.typed.Outcome.{Outcome}
use Rattle.sr_types.specs.declared.typed.Outcome.TheVariants.{Broken, Met}
use Rattle.sr_types.specs.declared.typed.Static.TheVariants.{Unknown}
use Rattle.sr_types.specs.declared.typed.Typed.{Typed}
use Rattle.sr_types.specs.Aggregates.{bracketed_rule}
use Rattle.sr_types.specs.Conversions.{int_rule, char_rule, string_rule}
use Rattle.sr_types.specs.Operators.{binary_rule, unary_rule}
use Rattle.sr_types.specs.Outcomes.{computed}
use Rattle.sr_types.specs.Parts.{index_one_rule, index_two_rule}
use Rattle.sr_check_expr.specs.declared.facts.Facts.{Facts}
use Rattle.sr_check_expr.specs.declared.facts.Here.{Here}
use Rattle.sr_check_expr.specs.declared.info.Info.{Info}
use Rattle.sr_check_expr.specs.declared.info.Info.TheVariants as info
use Rattle.sr_check_expr.specs.declared.typed_expr.TypedExpr.{TypedExpr}
use Rattle.sr_check_expr.specs.declared.typed_expr.Named.{Named}
use Rattle.sr_check_expr.specs.declared.typed_expr.Named.TheVariants as named
use Rattle.sr_check_expr.specs.Calls.{Called, call_typing}
use Rattle.sr_check_expr.specs.Creating.{create_typing, machine_typing}
use Rattle.sr_check_expr.specs.Typings.{Typing, plain, value_found, broken_unless, settled, name_at, with_found}
use Rattle.sr_check_expr.specs.LiteralTypes.{literal_typed, literal_named, basic_type}
use Rattle.sr_check_expr.specs.Naming.{name_typing, decl_of, decl_info, field_outcome}

abbrev pub Inferrer : Type 0
Inferrer = Facts → Typing

abbrev pub infer_all : List Inferrer → Facts → List Typing
infer_all inferrers facts = map (λ infer. infer facts) inferrers

-- a part of a bracketed list
abbrev pub PartInferrer : Type 0
PartInferrer = Facts → Option Typing × Typing

abbrev pub infer_parts : List PartInferrer → Facts → List (Option Typing × Typing)
infer_parts inferrers facts = map (λ infer. infer facts) inferrers

abbrev pub CalledInferrer : Type 0
CalledInferrer = Facts → Called

-- ---- operators

abbrev pub operator_of : BinaryOperator → Operator
operator_of binary.Or = operator.Or
operator_of binary.Xor = operator.Xor
operator_of binary.And = operator.And
operator_of binary.Equal = operator.Eq
operator_of binary.NotEqual = operator.Ne
operator_of binary.Less = operator.Lt
operator_of binary.LessEqual = operator.Le
operator_of binary.Greater = operator.Gt
operator_of binary.GreaterEqual = operator.Ge
operator_of binary.Plus = operator.Add
operator_of binary.Minus = operator.Sub
operator_of binary.Join = operator.Join
operator_of binary.Times = operator.Mul
operator_of binary.Divide = operator.Div
operator_of binary.Remainder = operator.Rem
operator_of binary.Modulo = operator.Mod

abbrev pub prefix_of : UnaryOperator → Operator
prefix_of unary.Minus = operator.Minus
prefix_of unary.Plus = operator.Plus
prefix_of unary.Not = operator.Not

abbrev pub conversion_outcome : Conversion → Typed → Outcome
conversion_outcome conversion.Int value = int_rule value
conversion_outcome conversion.Char value = char_rule value
conversion_outcome conversion.Str value = string_rule value

abbrev pub between : Span → Operator → TypedExpr → TypedExpr → Typing
between span operator left right = settled span (value_found left ++ value_found right) (binary_rule operator left.typed right.typed)

-- a construct around a value
abbrev pub around : Span → TypedExpr → Outcome → Typing
around span inner outcome = settled span (value_found inner) outcome

-- ---- groups and bracketed lists

-- what stands in brackets is no place
abbrev pub grouped : Typed → Typed
grouped typed = record typed { is_place = false }

-- a part that may be left out
abbrev pub second_found : Option Typing → List Finding
second_found None = []
second_found (Some second) = second.found

abbrev pub second_typed : Option Typing → Option TypedExpr
second_typed second = option_map (λ second. second.typed_expr) second

abbrev pub second_valued : Option TypedExpr → List Finding
second_valued None = []
second_valued (Some second) = value_found second

abbrev pub part_valued : Option TypedExpr → TypedExpr → List Finding
part_valued count value = second_valued count ++ value_found value

abbrev pub part_found : Option Typing × Typing → List Finding
part_found part = (second_found part.0 ++ part.1.found) ++ part_valued (second_typed part.0) part.1.typed_expr

abbrev pub parts_found : List (Option Typing × Typing) → List Finding
parts_found [] = []
parts_found (part ∷ parts) = part_found part ++ parts_found parts

abbrev pub inferred_repeated : Option TypedExpr → TypedExpr → Repeated
inferred_repeated count value = record { count = option_map (λ count. count.typed) count; value = value.typed }

abbrev pub repeated : Option Typing × Typing → Repeated
repeated part = inferred_repeated (second_typed part.0) part.1.typed_expr

-- ---- parts of values

abbrev pub index_outcome : Typed → Typed → Option TypedExpr → Outcome
index_outcome whole first None = index_one_rule whole first
index_outcome whole first (Some second) = index_two_rule whole first second.typed

abbrev pub indexed : Span → TypedExpr → TypedExpr → Option TypedExpr → Typing
indexed span array first second =
    settled span
    (value_found array ++ (value_found first ++ second_valued second))
    (index_outcome array.typed first.typed second)

abbrev pub value_field : Facts → Span → TypedExpr → List ℕ → Typing
value_field facts span owner name = settled span (value_found owner) (field_outcome facts owner.typed name)

-- after a component stands a name of its spec, after a value a part of it
abbrev pub field_typing : Facts → Span → TypedExpr → Name → Named → Typing
field_typing facts span owner field (named.Component decl) = name_typing facts span field.span
field_typing facts span owner field _ = value_field facts span owner field.text

-- ---- `?operation`

abbrev pub operation_component : Option Info → Option Spot
operation_component (Some (info.Operation ty component is_local)) = Some component
operation_component _ = None

abbrev pub pending_outcome : Option Spot → Outcome
pending_outcome None = Broken
pending_outcome (Some component) = Met (computed ty.Int Unknown)

-- the invocations of another component's operation aren't counted
abbrev pub pending_found : Here → Span → Option Spot → List Finding
pending_found here span None = []
pending_found here span (Some component) = broken_unless (same_spot component here.component.spot) BadUse span

abbrev pub pending_counted : Here → Span → Option Spot → Typing
pending_counted here span component = settled span (pending_found here span component) (pending_outcome component)

abbrev pub pending_typing : Facts → Span → Span → Typing
pending_typing facts span used =
    pending_counted facts.here span (operation_component (decl_info facts.infos (decl_of (meaning_at facts.uses (spot_of used)))))

-- ---- all

abbrev pub create_step : Create-F Inferrer Inferrer CalledInferrer PartInferrer → Inferrer
create_step (Create-F.Resource span resource arguments machine) facts =
    create_typing facts span resource (infer_all arguments facts) (option_map (λ infer. infer facts) machine)
create_step (Create-F.Machine span) facts = machine_typing facts span

abbrev pub invocation_step : Invocation-F Inferrer Inferrer CalledInferrer PartInferrer → CalledInferrer
invocation_step invocation facts = record {
  span = invocation.span;
  callee = invocation.callee facts;
  arguments = infer_all invocation.arguments facts;
}

abbrev pub part_step : Part-F Inferrer Inferrer CalledInferrer PartInferrer → PartInferrer
part_step part facts = (option_map (λ infer. infer facts) part.count, part.value facts)

abbrev pub expr_step : Expr-F Inferrer Inferrer CalledInferrer PartInferrer → Inferrer
expr_step (Expr-F.Literal span literal) facts = plain (record { span = span; typed = literal_typed literal; named = literal_named literal })
expr_step (Expr-F.Name name) facts = name_typing facts name.span name.span
expr_step (Expr-F.BasicType span basic) facts = plain (name_at span (named.«Type» (basic_type basic)))
expr_step (Expr-F.Conversion span conversion value) facts = with_found (value facts).found (around span (value facts).typed_expr (conversion_outcome conversion (value facts).typed_expr.typed))
expr_step (Expr-F.Group span inner) facts = with_found (inner facts).found (around span (inner facts).typed_expr (Met (grouped (inner facts).typed_expr.typed)))
expr_step (Expr-F.Parts span parts) facts =
    settled span (parts_found (infer_parts parts facts)) (bracketed_rule (map repeated (infer_parts parts facts)))
expr_step (Expr-F.Field span owner field) facts = with_found (owner facts).found (field_typing facts span (owner facts).typed_expr field (owner facts).typed_expr.named)
expr_step (Expr-F.Index span array first second) facts =
    with_found
    ((array facts).found ++ ((first facts).found ++ second_found (option_map (λ infer. infer facts) second)))
    (indexed span (array facts).typed_expr (first facts).typed_expr (second_typed (option_map (λ infer. infer facts) second)))
expr_step (Expr-F.Call invocation) facts = call_typing facts (invocation facts)
expr_step (Expr-F.Create create) facts = create facts
expr_step (Expr-F.Unary span operator operand) facts =
    with_found (operand facts).found (around span (operand facts).typed_expr (unary_rule (prefix_of operator) (operand facts).typed_expr.typed))
expr_step (Expr-F.Pending span operation) facts = pending_typing facts span operation.span
expr_step (Expr-F.Binary span left operator right) facts =
    with_found ((left facts).found ++ (right facts).found) (between span (operator_of operator) (left facts).typed_expr (right facts).typed_expr)

abbrev pub infer_expr : Expr → Inferrer
infer_expr = fold-Expr Inferrer Inferrer CalledInferrer PartInferrer create_step expr_step invocation_step part_step

abbrev pub infer_create : Create → Inferrer
infer_create = fold-Create Inferrer Inferrer CalledInferrer PartInferrer create_step expr_step invocation_step part_step

abbrev pub infer_invocation : Invocation → CalledInferrer
infer_invocation = fold-Invocation Inferrer Inferrer CalledInferrer PartInferrer create_step expr_step invocation_step part_step

abbrev pub infer_part : Part → PartInferrer
infer_part = fold-Part Inferrer Inferrer CalledInferrer PartInferrer create_step expr_step invocation_step part_step
