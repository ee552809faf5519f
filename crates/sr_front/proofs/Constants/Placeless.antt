-- What an expression is but for whether it is a place. No rule that says what a whole is asks whether its parts are places.
use Rattle.std.proofs.Common.{◌≡◌, ℕ, Bool, true, false, List, [], ◌∷◌, map, Option, Some, None, refl, ap, ◌∙◌}
use Rattle.std.specs.List.{list_all}
use Rattle.std.specs.Option.{option_and_then, option_map}
use Rattle.sr_value.specs.declared.place.Span.{Span}
use Rattle.sr_value.specs.declared.operator.Operator.{Operator}
use Rattle.sr_value.specs.declared.predefined.Dimension.{Dimension}
use Rattle.sr_names.specs.declared.predefined.Predefined.{Predefined}
use Rattle.sr_names.specs.declared.predefined.Predefined.TheVariants as predefined
use Rattle.sr_tree.specs.declared.expr.Conversion.{Conversion}
use Rattle.sr_tree.specs.declared.expr.Conversion.TheVariants as conversion
use Rattle.sr_tree.specs.declared.name.Name.{Name}
use Rattle.sr_types.specs.declared.aggregates.Repeated.{Repeated}
use Rattle.sr_types.specs.declared.signature.Signature.{Signature}
use Rattle.sr_types.specs.declared.ty.Ty.{Ty, out-Ty}
use Rattle.sr_types.specs.declared.ty.Ty.TheOpen.{Ty-F}
use Rattle.sr_types.specs.declared.ty.Ty.TheVariants as ty
use Rattle.sr_types.specs.declared.typed.Typed.{Typed}
use Rattle.sr_types.specs.declared.operators.Operand.{Operand}
use Rattle.sr_types.specs.declared.operators.Operands.{Operands}
use Rattle.sr_types.specs.Aggregates.{array_with, bracketed_rule, common_of_all, common_type, is_counted}
use Rattle.sr_types.specs.Operators.{binary_rule, binary_with, operand_wanted, operands_wanted, unary_rule, unary_with}
use Rattle.sr_types.specs.Signatures.{signature_of}
use Rattle.sr_types.specs.Types.{is_no_type}
use Rattle.sr_types.specs.Parts.{indexed as part_indexed, item_of_one, item_of_two}
use Rattle.sr_check_expr.specs.declared.facts.Facts.{Facts}
use Rattle.sr_check_expr.specs.declared.info.Info.{Info}
use Rattle.sr_check_expr.specs.declared.info.Info.TheVariants as info
use Rattle.sr_check_expr.specs.declared.typed_expr.Named.{Named}
use Rattle.sr_check_expr.specs.declared.typed_expr.Named.TheVariants as named
use Rattle.sr_check_expr.specs.declared.typed_expr.TypedExpr.{TypedExpr}
use Rattle.sr_check_expr.specs.Arguments.{as_many, returned_by, returned_outcome, takes_by}
use Rattle.sr_check_expr.specs.Calls.{called_by, layer_record, record_if}
use Rattle.sr_check_expr.specs.Exprs.{conversion_outcome, field_typing, grouped, indexed}
use Rattle.sr_check_expr.specs.Naming.{field_part, layer_field, record_fields, field_named}
use Rattle.sr_check_expr.specs.PredefinedCalls.{dimension_of, dimension_outcome, function_outcome}
use Rattle.sr_check_expr.specs.Typings.{settled_typed, value_at}

abbrev pub placeless : TypedExpr → TypedExpr
placeless typed_expr = record typed_expr { typed = grouped typed_expr.typed }

abbrev pub placeless_info : Info → Info
placeless_info (info.Value typed) = info.Value (grouped typed)
placeless_info one = one

abbrev pub placeless_part : Repeated → Repeated
placeless_part part = record { count = option_map grouped part.count; value = grouped part.value }

-- ---- parts

part_loose : (whole : Typed) (met : Bool) (item : Option Ty) → grouped (settled_typed (part_indexed whole met item)) ≡ grouped (settled_typed (part_indexed (grouped whole) met item))
part_loose whole met None = refl
part_loose whole false (Some item) = refl
part_loose whole true (Some item) = refl

pub index_loose : (span : Span) (array first : TypedExpr) (second : Option TypedExpr)
    → placeless (indexed span array first second).typed_expr ≡ placeless (indexed span (placeless array) (placeless first) (option_map placeless second)).typed_expr
index_loose span array first None = ap (value_at span) (part_loose array.typed _ (item_of_one array.typed.ty))
index_loose span array first (Some second) = ap (value_at span) (part_loose array.typed _ (item_of_two array.typed.ty))

named_loose : (owner : Typed) (ty : Option Ty) → grouped (settled_typed (field_part owner ty)) ≡ grouped (settled_typed (field_part (grouped owner) ty))
named_loose owner None = refl
named_loose owner (Some ty) = refl

layer_loose : {A : Type 0} (facts : Facts) (owner : Typed) (name : List ℕ) (layer : Ty-F A) → grouped (settled_typed (layer_field facts owner name layer)) ≡ grouped (settled_typed (layer_field facts (grouped owner) name layer))
layer_loose facts owner name (Ty-F.Rec spot) = named_loose owner (field_named (record_fields facts.infos spot) name)
layer_loose facts owner name _ = refl

pub field_loose : (facts : Facts) (span : Span) (owner : TypedExpr) (field : Name) (what : Named) → placeless (field_typing facts span owner field what).typed_expr ≡ placeless (field_typing facts span (placeless owner) field what).typed_expr
field_loose facts span owner field (named.Component decl) = refl
field_loose facts span owner field _ = ap (value_at span) (layer_loose facts owner.typed field.text (out-Ty owner.typed.ty))

-- ---- operators and conversions

binary_by : (operands : Option Operands) (op : Operator) (a b : Typed) → binary_with operands op a b ≡ binary_with operands op (grouped a) (grouped b)
binary_by None op a b = refl
binary_by (Some operands) op a b = refl

pub binary_loose : (op : Operator) (a b : Typed) → binary_rule op a b ≡ binary_rule op (grouped a) (grouped b)
binary_loose op a b = binary_by (operands_wanted op) op a b

unary_by : (operand : Option Operand) (op : Operator) (a : Typed) → unary_with operand op a ≡ unary_with operand op (grouped a)
unary_by None op a = refl
unary_by (Some operand) op a = refl

pub unary_loose : (op : Operator) (a : Typed) → unary_rule op a ≡ unary_rule op (grouped a)
unary_loose op a = unary_by (operand_wanted op) op a

pub conversion_loose : (conversion : Conversion) (a : Typed) → conversion_outcome conversion a ≡ conversion_outcome conversion (grouped a)
conversion_loose conversion.Int a = refl
conversion_loose conversion.Char a = refl
conversion_loose conversion.Str a = refl

-- ---- bracketed lists

common_loose : (known : Ty) (parts : List Repeated) → common_of_all known parts ≡ common_of_all known (map placeless_part parts)
common_loose known [] = refl
common_loose known (part ∷ parts) = by (common_type known part.value.ty) (λ ty. common_loose ty parts)
  where
    by : (found : Option Ty) → ((ty : Ty) → common_of_all ty parts ≡ common_of_all ty (map placeless_part parts))
        → option_and_then (λ ty. common_of_all ty parts) found ≡ option_and_then (λ ty. common_of_all ty (map placeless_part parts)) found
    by None rest = refl
    by (Some ty) rest = rest ty

counted_loose : (count : Option Typed) (value : Typed) → is_counted (record { count = count; value = value }) ≡ is_counted (placeless_part (record { count = count; value = value }))
counted_loose None value = refl
counted_loose (Some count) value = refl

all_counted : (parts : List Repeated) → list_all is_counted parts ≡ list_all is_counted (map placeless_part parts)
all_counted [] = refl
all_counted (part ∷ parts) = rw (counted_loose part.count part.value) (rw (all_counted parts) refl)

pub bracketed_loose : (parts : List Repeated) → bracketed_rule parts ≡ bracketed_rule (map placeless_part parts)
bracketed_loose [] = refl
bracketed_loose (part ∷ parts) =
    ap (λ (common : Option Ty). array_with common (list_all is_counted (part ∷ parts))) (common_loose part.value.ty parts)
    ∙ ap (array_with (common_of_all part.value.ty (map placeless_part parts))) (all_counted (part ∷ parts))

-- ---- arguments

dimension_loose : (array : TypedExpr) (dimension : Option Dimension) → dimension_outcome array dimension ≡ dimension_outcome (placeless array) dimension
dimension_loose array None = refl
dimension_loose array (Some dimension) = refl

pub many_loose : {A : Type 0} (formals : List A) (arguments : List TypedExpr) → as_many formals arguments ≡ as_many formals (map placeless arguments)
many_loose [] [] = refl
many_loose [] (argument ∷ arguments) = refl
many_loose (formal ∷ formals) [] = refl
many_loose (formal ∷ formals) (argument ∷ arguments) = many_loose formals arguments

pub takes_loose : (signature : Option Signature) (untyped : Bool) (arguments : List TypedExpr) → takes_by signature untyped arguments ≡ takes_by signature untyped (map placeless arguments)
takes_loose None untyped arguments = refl
takes_loose (Some signature) untyped arguments = many_loose signature.params arguments

record_loose : {A : Type 0} (facts : Facts) (arguments : List TypedExpr) (layer : Ty-F A) → layer_record facts arguments layer ≡ layer_record facts (map placeless arguments) layer
record_loose facts arguments (Ty-F.Rec spot) = ap (λ met. record_if met (ty.Rec spot)) (many_loose (record_fields facts.infos spot) arguments)
record_loose facts arguments _ = refl

function_loose : (facts : Facts) (name : Predefined) (arguments : List TypedExpr) → function_outcome facts name arguments ≡ function_outcome facts name (map placeless arguments)
function_loose facts predefined.Read arguments = refl
function_loose facts predefined.Min (a ∷ b ∷ []) = refl
function_loose facts predefined.Min (a ∷ b ∷ c ∷ more) = refl
function_loose facts predefined.Max (a ∷ b ∷ []) = refl
function_loose facts predefined.Max (a ∷ b ∷ c ∷ more) = refl
function_loose facts predefined.Lb (a ∷ b ∷ []) = dimension_loose a (dimension_of b.named)
function_loose facts predefined.Lb (a ∷ b ∷ c ∷ more) = refl
function_loose facts predefined.Ub (a ∷ b ∷ []) = dimension_loose a (dimension_of b.named)
function_loose facts predefined.Ub (a ∷ b ∷ c ∷ more) = refl
function_loose facts name [] = refl
function_loose facts name (a ∷ []) = refl
function_loose facts name (a ∷ b ∷ more) = refl

pub called_loose : (facts : Facts) (span : Span) (callee : TypedExpr) (arguments : List TypedExpr) (what : Named)
    → placeless (called_by facts span callee arguments what).typed_expr ≡ placeless (called_by facts span (placeless callee) (map placeless arguments) what).typed_expr
called_loose facts span callee arguments (named.Predefined name) = ap (λ outcome. placeless (value_at span (settled_typed outcome))) (function_loose facts name arguments)
called_loose facts span callee arguments (named.«Type» ty) = ap (λ outcome. placeless (value_at span (settled_typed outcome))) (record_loose facts arguments (out-Ty ty))
called_loose facts span callee arguments _ =
    ap (λ met. placeless (value_at span (settled_typed (returned_outcome met (returned_by facts.signatures callee.typed.ty))))) (takes_loose (signature_of facts.signatures callee.typed.ty) (is_no_type callee.typed.ty) arguments)
