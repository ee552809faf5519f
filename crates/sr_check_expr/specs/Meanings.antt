-- What names mean and are, by the facts of the checked program.
use Rattle.std.specs.Prelude.{ℕ, Bool, List, [], Option, Some, None, unwrap_or, is_some}
use Rattle.std.specs.Option.{option_map, option_and_then}
use Rattle.sr_check_expr.specs.declared.facts.Facts.{Facts}
use Rattle.sr_check_expr.specs.declared.info.Info.{Info}
use Rattle.sr_check_expr.specs.declared.info.Info.TheVariants as info
use Rattle.sr_check_expr.specs.declared.typed_expr.TypedExpr.{TypedExpr}
use Rattle.sr_check_expr.specs.Exprs.{infer_expr}
use Rattle.sr_check_expr.specs.Infos.{info_at, name_spot}
use Rattle.sr_check_expr.specs.Naming.{decl_of}
use Rattle.sr_names.specs.declared.meaning.Meaning.{Meaning}
use Rattle.sr_names.specs.declared.meaning.Meaning.TheVariants.{Predefined as MeansPredefined}
use Rattle.sr_names.specs.declared.predefined.Predefined.{Predefined}
use Rattle.sr_names.specs.declared.spot.Spot.{Spot}
use Rattle.sr_names.specs.Spots.{spot_of}
use Rattle.sr_names.specs.Uses.{meaning_at}
use Rattle.sr_tree.specs.declared.expr.Create.TheOpen.{Expr-F}
use Rattle.sr_tree.specs.declared.expr.Expr.{Expr, out-Expr}
use Rattle.sr_tree.specs.declared.expr.Invocation.{Invocation, out-Invocation}
use Rattle.sr_tree.specs.declared.name.Name.{Name}
use Rattle.sr_types.specs.declared.signature.Param.{Param}
use Rattle.sr_types.specs.declared.signature.Signature.{Signature}
use Rattle.sr_types.specs.declared.ty.Ty.{Ty, out-Ty}
use Rattle.sr_types.specs.declared.ty.Ty.TheOpen.{Ty-F}
use Rattle.sr_types.specs.declared.ty.Ty.TheVariants.{Untyped}
use Rattle.sr_types.specs.Signatures.{signature_of}
use Rattle.sr_types.specs.declared.typed.Static.{Static}
use Rattle.sr_types.specs.declared.typed.Static.TheVariants.{Known}
use Rattle.sr_value.specs.declared.place.Span.{Span}
use Rattle.sr_value.specs.declared.value.Value.{Value}

-- what an expression is
abbrev pub typed_expr : Facts → Expr → TypedExpr
typed_expr facts expr = (infer_expr expr facts).typed_expr

abbrev pub type_of : Facts → Expr → Ty
type_of facts expr = (typed_expr facts expr).typed.ty

-- what declares the name that is used at a span
abbrev pub declared_at : Facts → Span → Option Spot
declared_at facts span = option_map (λ decl. decl.spot) (decl_of (meaning_at facts.uses (spot_of span)))

-- where nothing declares it the name itself stands for it, as in a program that is refused
abbrev pub meant_by : Facts → Name → Spot
meant_by facts name = unwrap_or (declared_at facts name.span) (spot_of name.span)

-- ---- static values

abbrev pub known : Static → Option Value
known (Known value) = Some value
known _ = None

abbrev pub info_constant : Info → Option Value
info_constant (info.Value typed) = known typed.value
info_constant _ = None

-- the value of the static constant, or of the literal of an enumeration, that is declared at a spot
abbrev pub constant_at : Facts → Spot → Option Value
constant_at facts spot = option_and_then info_constant (info_at facts.infos spot)

abbrev pub is_constant : Facts → Spot → Bool
is_constant facts spot = is_some (constant_at facts spot)

-- ---- types

abbrev pub info_type : Info → Ty
info_type (info.Value typed) = typed.ty
info_type (info.Operation ty component is_local) = ty
info_type _ = Untyped

-- the type of the variable, constant or operation that is declared at a spot
abbrev pub type_at : Facts → Spot → Ty
type_at facts spot = unwrap_or (option_map info_type (info_at facts.infos spot)) Untyped

abbrev pub params_in : Option Signature → List Param
params_in None = []
params_in (Some signature) = signature.params

-- the formals of an operation of this type
abbrev pub params_of : Facts → Ty → List Param
params_of facts ty = params_in (signature_of facts.signatures ty)

abbrev pub returned_in : Option Signature → Option Ty
returned_in None = None
returned_in (Some signature) = signature.returns

-- what an operation of this type returns
abbrev pub returned_by : Facts → Ty → Option Ty
returned_by facts ty = returned_in (signature_of facts.signatures ty)

abbrev pub info_literals : Info → ℕ
info_literals (info.Enumeration number literals) = literals
info_literals _ = 0

abbrev pub layer_literals : {A : Type 0} → Facts → Ty-F A → ℕ
layer_literals facts (Ty-F.Enum spot) = unwrap_or (option_map info_literals (info_at facts.infos (name_spot spot))) 0
layer_literals facts _ = 0

-- how many literals an enumeration has
abbrev pub literals_of : Facts → Ty → ℕ
literals_of facts ty = layer_literals facts (out-Ty ty)

-- ---- what an expression names

abbrev pub layer_operation : {A B C D : Type 0} → Facts → Expr-F A B C D → Option Spot
layer_operation facts (Expr-F.Name name) = declared_at facts name.span
layer_operation facts (Expr-F.Field span owner field) = declared_at facts field.span
layer_operation facts _ = None

-- the operation that an expression names: a name, or a component's name, a point and a name
abbrev pub operation_meant : Facts → Expr → Option Spot
operation_meant facts expr = layer_operation facts (out-Expr expr)

abbrev pub predefined_in : Option Meaning → Option Predefined
predefined_in (Some (MeansPredefined name)) = Some name
predefined_in _ = None

abbrev pub layer_function : {A B C D : Type 0} → Facts → Expr-F A B C D → Option Predefined
layer_function facts (Expr-F.Name name) = predefined_in (meaning_at facts.uses (spot_of name.span))
layer_function facts _ = None

-- the predefined function that an invocation calls by its name
abbrev pub function_called : Facts → Invocation → Option Predefined
function_called facts invocation = layer_function facts (out-Expr (out-Invocation invocation).callee)
