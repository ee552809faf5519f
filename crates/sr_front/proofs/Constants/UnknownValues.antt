-- The value that these rules give is not known before the run.
use Rattle.std.proofs.Common.{◌≡◌, Bool, true, false, List, [], ◌∷◌, Option, Some, None, refl}
use Rattle.std.specs.Prelude.{ℕ}
use Rattle.sr_check_expr.specs.Arguments.{returned_outcome}
use Rattle.sr_check_expr.specs.Calls.{layer_record, record_if}
use Rattle.sr_check_expr.specs.Creating.{made_of}
use Rattle.sr_check_expr.specs.declared.facts.Facts.{Facts}
use Rattle.sr_check_expr.specs.declared.typed_expr.TypedExpr.{TypedExpr}
use Rattle.sr_check_expr.specs.Exprs.{conversion_outcome, index_outcome, pending_outcome}
use Rattle.sr_check_expr.specs.Naming.{capability_part, field_part, layer_field}
use Rattle.sr_check_expr.specs.PredefinedCalls.{bound_outcome, by_one, dimension_of, dimension_outcome, function_outcome, only, two_numbers_outcome}
use Rattle.sr_check_expr.specs.Typings.{settled_typed}
use Rattle.sr_names.specs.declared.predefined.Predefined.{Predefined}
use Rattle.sr_names.specs.declared.predefined.Predefined.TheVariants as predefined
use Rattle.sr_names.specs.declared.spot.Spot.{Spot}
use Rattle.sr_tree.specs.declared.expr.Conversion.{Conversion}
use Rattle.sr_tree.specs.declared.expr.Conversion.TheVariants as conversion
use Rattle.sr_types.specs.Aggregates.{are_counted, array_with, bracketed_rule, common_of_all, layer_array}
use Rattle.sr_types.specs.declared.aggregates.Repeated.{Repeated}
use Rattle.sr_types.specs.declared.ty.Ty.{Ty, out-Ty}
use Rattle.sr_types.specs.declared.ty.Ty.TheOpen.{Ty-F}
use Rattle.sr_types.specs.declared.typed.Static.TheVariants.{Unknown}
use Rattle.sr_types.specs.declared.typed.Typed.{Typed}
use Rattle.sr_types.specs.Outcomes.{computed, met_if, unknown_if}
use Rattle.sr_types.specs.Parts.{indexed as part_indexed}
use Rattle.sr_value.specs.declared.predefined.Dimension.{Dimension}

unknown_met : (met : Bool) (ty : Ty) → (settled_typed (unknown_if met ty)).value ≡ Unknown
unknown_met true ty = refl
unknown_met false ty = refl

pub converted : (conversion : Conversion) (value : Typed) → (settled_typed (conversion_outcome conversion value)).value ≡ Unknown
converted conversion.Int value = unknown_met _ _
converted conversion.Char value = unknown_met _ _
converted conversion.Str value = unknown_met _ _

arrayed : (ty : Ty) (met : Bool) (layer : Ty-F Ty) → (settled_typed (layer_array ty met layer)).value ≡ Unknown
arrayed ty met (Ty-F.Vector item) = unknown_met met _
arrayed ty met (Ty-F.Matrix item) = refl
arrayed ty met Ty-F.Untyped = unknown_met met _
arrayed ty met _ = unknown_met met _

array_by : (ty : Option Ty) (met : Bool) → (settled_typed (array_with ty met)).value ≡ Unknown
array_by None met = refl
array_by (Some ty) met = arrayed ty met (out-Ty ty)

pub bracketed : (parts : List Repeated) → (settled_typed (bracketed_rule parts)).value ≡ Unknown
bracketed [] = refl
bracketed (part ∷ parts) = array_by (common_of_all part.value.ty parts) (are_counted (part ∷ parts))

part_of_unknown : (whole : Typed) (met : Bool) (item : Option Ty) → (settled_typed (part_indexed whole met item)).value ≡ Unknown
part_of_unknown whole met None = refl
part_of_unknown whole true (Some item) = refl
part_of_unknown whole false (Some item) = refl

pub picked : (whole first : Typed) (second : Option TypedExpr) → (settled_typed (index_outcome whole first second)).value ≡ Unknown
picked whole first None = part_of_unknown whole _ _
picked whole first (Some second) = part_of_unknown whole _ _

field_of : (owner : Typed) (ty : Option Ty) → (settled_typed (field_part owner ty)).value ≡ Unknown
field_of owner None = refl
field_of owner (Some ty) = refl

member_of : (ty : Option Ty) → (settled_typed (capability_part ty)).value ≡ Unknown
member_of None = refl
member_of (Some ty) = refl

pub fielded : {A : Type 0} (facts : Facts) (owner : Typed) (name : List ℕ) (layer : Ty-F A) → (settled_typed (layer_field facts owner name layer)).value ≡ Unknown
fielded facts owner name (Ty-F.Rec spot) = field_of owner _
fielded facts owner name (Ty-F.Resource spot) = member_of _
fielded facts owner name Ty-F.Untyped = refl
fielded facts owner name _ = refl

pub pending : (component : Option Spot) → (settled_typed (pending_outcome component)).value ≡ Unknown
pending None = refl
pending (Some component) = refl

met_unknown : (met : Bool) (ty : Ty) → (settled_typed (met_if met (computed ty Unknown))).value ≡ Unknown
met_unknown true ty = refl
met_unknown false ty = refl

pub made_unknown : (facts : Facts) (arguments : List TypedExpr) (instance : Ty) (formals : Option Ty) → (settled_typed (made_of facts arguments instance formals)).value ≡ Unknown
made_unknown facts arguments instance None = refl
made_unknown facts arguments instance (Some formals) = met_unknown _ instance

record_unknown : (met : Bool) (ty : Ty) → (settled_typed (record_if met ty)).value ≡ Unknown
record_unknown true ty = refl
record_unknown false ty = refl

pub recorded : {A : Type 0} (facts : Facts) (arguments : List TypedExpr) (layer : Ty-F A) → (settled_typed (layer_record facts arguments layer)).value ≡ Unknown
recorded facts arguments (Ty-F.Rec spot) = record_unknown _ _
recorded facts arguments Ty-F.Untyped = refl
recorded facts arguments _ = refl

pub returned_unknown : (met : Bool) (ty : Option Ty) → (settled_typed (returned_outcome met ty)).value ≡ Unknown
returned_unknown met None = refl
returned_unknown met (Some ty) = met_unknown met ty

-- ---- predefined functions

numbers_silent : (arguments : List TypedExpr) → (settled_typed (two_numbers_outcome arguments)).value ≡ Unknown
numbers_silent (a ∷ b ∷ []) = unknown_met _ _
numbers_silent _ = refl

dimension_silent : (array : TypedExpr) (dimension : Option Dimension) → (settled_typed (dimension_outcome array dimension)).value ≡ Unknown
dimension_silent array None = refl
dimension_silent array (Some dimension) = unknown_met _ _

bound_silent : (arguments : List TypedExpr) → (settled_typed (bound_outcome arguments)).value ≡ Unknown
bound_silent (array ∷ []) = unknown_met _ _
bound_silent (array ∷ number ∷ []) = dimension_silent array (dimension_of number.named)
bound_silent _ = refl

-- the ends of a type alone may be known
abbrev pub NotEnd : Predefined → Type 0
NotEnd predefined.Low = ⊥
NotEnd predefined.High = ⊥
NotEnd _ = Unit {0}

one_unknown : (facts : Facts) (name : Predefined) (argument : Option TypedExpr) → NotEnd name → (settled_typed (by_one facts.infos name argument)).value ≡ Unknown
one_unknown facts name None other = refl
one_unknown facts predefined.Abs (Some one) other = unknown_met _ _
one_unknown facts predefined.Length (Some one) other = unknown_met _ _
one_unknown facts predefined.Pred (Some one) other = met_unknown _ _
one_unknown facts predefined.Succ (Some one) other = met_unknown _ _
one_unknown facts predefined.Low (Some one) other = absurd other
one_unknown facts predefined.High (Some one) other = absurd other
one_unknown facts _ (Some one) other = refl

pub function_unknown : (facts : Facts) (name : Predefined) (arguments : List TypedExpr) → NotEnd name → (settled_typed (function_outcome facts name arguments)).value ≡ Unknown
function_unknown facts predefined.Read arguments other = refl
function_unknown facts predefined.Min arguments other = numbers_silent arguments
function_unknown facts predefined.Max arguments other = numbers_silent arguments
function_unknown facts predefined.Lb arguments other = bound_silent arguments
function_unknown facts predefined.Ub arguments other = bound_silent arguments
function_unknown facts predefined.MyResource [] other = refl
function_unknown facts predefined.MyResource (argument ∷ arguments) other = refl
function_unknown facts predefined.MyVm [] other = refl
function_unknown facts predefined.MyVm (argument ∷ arguments) other = refl
function_unknown facts name arguments other = one_unknown facts name (only arguments) other
