-- Arguments: each is refused where its formal doesn't take it, and the whole where their number differs.
use Rattle.std.specs.Prelude.{Bool, true, false, List, [], ◌∷◌, ◌++◌, Option, Some, None}
use Rattle.sr_names.specs.declared.finding.Finding.{Finding}
use Rattle.sr_names.specs.declared.finding.Rule.TheVariants.{BadType}
use Rattle.sr_types.specs.declared.signature.Forms.{Forms}
use Rattle.sr_types.specs.declared.signature.Forms.TheVariants.{Both, Call, Send}
use Rattle.sr_types.specs.declared.signature.Param.{Param}
use Rattle.sr_types.specs.declared.signature.Signature.{Signature}
use Rattle.sr_types.specs.declared.ty.Ty.{Ty}
use Rattle.sr_types.specs.declared.ty.Ty.TheVariants.{Untyped}
use Rattle.sr_types.specs.declared.typed.Outcome.{Outcome}
use Rattle.sr_types.specs.declared.typed.Outcome.TheVariants.{Broken}
use Rattle.sr_types.specs.declared.typed.Static.TheVariants.{Unknown}
use Rattle.sr_types.specs.Outcomes.{computed, met_if}
use Rattle.sr_types.specs.Signatures.{signature_of}
use Rattle.sr_types.specs.Storing.{argument_rule}
use Rattle.sr_types.specs.Types.{fits_type, is_no_type}
use Rattle.sr_check_expr.specs.declared.info.FieldInfo.{FieldInfo}
use Rattle.sr_check_expr.specs.declared.typed_expr.TypedExpr.{TypedExpr}
use Rattle.sr_check_expr.specs.Typings.{Typing, broken_unless, value_found}

-- there are as many of the one as of the other
abbrev pub as_many : {A B : Type 0} → List A → List B → Bool
as_many [] [] = true
as_many [] (thing ∷ things) = false
as_many (thing ∷ things) [] = false
as_many (thing ∷ things) (other ∷ others) = as_many things others

-- what is found in arguments themselves
abbrev pub all_found : List Typing → List Finding
all_found [] = []
all_found (argument ∷ arguments) = argument.found ++ all_found arguments

-- arguments are values
abbrev pub all_valued : List TypedExpr → List Finding
all_valued [] = []
all_valued (argument ∷ arguments) = value_found argument ++ all_valued arguments

-- formals take their arguments
abbrev pub arguments_found : List Param → List TypedExpr → List Finding
arguments_found [] arguments = []
arguments_found (formal ∷ formals) [] = []
arguments_found (formal ∷ formals) (argument ∷ arguments) =
    broken_unless (argument_rule formal.mode formal.ty argument.typed) BadType argument.span ++ arguments_found formals arguments

-- so do fields
abbrev pub fields_found : List FieldInfo → List TypedExpr → List Finding
fields_found [] arguments = []
fields_found (field ∷ fields) [] = []
fields_found (field ∷ fields) (argument ∷ arguments) =
    broken_unless (fits_type argument.typed.ty field.ty) BadType argument.span ++ fields_found fields arguments

-- ---- by the signature of a callee, where its type is of operations

abbrev pub formals_found : Option Signature → List TypedExpr → List Finding
formals_found None arguments = []
formals_found (Some signature) arguments = arguments_found signature.params arguments

-- what is found in the arguments of an invocation
abbrev pub invoked_found : List Signature → Ty → List TypedExpr → List Finding
invoked_found signatures callee arguments = formals_found (signature_of signatures callee) arguments

-- where there is no signature, what has no type takes what it is given
abbrev pub takes_by : {A : Type 0} → Option Signature → Bool → List A → Bool
takes_by None untyped arguments = untyped
takes_by (Some signature) untyped arguments = as_many signature.params arguments

-- what is invoked is an operation with as many formals
abbrev pub takes_as_many : List Signature → Ty → List TypedExpr → Bool
takes_as_many signatures callee arguments = takes_by (signature_of signatures callee) (is_no_type callee) arguments

abbrev pub returned_if : Bool → Option Ty
returned_if true = Some Untyped
returned_if false = None

abbrev pub returned_in : Option Signature → Bool → Option Ty
returned_in None untyped = returned_if untyped
returned_in (Some signature) untyped = signature.returns

-- what an invocation gives back
abbrev pub returned_by : List Signature → Ty → Option Ty
returned_by signatures callee = returned_in (signature_of signatures callee) (is_no_type callee)

abbrev pub may_call : Forms → Bool
may_call Both = true
may_call Call = true
may_call Send = false

abbrev pub may_send : Forms → Bool
may_send Both = true
may_send Call = false
may_send Send = true

abbrev pub forms_in : Option Signature → Forms
forms_in None = Both
forms_in (Some signature) = signature.forms

-- whether a callee of this type may be called, and whether it may be sent to
abbrev pub is_callable : List Signature → Ty → Bool
is_callable signatures callee = may_call (forms_in (signature_of signatures callee))

abbrev pub is_sendable : List Signature → Ty → Bool
is_sendable signatures callee = may_send (forms_in (signature_of signatures callee))

abbrev pub returned_outcome : Bool → Option Ty → Outcome
returned_outcome met None = Broken
returned_outcome met (Some ty) = met_if met (computed ty Unknown)

-- an invocation in an expression is of an operation that returns
abbrev pub invoked_outcome : List Signature → Ty → List TypedExpr → Outcome
invoked_outcome signatures callee arguments = returned_outcome (takes_as_many signatures callee arguments) (returned_by signatures callee)
