-- Operations that are serviced by `in`, `receive`, `P` and procs.
use Rattle.std.specs.Prelude.{Bool, true, false, not, ◌&&◌, List, [], ◌∷◌, ◌++◌, Option, Some, None, is_some, if◌then◌else◌}
use Rattle.sr_value.specs.declared.place.Span.{Span}
use Rattle.sr_names.specs.declared.finding.Finding.{Finding}
use Rattle.sr_names.specs.declared.finding.Rule.TheVariants.{BadType, BadUse}
use Rattle.sr_names.specs.declared.meaning.Decl.{Decl}
use Rattle.sr_names.specs.declared.spot.Spot.{Spot}
use Rattle.sr_names.specs.Readings.{broken}
use Rattle.sr_names.specs.Spots.{same_spot, spot_before, spot_of}
use Rattle.sr_names.specs.Uses.{meaning_at}
use Rattle.sr_tree.specs.declared.name.Name.{Name}
use Rattle.sr_types.specs.declared.signature.Param.{Param}
use Rattle.sr_types.specs.declared.signature.Signature.{Signature}
use Rattle.sr_types.specs.declared.ty.Ty.{Ty}
use Rattle.sr_types.specs.declared.ty.Ty.TheVariants as ty
use Rattle.sr_types.specs.Signatures.{signature_of}
use Rattle.sr_check_expr.specs.declared.facts.Facts.{Facts}
use Rattle.sr_check_expr.specs.declared.info.Info.{Info}
use Rattle.sr_check_expr.specs.declared.info.Info.TheVariants as info
use Rattle.sr_check_expr.specs.Arguments.{as_many}
use Rattle.sr_check_expr.specs.Infos.{info_at}
use Rattle.sr_check_expr.specs.Typings.{broken_unless}
use Rattle.sr_check_expr.specs.Naming.{decl_of, decl_info}
use Rattle.sr_check_decl.specs.Variables.{variable}
use Rattle.sr_check_decl.specs.Declaring.{declare_name}
use Rattle.sr_check.specs.declared.operation.Operation.{Operation}
use Rattle.sr_check.specs.Procs.{Procs, proc_of}
use Rattle.sr_check_expr.specs.Meanings.{params_in, returned_in}

abbrev pub operation_by : Spot → Option Info → Option Operation
operation_by spot (Some (info.Operation ty component is_local)) = Some (record { spot = spot; ty = ty; component = component; is_local = is_local })
operation_by spot _ = None

abbrev pub operation_at : Facts → Option Decl → Option Operation
operation_at facts None = None
operation_at facts (Some decl) = operation_by decl.spot (info_at facts.infos decl.spot)

abbrev pub decl_named : Facts → Name → Option Decl
decl_named facts name = decl_of (meaning_at facts.uses (spot_of name.span))

-- the operation that a name means
abbrev pub operation_named : Facts → Name → Option Operation
operation_named facts name = operation_at facts (decl_named facts name)

-- ---- whose an operation is

abbrev pub is_local_info : Option Info → Bool
is_local_info (Some (info.Operation ty component is_local)) = is_local
is_local_info _ = false

abbrev pub is_shared_info : Option Info → Bool
is_shared_info (Some (info.Operation ty component is_local)) = not is_local
is_shared_info _ = false

-- a name means an operation of a proc
abbrev pub is_local_name : Facts → Name → Bool
is_local_name facts name = is_local_info (decl_info facts.infos (decl_named facts name))

-- a name means an operation of a component
abbrev pub is_shared_name : Facts → Name → Bool
is_shared_name facts name = is_shared_info (decl_info facts.infos (decl_named facts name))

-- ---- what an operation has

abbrev pub params_of : List Signature → Ty → List Param
params_of signatures ty = params_in (signature_of signatures ty)

abbrev pub returns_of : List Signature → Ty → Option Ty
returns_of signatures ty = returned_in (signature_of signatures ty)

abbrev pub both_or_none : Bool → Bool → Bool
both_or_none true other = other
both_or_none false other = not other

abbrev pub heads_by : {A : Type 0} → Option Signature → List A → Bool → Bool
heads_by None names returns = true
heads_by (Some signature) names returns = as_many names signature.params && both_or_none returns (is_some signature.returns)

-- as many names as formals, and `returns` exactly where the operation returns
abbrev pub head_rule : {A : Type 0} → List Signature → List A → Bool → Ty → Bool
head_rule signatures names returns ty = heads_by (signature_of signatures ty) names returns

-- ---- rules of servicing

-- an operation is serviced only in the component that declares it
abbrev pub is_own : Facts → Operation → Bool
is_own facts operation = same_spot operation.component facts.here.component.spot

-- of two places that disagree the later one is refused
abbrev pub later_of : Span → Span → Span
later_of a b = if spot_before (spot_of a) (spot_of b) then b else a

-- an operation that has a proc isn't serviced by `in` too
abbrev pub proc_found : Span → Option Span → List Finding
proc_found span None = []
proc_found span (Some proc) = broken BadUse (later_of proc span) ∷ []

-- servicing at a span, by statements
abbrev pub service_found : Facts → Procs → Span → Operation → List Finding
service_found facts procs span operation = broken_unless (is_own facts operation) BadUse span ++ proc_found span (proc_of procs operation.spot)

-- the head of a service at a span
abbrev pub head_found : {C : Type 0} → Facts → Procs → Span → List C → Bool → Option Operation → List Finding
head_found facts procs span formals returns None = broken BadType span ∷ []
head_found facts procs span formals returns (Some operation) =
    broken_unless (head_rule facts.signatures formals returns operation.ty) BadType span ++ service_found facts procs span operation

-- ---- what a service declares

-- the formals of a service, by the names that stand for them
abbrev pub names_bound : List Name → List Param → Facts → Facts
names_bound [] params facts = facts
names_bound (name ∷ names) [] facts = names_bound names [] (declare_name facts name (variable ty.Untyped))
names_bound (name ∷ names) (param ∷ params) facts = names_bound names params (declare_name facts name (variable param.ty))

abbrev pub type_or_none : Option Ty → Ty
type_or_none None = ty.Untyped
type_or_none (Some ty) = ty

abbrev pub returned_bound : Option Name → Ty → Facts → Facts
returned_bound None ty facts = facts
returned_bound (Some name) ty facts = declare_name facts name (variable ty)

-- what is known within a service of an operation of this type
abbrev pub service_bound : List Name → Option Name → Ty → Facts → Facts
service_bound formals returned ty facts =
    returned_bound returned (type_or_none (returns_of facts.signatures ty)) (names_bound formals (params_of facts.signatures ty) facts)

abbrev pub type_of : Option Operation → Ty
type_of None = ty.Untyped
type_of (Some operation) = operation.ty

abbrev pub spot_or : Spot → Option Operation → Spot
spot_or spot None = spot
spot_or spot (Some operation) = operation.spot
