-- The making of instances and machines.
use Rattle.std.specs.Prelude.{Bool, true, false, List, [], ◌++◌, Option, Some, None}
use Rattle.std.specs.Option.{option_map}
use Rattle.sr_value.specs.declared.place.Span.{Span}
use Rattle.sr_names.specs.declared.finding.Finding.{Finding}
use Rattle.sr_names.specs.declared.finding.Rule.TheVariants.{BadType}
use Rattle.sr_names.specs.declared.meaning.Decl.{Decl}
use Rattle.sr_names.specs.Spots.{spot_of}
use Rattle.sr_names.specs.Uses.{meaning_at}
use Rattle.sr_tree.specs.declared.name.QualifiedName.{QualifiedName}
use Rattle.sr_types.specs.declared.ty.Ty.{Ty}
use Rattle.sr_types.specs.declared.ty.Ty.TheVariants as ty
use Rattle.sr_types.specs.declared.typed.Outcome.{Outcome}
use Rattle.sr_types.specs.declared.typed.Outcome.TheVariants.{Broken}
use Rattle.sr_types.specs.declared.typed.Static.TheVariants.{Unknown}
use Rattle.sr_types.specs.Outcomes.{computed, met_if}
use Rattle.sr_check_expr.specs.declared.facts.Facts.{Facts}
use Rattle.sr_check_expr.specs.declared.info.Info.{Info}
use Rattle.sr_check_expr.specs.declared.info.Info.TheVariants as info
use Rattle.sr_check_expr.specs.declared.typed_expr.TypedExpr.{TypedExpr}
use Rattle.sr_check_expr.specs.Arguments.{all_found, all_valued, invoked_found, takes_as_many}
use Rattle.sr_check_expr.specs.Entries.{Entries}
use Rattle.sr_check_expr.specs.Infos.{info_at, type_spot}
use Rattle.sr_check_expr.specs.Typings.{Typing, broken_unless, value_found, settled, value_at, typed_exprs_of, with_found}
use Rattle.sr_check_expr.specs.Naming.{decl_of, deciding}
use Rattle.sr_check_expr.specs.PredefinedCalls.{guard_found, is_resource}
use Rattle.sr_check_expr.specs.Uses.{machine_rule}

abbrev pub component_type : Option Info → Option Ty
component_type (Some (info.Component ty)) = Some ty
component_type _ = None

abbrev pub resource_if : Bool → Option Info → Option Ty
resource_if true info = component_type info
resource_if false info = None

-- the type that the formals of a resource make; a global can't be made
abbrev pub resource_type : Entries → Option Decl → Option Ty
resource_type infos None = None
resource_type infos (Some decl) = resource_if (is_resource decl.sort) (info_at infos decl.spot)

abbrev pub instance_type : Option Decl → Ty
instance_type None = ty.Untyped
instance_type (Some decl) = ty.Resource (type_spot decl.spot)

abbrev pub machine_found : Option Typing → List Finding
machine_found None = []
machine_found (Some machine) = machine.found

abbrev pub machine_of : Option Typing → Option TypedExpr
machine_of machine = option_map (λ machine. machine.typed_expr) machine

-- what stands after `on` is a machine
abbrev pub machine_valued : Option TypedExpr → List Finding
machine_valued None = []
machine_valued (Some machine) = value_found machine ++ broken_unless (machine_rule machine.typed) BadType machine.span

-- there is an argument for each formal
abbrev pub made_of : Facts → List TypedExpr → Ty → Option Ty → Outcome
made_of facts arguments instance None = Broken
made_of facts arguments instance (Some formals) = met_if (takes_as_many facts.signatures formals arguments) (computed instance Unknown)

abbrev pub formals_found : Facts → List TypedExpr → Option Ty → List Finding
formals_found facts arguments None = []
formals_found facts arguments (Some formals) = invoked_found facts.signatures formals arguments

abbrev pub made_found : Facts → Span → Option Ty → List TypedExpr → Option TypedExpr → List Finding
made_found facts span formals arguments machine =
    all_valued arguments ++ (machine_valued machine ++ (formals_found facts arguments formals ++ guard_found facts.here span))

-- what is made, by its arguments and its machine
abbrev pub instance_typing : Facts → Span → Option Decl → List TypedExpr → Option TypedExpr → Typing
instance_typing facts span resource arguments machine =
    settled span
    (made_found facts span (resource_type facts.infos resource) arguments machine)
    (made_of facts arguments (instance_type resource) (resource_type facts.infos resource))

-- the declaration that is named in a `create`
abbrev pub resource_named : Facts → QualifiedName → Option Decl
resource_named facts qualified = decl_of (meaning_at facts.uses (spot_of (deciding qualified).span))

-- `create R(arguments) on machine`
abbrev pub create_typing : Facts → Span → QualifiedName → List Typing → Option Typing → Typing
create_typing facts span qualified arguments machine =
    with_found (all_found arguments ++ machine_found machine)
    (instance_typing facts span (resource_named facts qualified) (typed_exprs_of arguments) (machine_of machine))

-- `create vm()`
abbrev pub machine_typing : Facts → Span → Typing
machine_typing facts span = record { found = guard_found facts.here span; typed_expr = value_at span (computed ty.Vm Unknown) }
