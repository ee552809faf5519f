-- What names are in expressions.
use Rattle.std.specs.Prelude.{ℕ, List, [], Option, Some, None, find}
use Rattle.std.specs.Option.{option_and_then, option_map}
use Rattle.std.specs.Str.{bytes_eq}
use Rattle.sr_value.specs.declared.place.Span.{Span}
use Rattle.sr_names.specs.declared.meaning.Decl.{Decl}
use Rattle.sr_names.specs.declared.meaning.Meaning.{Meaning}
use Rattle.sr_names.specs.declared.meaning.Meaning.TheVariants.{Predefined as MeansPredefined, Declared}
use Rattle.sr_names.specs.declared.predefined.Predefined.{Predefined}
use Rattle.sr_names.specs.declared.predefined.Predefined.TheVariants.{Eof}
use Rattle.sr_names.specs.declared.spot.Spot.{Spot}
use Rattle.sr_names.specs.Components.{member_named}
use Rattle.sr_names.specs.Spots.{spot_of}
use Rattle.sr_names.specs.Uses.{meaning_at}
use Rattle.sr_tree.specs.declared.name.Name.{Name}
use Rattle.sr_tree.specs.declared.name.QualifiedName.{QualifiedName}
use Rattle.sr_types.specs.declared.spot.Spot as types
use Rattle.sr_types.specs.declared.ty.Ty.{Ty, out-Ty}
use Rattle.sr_types.specs.declared.ty.Ty.TheOpen.{Ty-F}
use Rattle.sr_types.specs.declared.ty.Ty.TheVariants as ty
use Rattle.sr_types.specs.declared.typed.Outcome.{Outcome}
use Rattle.sr_types.specs.declared.typed.Outcome.TheVariants.{Broken, Met}
use Rattle.sr_types.specs.declared.typed.Static.TheVariants.{Unknown}
use Rattle.sr_types.specs.declared.typed.Typed.{Typed}
use Rattle.sr_types.specs.Outcomes.{computed, refused_typed}
use Rattle.sr_types.specs.Parts.{field_rule}
use Rattle.sr_check_expr.specs.declared.facts.Facts.{Facts}
use Rattle.sr_check_expr.specs.declared.info.FieldInfo.{FieldInfo}
use Rattle.sr_check_expr.specs.declared.info.Info.{Info}
use Rattle.sr_check_expr.specs.declared.info.Info.TheVariants as info
use Rattle.sr_check_expr.specs.declared.typed_expr.TypedExpr.{TypedExpr}
use Rattle.sr_check_expr.specs.declared.typed_expr.Named.TheVariants as named
use Rattle.sr_check_expr.specs.Entries.{Entries}
use Rattle.sr_check_expr.specs.Infos.{info_at, type_spot, name_spot}
use Rattle.sr_check_expr.specs.Typings.{Typing, value_at, name_at, plain, refused_at}

-- `EOF` is a value; the other predefined names are functions
abbrev pub predefined_at : Span → Predefined → TypedExpr
predefined_at span Eof = value_at span (computed ty.Int Unknown)
predefined_at span name = name_at span (named.Predefined name)

-- a bare operation name is its capability
abbrev pub operation_at : Span → Spot → Ty → TypedExpr
operation_at span spot ty = record { span = span; typed = computed ty Unknown; named = named.Operation spot }

abbrev pub info_typing : Span → Decl → Info → TypedExpr
info_typing span decl (info.Value typed) = value_at span typed
info_typing span decl (info.«Type» ty) = name_at span (named.«Type» ty)
info_typing span decl (info.Enumeration number literals) = name_at span (named.«Type» (ty.Enum (type_spot decl.spot)))
info_typing span decl (info.Record fields) = name_at span (named.«Type» (ty.Rec (type_spot decl.spot)))
info_typing span decl (info.OpType ty) = name_at span named.OpType
info_typing span decl (info.Operation ty component is_local) = operation_at span decl.spot ty
info_typing span decl (info.Component ty) = name_at span (named.Component decl)

abbrev pub declared_typing : Span → Decl → Option Info → Typing
declared_typing span decl None = refused_at span
declared_typing span decl (Some info) = plain (info_typing span decl info)

-- what an expression is that is a name with this meaning
abbrev pub meaning_typing : Entries → Span → Option Meaning → Typing
meaning_typing infos span None = refused_at span
meaning_typing infos span (Some (MeansPredefined name)) = plain (predefined_at span name)
meaning_typing infos span (Some (Declared decl)) = declared_typing span decl (info_at infos decl.spot)

-- a name that stands at a span, in an expression that begins at another
abbrev pub name_typing : Facts → Span → Span → Typing
name_typing facts span used = meaning_typing facts.infos span (meaning_at facts.uses (spot_of used))

-- the declaration that a meaning is
abbrev pub decl_of : Option Meaning → Option Decl
decl_of None = None
decl_of (Some (MeansPredefined name)) = None
decl_of (Some (Declared decl)) = Some decl

abbrev pub decl_info : Entries → Option Decl → Option Info
decl_info infos None = None
decl_info infos (Some decl) = info_at infos decl.spot

-- the last name of `name` or `component.name` decides
abbrev pub deciding : QualifiedName → Name
deciding qualified = by qualified.second
  where
    by : Option Name → Name
    by None = qualified.first
    by (Some name) = name

-- ---- fields

abbrev pub layer_fields : Info → List FieldInfo
layer_fields (info.Record fields) = fields
layer_fields _ = []

abbrev pub fields_of : Option Info → List FieldInfo
fields_of None = []
fields_of (Some info) = layer_fields info

-- the fields of the record type that is declared at a spot
abbrev pub record_fields : Entries → types.Spot → List FieldInfo
record_fields infos spot = fields_of (info_at infos (name_spot spot))

abbrev pub field_named : List FieldInfo → List ℕ → Option Ty
field_named fields name = option_map (λ field. field.ty) (find (λ field. bytes_eq field.name name) fields)

abbrev pub operation_type : Info → Option Ty
operation_type (info.Operation ty component is_local) = Some ty
operation_type _ = None

-- the type of an operation of a resource's spec
abbrev pub spec_operation : Facts → types.Spot → List ℕ → Option Ty
spec_operation facts resource name =
    option_and_then (λ decl. option_and_then operation_type (info_at facts.infos decl.spot)) (member_named facts.specs (name_spot resource) name)

abbrev pub field_part : Typed → Option Ty → Outcome
field_part owner None = Broken
field_part owner (Some ty) = Met (field_rule owner ty)

abbrev pub capability_part : Option Ty → Outcome
capability_part None = Broken
capability_part (Some ty) = Met (computed ty Unknown)

abbrev pub layer_field : {A : Type 0} → Facts → Typed → List ℕ → Ty-F A → Outcome
layer_field facts owner name (Ty-F.Rec spot) = field_part owner (field_named (record_fields facts.infos spot) name)
layer_field facts owner name (Ty-F.Resource spot) = capability_part (spec_operation facts spot name)
layer_field facts owner name Ty-F.Untyped = Met refused_typed
layer_field facts owner name _ = Broken

-- `r.f`: a field of a record, or an operation of the spec of a resource through a capability
abbrev pub field_outcome : Facts → Typed → List ℕ → Outcome
field_outcome facts owner name = layer_field facts owner name (out-Ty owner.ty)
