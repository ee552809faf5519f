-- Constants: what is found in their declarations, and what they are.
use Rattle.std.specs.Prelude.{Bool, true, false, not, ◌&&◌, ◌||◌, List, [], ◌++◌, Option, Some, None, if◌then◌else◌}
use Rattle.std.specs.Option.{option_map}
use Rattle.sr_names.specs.declared.finding.Finding.{Finding}
use Rattle.sr_names.specs.declared.finding.Rule.TheVariants.{BadType}
use Rattle.sr_tree.specs.declared.declaration.ConstDecl.{ConstDecl}
use Rattle.sr_tree.specs.declared.types.TypeTree.{TypeTree}
use Rattle.sr_types.specs.declared.ty.Ty.{Ty}
use Rattle.sr_types.specs.declared.ty.Ty.TheVariants as ty
use Rattle.sr_types.specs.declared.typed.Static.{Static}
use Rattle.sr_types.specs.declared.typed.Static.TheVariants.{Unknown, Known, Faults}
use Rattle.sr_types.specs.declared.typed.Typed.{Typed}
use Rattle.sr_types.specs.Outcomes.{computed}
use Rattle.sr_types.specs.Types.{fits_type, is_no_type, is_of_nulls}
use Rattle.sr_check_expr.specs.declared.facts.Facts.{Facts}
use Rattle.sr_check_expr.specs.declared.typed_expr.TypedExpr.{TypedExpr}
use Rattle.sr_check_expr.specs.Exprs.{infer_expr}
use Rattle.sr_check_expr.specs.Typings.{valued, broken_unless}
use Rattle.sr_check_decl.specs.declared.kind.Kind.{Kind}
use Rattle.sr_check_decl.specs.TypeTrees.{fixed_bounds, type_kinding}

abbrev pub is_static : Static → Bool
is_static (Known value) = true
is_static _ = false

abbrev pub is_fault : Static → Bool
is_fault (Faults fault) = true
is_fault _ = false

-- the type that is written, where one is: its bounds are static
abbrev pub written_kind : Facts → Option TypeTree → Option Kind
written_kind facts ty = option_map (λ tree. (type_kinding tree facts fixed_bounds).kind) ty

abbrev pub written_found : Facts → Option TypeTree → List Finding
written_found facts None = []
written_found facts (Some tree) = (type_kinding tree facts fixed_bounds).found

-- the value of a constant has its type, if it has one, and isn't of nothing but `null` and `noop` otherwise
abbrev pub has_type_of : Option Kind → Typed → Bool
has_type_of None value = not (is_of_nulls value.ty)
has_type_of (Some kind) value = fits_type value.ty kind.ty

-- besides, to evaluate it is no fault where it is static, and a constant of a spec is static
abbrev pub const_rule : Bool → Option Kind → Typed → Bool
const_rule in_spec kind value =
    is_no_type value.ty || (has_type_of kind value && (not (is_fault value.value) && (not in_spec || is_static value.value)))

abbrev pub known_if : Bool → Static → Static
known_if true value = value
known_if false value = Unknown

-- what has the type of its value has none where that is of nothing but `null` and `noop`
abbrev pub type_of_value : Ty → Ty
type_of_value own = if is_of_nulls own then ty.Untyped else own

abbrev pub const_type : Option Kind → Ty → Ty
const_type None ty = type_of_value ty
const_type (Some kind) ty = kind.ty

-- what a constant is: of its own type, if it has one, and of the type of its value otherwise
abbrev pub const_typed : Bool → Option Kind → Typed → Typed
const_typed in_spec kind value = computed (const_type kind value.ty) (known_if (const_rule in_spec kind value) value.value)

abbrev pub const_of : Bool → Facts → ConstDecl → Typed
const_of in_spec facts constant = const_typed in_spec (written_kind facts constant.ty) (infer_expr constant.value facts).typed_expr.typed

abbrev pub const_value_found : Bool → Option Kind → TypedExpr → List Finding
const_value_found in_spec kind value = broken_unless (const_rule in_spec kind value.typed) BadType value.span

abbrev pub const_found : Bool → Facts → ConstDecl → List Finding
const_found in_spec facts constant =
    written_found facts constant.ty
    ++ (valued (infer_expr constant.value facts)
    ++ const_value_found in_spec (written_kind facts constant.ty) (infer_expr constant.value facts).typed_expr)
