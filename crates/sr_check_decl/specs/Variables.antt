-- Variables: what is found in their declarations, and what they are.
use Rattle.std.specs.Prelude.{Bool, true, false, not, ◌||◌, List, [], ◌∷◌, ◌++◌, Option, Some, None, is_some, map}
use Rattle.sr_value.specs.declared.place.Span.{Span}
use Rattle.sr_names.specs.declared.finding.Finding.{Finding}
use Rattle.sr_names.specs.declared.finding.Rule.TheVariants.{BadType}
use Rattle.sr_names.specs.Spots.{spot_of}
use Rattle.sr_tree.specs.declared.declaration.VarDecl.{VarDecl}
use Rattle.sr_tree.specs.declared.expr.Expr.{Expr}
use Rattle.sr_tree.specs.declared.types.Decl.{Decl as DeclTree}
use Rattle.sr_tree.specs.declared.types.DimsTree.{DimsTree}
use Rattle.sr_tree.specs.declared.types.TypeTree.{TypeTree}
use Rattle.sr_types.specs.declared.ty.Ty.{Ty}
use Rattle.sr_types.specs.declared.ty.Ty.TheVariants as ty
use Rattle.sr_types.specs.declared.typed.Static.TheVariants.{Unknown}
use Rattle.sr_types.specs.Types.{fits_type, is_of_nulls}
use Rattle.sr_check_expr.specs.declared.facts.Facts.{Facts}
use Rattle.sr_check_expr.specs.declared.info.Info.{Info}
use Rattle.sr_check_expr.specs.declared.info.Info.TheVariants as info
use Rattle.sr_check_expr.specs.declared.typed_expr.TypedExpr.{TypedExpr}
use Rattle.sr_check_expr.specs.Arguments.{as_many, all_found, all_valued}
use Rattle.sr_check_expr.specs.Exprs.{infer_expr, infer_all}
use Rattle.sr_check_expr.specs.Infos.{with_info}
use Rattle.sr_check_expr.specs.Typings.{Typing, broken_unless, typed_exprs_of}
use Rattle.sr_names.specs.declared.spot.Spot.{Spot}
use Rattle.sr_check_decl.specs.declared.kind.Kind.{Kind}
use Rattle.sr_check_decl.specs.Constants.{type_of_value}
use Rattle.sr_check_decl.specs.TypeTrees.{free_bounds, type_kinding, decls_found, decl_type}

abbrev pub declare : Facts → Spot → Info → Facts
declare facts spot info = record facts { infos = with_info facts.infos spot info }

-- a variable or a formal
abbrev pub variable : Ty → Info
variable ty = info.Value (record { ty = ty; is_place = true; value = Unknown })

-- the variables of a declaration, which has a type
abbrev pub vars_declared : Ty → List DeclTree → Facts → Facts
vars_declared ty [] facts = facts
vars_declared ty (decl ∷ decls) facts = vars_declared ty decls (declare facts (spot_of decl.name.span) (variable (decl_type decl.dims ty)))

-- ---- what is found

abbrev pub is_none_of : {A : Type 0} → List A → Bool
is_none_of [] = true
is_none_of (thing ∷ things) = false

-- an initial value is of the type of its variable
abbrev pub initial_value_found : Ty → DeclTree → TypedExpr → List Finding
initial_value_found ty decl value = broken_unless (fits_type value.typed.ty (decl_type decl.dims ty)) BadType value.span

abbrev pub values_found : Ty → List DeclTree → List TypedExpr → List Finding
values_found ty [] values = []
values_found ty (decl ∷ decls) [] = []
values_found ty (decl ∷ decls) (value ∷ values) = initial_value_found ty decl value ++ values_found ty decls values

-- with a type: no initial values, or one for each name
abbrev pub typed_vars_found : Facts → Span → List DeclTree → List TypedExpr → Kind → List Finding
typed_vars_found facts span decls values kind =
    decls_found free_bounds facts kind decls
    ++ (broken_unless (is_none_of values || as_many decls values) BadType span ++ values_found kind.ty decls values)

abbrev pub has_no_dims : Option DimsTree → Bool
has_no_dims dims = not (is_some dims)

-- without a type: one name without dims, and one value
abbrev pub untyped_var_rule : {A : Type 0} → List DeclTree → List A → Bool
untyped_var_rule (decl ∷ []) (value ∷ []) = has_no_dims decl.dims
untyped_var_rule _ _ = false

-- which isn't of nothing but `null` and `noop`
abbrev pub nulls_found : List TypedExpr → List Finding
nulls_found [] = []
nulls_found (value ∷ values) = broken_unless (not (is_of_nulls value.typed.ty)) BadType value.span ++ nulls_found values

-- what stands for the type of a declaration that has none
abbrev pub no_kind : Span → Kind
no_kind span = record { span = span; ty = ty.Untyped }

abbrev pub untyped_vars_found : Facts → Span → List DeclTree → List TypedExpr → List Finding
untyped_vars_found facts span decls values =
    decls_found free_bounds facts (no_kind span) decls ++ (broken_unless (untyped_var_rule decls values) BadType span ++ nulls_found values)

abbrev pub var_rules_found : Facts → Span → Option TypeTree → List DeclTree → List TypedExpr → List Finding
var_rules_found facts span None decls values = untyped_vars_found facts span decls values
var_rules_found facts span (Some tree) decls values =
    (type_kinding tree facts free_bounds).found ++ typed_vars_found facts span decls values (type_kinding tree facts free_bounds).kind

abbrev pub typings_of : Facts → List Expr → List Typing
typings_of facts values = infer_all (map infer_expr values) facts

abbrev pub var_found : Facts → VarDecl → List Finding
var_found facts variables =
    all_found (typings_of facts variables.values)
    ++ (all_valued (typed_exprs_of (typings_of facts variables.values))
    ++ var_rules_found facts variables.span variables.ty variables.decls (typed_exprs_of (typings_of facts variables.values)))

-- ---- in blocks

-- the type of variables by their values, where none is written
abbrev pub type_by_values : List TypedExpr → Ty
type_by_values (value ∷ []) = type_of_value value.typed.ty
type_by_values _ = ty.Untyped

abbrev pub vars_type : Facts → Option TypeTree → List Expr → Ty
vars_type facts (Some tree) values = (type_kinding tree facts free_bounds).kind.ty
vars_type facts None values = type_by_values (typed_exprs_of (typings_of facts values))

-- a variable of a block without a type has that of its value
abbrev pub local_var : VarDecl → Facts → Facts
local_var variables facts = vars_declared (vars_type facts variables.ty variables.values) variables.decls facts
