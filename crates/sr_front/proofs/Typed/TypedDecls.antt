-- What is declared in blocks, services and procs has a type, where no rule is broken.
use Rattle.std.proofs.Common.{◌≡◌, Bool, true, false, not, ◌&&◌, ◌||◌, List, [], ◌∷◌, ◌++◌, Option, Some, None, is_some, IsTrue, refl, sym, subst, ◌∙◌, if◌then◌else◌}
use Rattle.std.proofs.lemmas.Bool.{and_parts, false≢true}
use Rattle.sr_value.specs.declared.place.Span.{Span}
use Rattle.sr_names.specs.declared.finding.Rule.TheVariants.{BadType}
use Rattle.sr_names.specs.declared.spot.Spot.{Spot}
use Rattle.sr_names.specs.Spots.{spot_of}
use Rattle.sr_tree.specs.declared.declaration.ConstDecl.{ConstDecl}
use Rattle.sr_tree.specs.declared.statement.Quantifier.{Quantifier}
use Rattle.sr_tree.specs.declared.declaration.VarDecl.{VarDecl}
use Rattle.sr_tree.specs.declared.expr.Expr.{Expr}
use Rattle.sr_tree.specs.declared.name.Name.{Name}
use Rattle.sr_tree.specs.declared.types.Decl.{Decl as DeclTree}
use Rattle.sr_tree.specs.declared.types.DimsTree.{DimsTree}
use Rattle.sr_tree.specs.declared.types.TypeTree.{TypeTree}
use Rattle.sr_types.specs.declared.signature.Param.{Param}
use Rattle.sr_types.specs.declared.signature.Signature.{Signature}
use Rattle.sr_types.specs.declared.ty.Ty.{Ty}
use Rattle.sr_types.specs.declared.ty.Ty.TheVariants as ty
use Rattle.sr_types.specs.Signatures.{signature_of}
use Rattle.sr_types.specs.Types.{is_no_type, is_of_nulls}
use Rattle.sr_check_expr.specs.declared.facts.Facts.{Facts}
use Rattle.sr_check_expr.specs.declared.info.Info.{Info}
use Rattle.sr_check_expr.specs.declared.info.Info.TheVariants as info
use Rattle.sr_check_expr.specs.Arguments.{all_found, all_valued, as_many}
use Rattle.sr_check_expr.specs.Exprs.{infer_expr}
use Rattle.sr_check_expr.specs.Infos.{info_at}
use Rattle.sr_check_expr.specs.Typings.{broken_unless, typed_exprs_of, value_found, valued}
use Rattle.sr_check_decl.specs.declared.kind.BoundPolicy.{BoundPolicy}
use Rattle.sr_check_decl.specs.declared.kind.Kind.{Kind}
use Rattle.sr_check_decl.specs.declared.kind.NamedParam.{NamedParam}
use Rattle.sr_check_decl.specs.declared.kind.Signed.{Signed}
use Rattle.sr_check_decl.specs.Constants.{const_of, const_rule, type_of_value}
use Rattle.sr_check_decl.specs.Declaring.{declare_name, params_declared}
use Rattle.sr_check_decl.specs.Entering.{type_entered}
use Rattle.sr_check_decl.specs.TypeTrees.{decl_found, decl_type, decls_found, fixed_bounds, free_bounds, type_kinding}
use Rattle.sr_check_decl.specs.Variables.{declare, has_no_dims, no_kind, typings_of, type_by_values, untyped_var_rule, untyped_vars_found, variable, vars_declared}
use Rattle.sr_check.specs.Components.{quantifiers_formal, signed_declared}
use Rattle.sr_check.specs.ErrorFree.{ErrorFree}
use Rattle.sr_check.specs.Quantifying.{quantified, quantifiers_known}
use Rattle.sr_check.specs.Services.{both_or_none, heads_by, names_bound, returned_bound, service_bound, type_or_none}
use Rattle.sr_check.specs.Statements.{const_read, var_read}
use Rattle.sr_check.proofs.Each.{Each}
use Rattle.sr_check.proofs.Entered.{keeps_type}
use Rattle.sr_check.proofs.ErrorFree.{error_free_first, error_free_second, rule_met}
use Rattle.sr_front.proofs.Typed.Typed.{AllTyped, FoundSigned, FoundTyped, InfoTyped, IsTyped, MaybeTyped, SignatureTyped, not_untyped, typed_test}
use Rattle.sr_front.proofs.Typed.PassingExprs.{expr_passes, value_passes, valued_passes}
use Rattle.sr_front.proofs.Typed.TypedTypes.{MaybeParam, ParamsTyped, SignedTyped, decl_typed, later_itself, type_typed, types_typed}
use Rattle.sr_front.proofs.Typed.PassingTypes.{int_passes, signed_passes}
use Rattle.sr_front.proofs.Lists.Put.{put_holds}
use Rattle.sr_check_expr.specs.Meanings.{params_in, returned_in}

-- ---- one more name

pub typed_put : (facts : Facts) (spot : Spot) (one : Info) → InfoTyped one → AllTyped facts → AllTyped (declare facts spot one)
typed_put facts spot one typed all = record {
  infos = λ other. put_holds facts spot one (λ at. FoundTyped) typed other (λ apart. all.infos other);
  signatures = all.signatures;
}

pub variable_put : (facts : Facts) (spot : Spot) (type : Ty) → IsTyped type → AllTyped facts → AllTyped (declare facts spot (variable type))
variable_put facts spot type typed = typed_put facts spot (variable type) (typed, λ place. refl)

-- ---- a type that is written

pub entering_typed : (tree : TypeTree) (facts : Facts) (policy : BoundPolicy) → AllTyped facts → ErrorFree (type_kinding tree (type_entered tree facts) policy).found
    → AllTyped (type_entered tree facts) × IsTyped (type_kinding tree (type_entered tree facts) policy).kind.ty
entering_typed tree facts policy all whole =
    let after = type_entered tree facts in
    let read = type_typed tree facts after policy (types_typed facts all.infos) (later_itself after) in (
      record {
        infos = keeps_type (λ now. (spot : Spot) → FoundTyped (info_at now.infos spot)) (λ now signature h. h) tree facts all.infos;
        signatures = read.signatures whole all.signatures;
      },
      subst IsTyped (sym read.same) (read.typed whole),
    )

-- ---- constants of blocks

own_by : (own : Ty) (refused nulls rest : Bool) → IsTyped own → refused ≡ false → IsTrue (refused || (not nulls && rest)) → IsTyped (if nulls then ty.Untyped else own)
own_by own true nulls rest typed is met = absurd (false≢true (sym is))
own_by own false true rest typed is met = absurd (false≢true met)
own_by own false false rest typed is met = typed

-- what has no type written has that of its value
pub own_typed : (own : Ty) (rest : Bool) → IsTyped own → IsTrue (is_no_type own || (not (is_of_nulls own) && rest)) → IsTyped (type_of_value own)
own_typed own rest typed met = own_by own (is_no_type own) (is_of_nulls own) rest typed (not_untyped own typed) met

const_by : (constant : ConstDecl) (written : Option TypeTree) (facts : Facts) → AllTyped facts → ErrorFree (const_read (record constant { ty = written }) facts).found → AllTyped (const_read (record constant { ty = written }) facts).facts
const_by constant None facts all whole =
    let value = infer_expr constant.value facts in
    let typed = value_passes typed_test facts all constant.value (error_free_first (valued value) _ whole) in
    let met = rule_met (const_rule false None value.typed_expr.typed) BadType value.typed_expr.span (error_free_second (valued value) _ whole) in
    typed_put facts (spot_of constant.name.span) (info.Value (const_of false facts (record constant { ty = None }))) (own_typed value.typed_expr.typed.ty _ typed met, λ place. absurd (false≢true place)) all
const_by constant (Some tree) facts all whole =
    let after = type_entered tree facts in
    let entering = entering_typed tree facts fixed_bounds all (error_free_first (type_kinding tree after fixed_bounds).found _ whole) in
    typed_put after (spot_of constant.name.span) (info.Value (const_of false after (record constant { ty = Some tree }))) (entering.1, λ place. absurd (false≢true place)) entering.0

pub const_typed : (constant : ConstDecl) (facts : Facts) → AllTyped facts → ErrorFree (const_read constant facts).found → AllTyped (const_read constant facts).facts
const_typed constant = const_by constant constant.ty

-- ---- variables of blocks

vars_typed : (policy : BoundPolicy) (after : Facts) (item : Kind) (decls : List DeclTree) (facts : Facts) → IsTyped item.ty → ErrorFree (decls_found policy after item decls) → AllTyped facts → AllTyped (vars_declared item.ty decls facts)
vars_typed policy after item [] facts typed whole all = all
vars_typed policy after item (decl ∷ decls) facts typed whole all =
    vars_typed policy after item decls (declare facts (spot_of decl.name.span) (variable (decl_type decl.dims item.ty))) typed (error_free_second (decl_found policy after item decl.dims) _ whole)
    (variable_put facts (spot_of decl.name.span) (decl_type decl.dims item.ty) (decl_typed policy after decl.dims item typed (error_free_first (decl_found policy after item decl.dims) _ whole)) all)

plain_typed : (dims : Option DimsTree) (type : Ty) → IsTrue (has_no_dims dims) → IsTyped type → IsTyped (decl_type dims type)
plain_typed None type none typed = typed
plain_typed (Some dims) type none typed = absurd (false≢true none)

pub nulls_by : (own : Ty) (nulls : Bool) → IsTrue (not nulls) → IsTyped own → IsTyped (if nulls then ty.Untyped else own)
nulls_by own true met typed = absurd (false≢true met)
nulls_by own false met typed = typed

-- where there aren't one name and one value, a rule is broken
rules_of : (span : Span) (facts : Facts) (decls : List DeclTree) (values : List Expr) → untyped_var_rule decls (typed_exprs_of (typings_of facts values)) ≡ false
    → ErrorFree (all_found (typings_of facts values) ++ (all_valued (typed_exprs_of (typings_of facts values)) ++ untyped_vars_found facts span decls (typed_exprs_of (typings_of facts values)))) → ⊥
rules_of span facts decls values is whole =
    let typed = typed_exprs_of (typings_of facts values) in
    let rules = error_free_second (decls_found free_bounds facts (no_kind span) decls) _ (error_free_second (all_valued typed) _ (error_free_second (all_found (typings_of facts values)) _ whole)) in
    false≢true (sym is ∙ rule_met (untyped_var_rule decls typed) BadType span (error_free_first (broken_unless (untyped_var_rule decls typed) BadType span) _ rules))

-- one name and one value
untyped_by : (span : Span) (decls : List DeclTree) (values : List Expr) (facts : Facts) → AllTyped facts
    → ErrorFree (all_found (typings_of facts values) ++ (all_valued (typed_exprs_of (typings_of facts values)) ++ untyped_vars_found facts span decls (typed_exprs_of (typings_of facts values))))
    → AllTyped (vars_declared (type_by_values (typed_exprs_of (typings_of facts values))) decls facts)
untyped_by span (decl ∷ []) (value ∷ []) facts all whole =
    let here = infer_expr value facts in
    let after = error_free_second (here.found ++ []) _ whole in
    let valid = error_free_first (value_found here.typed_expr ++ []) _ after in
    let rules = error_free_second (decls_found free_bounds facts (no_kind span) (decl ∷ [])) _ (error_free_second (value_found here.typed_expr ++ []) _ after) in
    let none = rule_met (has_no_dims decl.dims) BadType span (error_free_first (broken_unless (has_no_dims decl.dims) BadType span) _ rules) in
    let nulls = error_free_second (broken_unless (has_no_dims decl.dims) BadType span) _ rules in
    let own = here.typed_expr.typed.ty in
    let met = rule_met (not (is_of_nulls own)) BadType here.typed_expr.span (error_free_first (broken_unless (not (is_of_nulls own)) BadType here.typed_expr.span) _ nulls) in
    let typed = valued_passes typed_test here.typed_expr (expr_passes typed_test facts all value (error_free_first here.found [] (error_free_first (here.found ++ []) _ whole))) (error_free_first (value_found here.typed_expr) [] valid) in
    variable_put facts (spot_of decl.name.span) (decl_type decl.dims (type_of_value own)) (plain_typed decl.dims (type_of_value own) none (nulls_by own (is_of_nulls own) met typed)) all
untyped_by span [] values facts all whole = all
untyped_by span (decl ∷ []) [] facts all whole = absurd (rules_of span facts (decl ∷ []) [] refl whole)
untyped_by span (decl ∷ []) (value ∷ other ∷ values) facts all whole = absurd (rules_of span facts (decl ∷ []) (value ∷ other ∷ values) refl whole)
untyped_by span (decl ∷ other ∷ decls) values facts all whole = absurd (rules_of span facts (decl ∷ other ∷ decls) values refl whole)

var_by : (variables : VarDecl) (written : Option TypeTree) (facts : Facts) → AllTyped facts → ErrorFree (var_read (record variables { ty = written }) facts).found → AllTyped (var_read (record variables { ty = written }) facts).facts
var_by variables None facts all whole = untyped_by variables.span variables.decls variables.values facts all whole
var_by variables (Some tree) facts all whole =
    let after = type_entered tree facts in
    let kinds = type_kinding tree after free_bounds in
    let values = typings_of after variables.values in
    let rules = error_free_second (all_valued (typed_exprs_of values)) _ (error_free_second (all_found values) _ whole) in
    let entering = entering_typed tree facts free_bounds all (error_free_first kinds.found _ rules) in
    vars_typed free_bounds after kinds.kind variables.decls after entering.1 (error_free_first (decls_found free_bounds after kinds.kind variables.decls) _ (error_free_second kinds.found _ rules)) entering.0

pub var_typed : (variables : VarDecl) (facts : Facts) → AllTyped facts → ErrorFree (var_read variables facts).found → AllTyped (var_read variables facts).facts
var_typed variables = var_by variables variables.ty

-- ---- quantifiers

pub quantified_typed : (facts : Facts) (name : Name) → AllTyped facts → AllTyped (quantified facts name)
quantified_typed facts name all = typed_put facts (spot_of name.span) _ (int_passes typed_test, λ place. absurd (false≢true place)) all

pub quantifiers_typed : (quantifiers : List Quantifier) (facts : Facts) → AllTyped facts → AllTyped (quantifiers_known facts quantifiers)
quantifiers_typed [] facts all = all
quantifiers_typed (quantifier ∷ more) facts all = quantifiers_typed more (quantified facts quantifier.name) (quantified_typed facts quantifier.name all)

pub formal_quantifiers_typed : (quantifiers : List Quantifier) (facts : Facts) → AllTyped facts → AllTyped (quantifiers_formal quantifiers facts)
formal_quantifiers_typed [] facts all = all
formal_quantifiers_typed (quantifier ∷ more) facts all =
    formal_quantifiers_typed more (declare_name facts quantifier.name (variable ty.Int)) (variable_put facts (spot_of quantifier.name.span) ty.Int (int_passes typed_test) all)

-- ---- services

names_typed : (names : List Name) (params : List Param) (facts : Facts) → IsTrue (as_many names params) → Each (λ (param : Param). IsTyped param.ty) params → AllTyped facts → AllTyped (names_bound names params facts)
names_typed [] params facts many each all = all
names_typed (name ∷ names) [] facts many each all = absurd (false≢true many)
names_typed (name ∷ names) (param ∷ params) facts many each all =
    names_typed names params (declare_name facts name (variable param.ty)) many each.1 (variable_put facts (spot_of name.span) param.ty each.0 all)

returned_typed : (name : Option Name) (returns : Option Ty) (facts : Facts) → IsTrue (both_or_none (is_some name) (is_some returns)) → MaybeTyped returns → AllTyped facts → AllTyped (returned_bound name (type_or_none returns) facts)
returned_typed None returns facts both typed all = all
returned_typed (Some name) None facts both typed all = absurd (false≢true both)
returned_typed (Some name) (Some type) facts both typed all = variable_put facts (spot_of name.span) type typed all

-- within a service of an operation whose type has a signature
pub service_typed : (formals : List Name) (returned : Option Name) (type : Ty) (facts : Facts) (signature : Signature) → signature_of facts.signatures type ≡ Some signature
    → IsTrue (heads_by (signature_of facts.signatures type) formals (is_some returned)) → AllTyped facts → AllTyped (service_bound formals returned type facts)
service_typed formals returned type facts signature is head all =
    let typed : SignatureTyped signature = subst FoundSigned is (signed_passes typed_test facts all type) in
    let fits : IsTrue (as_many formals signature.params && both_or_none (is_some returned) (is_some signature.returns)) = subst (λ found. IsTrue (heads_by found formals (is_some returned))) is head in
    subst (λ found. AllTyped (returned_bound returned (type_or_none (returned_in found)) (names_bound formals (params_in found) facts))) (sym is)
    (returned_typed returned signature.returns (names_bound formals signature.params facts) (and_parts (as_many formals signature.params) _ fits).1 typed.returns
    (names_typed formals signature.params facts (and_parts (as_many formals signature.params) _ fits).0 typed.params all))

-- ---- formals of signatures

pub params_typed : (params : List NamedParam) (facts : Facts) → ParamsTyped params → AllTyped facts → AllTyped (params_declared params facts)
params_typed [] facts each all = all
params_typed (param ∷ params) facts each all = params_typed params (declare facts param.spot (variable param.ty)) each.1 (variable_put facts param.spot param.ty each.0 all)

signed_by : (signed : Signed) (returned : Option NamedParam) (facts : Facts) → ParamsTyped signed.params → MaybeParam returned → AllTyped facts → AllTyped (signed_declared (record signed { returned = returned }) facts)
signed_by signed None facts params typed all = params_typed signed.params facts params all
signed_by signed (Some param) facts params typed all = variable_put (params_declared signed.params facts) param.spot param.ty typed (params_typed signed.params facts params all)

pub declared_typed : (signed : Signed) (facts : Facts) → SignedTyped signed → AllTyped facts → AllTyped (signed_declared signed facts)
declared_typed signed facts typed all = signed_by signed signed.returned facts typed.params typed.returned all
