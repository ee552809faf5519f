-- In a program that breaks no rule each variable without a type has a value, and the specs of resources declare no variables.
use Rattle.std.proofs.Common.{◌≡◌, ℕ, Bool, true, false, List, [], ◌∷◌, None, IsTrue, length, refl, ◌∙◌, subst, inl, inr, arith}
use Rattle.std.proofs.lemmas.Bool.{false≢true}
use Rattle.sr_check.proofs.Each.{Each}
use Rattle.sr_check.proofs.ErrorFree.{error_free_first, error_free_second, rule_met}
use Rattle.sr_check.proofs.Kept.{none_found}
use Rattle.sr_check.specs.Checked.{first_refused}
use Rattle.sr_check.specs.Components.{component_read, components_read, files_read, head_found, item_read, items_procs, items_read}
use Rattle.sr_check.specs.ErrorFree.{ErrorFree}
use Rattle.sr_check.specs.Procs.{Procs}
use Rattle.sr_check_decl.specs.Cycles.{leads_left, type_cycles_found}
use Rattle.sr_check_decl.specs.Declarations.{spec_item_found, spec_items_found}
use Rattle.sr_check_decl.specs.Declaring.{standing}
use Rattle.sr_check_decl.specs.Inferring.{program_inferred, program_known}
use Rattle.sr_check_decl.specs.Parts.{component_decl}
use Rattle.sr_check_decl.specs.TypeTrees.{decls_found, free_bounds}
use Rattle.sr_check_decl.specs.Variables.{no_kind, nulls_found, typings_of, untyped_var_rule, var_found, var_rules_found}
use Rattle.sr_check_decl.specs.Waiting.{files_waiting}
use Rattle.sr_check_expr.specs.Arguments.{all_found, all_valued}
use Rattle.sr_check_expr.specs.declared.facts.Facts.{Facts}
use Rattle.sr_check_expr.specs.declared.typed_expr.TypedExpr.{TypedExpr}
use Rattle.sr_check_expr.specs.Typings.{broken_unless, typed_exprs_of}
use Rattle.sr_names.specs.declared.finding.Rule.TheVariants.{BadType}
use Rattle.sr_names.specs.declared.meaning.Sort.TheVariants.{Resource as resource_sort}
use Rattle.sr_names.specs.Noted.{Meanings}
use Rattle.sr_names.specs.Specs.{Specs}
use Rattle.sr_scope.specs.Components.{sort_of}
use Rattle.sr_scope.specs.Uses.{IsIn}
use Rattle.sr_tables.specs.Parts.{components_in}
use Rattle.sr_tree.specs.Components.{AllOfResource, IsOfResource, SpellsComponent, global, none_left, one_more, resource, split_resource}
use Rattle.sr_tree.specs.declared.component.Component.{Component}
use Rattle.sr_tree.specs.declared.component.File.{File}
use Rattle.sr_tree.specs.declared.component.Item.{Item}
use Rattle.sr_tree.specs.declared.component.Item.TheVariants as item
use Rattle.sr_tree.specs.declared.component.SpecItem.{SpecItem}
use Rattle.sr_tree.specs.declared.component.SpecItem.TheVariants as spec
use Rattle.sr_tree.specs.declared.declaration.VarDecl.{VarDecl}
use Rattle.sr_tree.specs.declared.expr.Expr.{Expr}
use Rattle.sr_tree.specs.declared.token.Token.{Token}
use Rattle.sr_tree.specs.declared.types.Decl.{Decl}
use Rattle.sr_tree.specs.Parts.{body_of, spec_of}
use Rattle.sr_front.proofs.EffectFree.AllowedCode.{files_error_free}
use Rattle.sr_front.proofs.Lists.Lists.{each_at}
use Rattle.sr_front.proofs.Own.SharedVars.{HasValues, IsValued, ItemValued, SpecValued}
use Rattle.sr_front.proofs.Names.Spelled.{spelled}
use Rattle.sr_front.specs.Phases.{AllPass}
use Rattle.sr_front.specs.Reading.{HasTree}

-- ---- variables without a type

typings_length : (facts : Facts) (values : List Expr) → length (typed_exprs_of (typings_of facts values)) ≡ length values
typings_length facts [] = refl
typings_length facts (value ∷ values) = let same = typings_length facts values in omega (arith, same)

one_each : (decls : List Decl) (values : List TypedExpr) → IsTrue (untyped_var_rule decls values) → length decls ≡ length values
one_each (decl ∷ []) (value ∷ []) is = refl
one_each _ _ is = absurd (false≢true is)

var_valued : (facts : Facts) (variables : VarDecl) → ErrorFree (var_found facts variables) → HasValues variables
var_valued facts variables whole untyped =
    let typed = typed_exprs_of (typings_of facts variables.values) in
    let rules = error_free_second (all_valued typed) _ (error_free_second (all_found (typings_of facts variables.values)) _ whole) in
    let found = subst (λ ty. ErrorFree (var_rules_found facts variables.span ty variables.decls typed)) untyped rules in
    let rule = error_free_first (broken_unless (untyped_var_rule variables.decls typed) BadType variables.span) (nulls_found typed)
    (error_free_second (decls_found free_bounds facts (no_kind variables.span) variables.decls) _ found) in
    one_each variables.decls typed (rule_met (untyped_var_rule variables.decls typed) BadType variables.span rule) ∙ typings_length facts variables.values

spec_valued : (in_spec : Bool) (facts : Facts) (one : SpecItem) → ErrorFree (spec_item_found in_spec facts one) → SpecValued one
spec_valued in_spec facts (spec.Var variables) whole = var_valued facts variables whole
spec_valued in_spec facts _ whole = tt

specs_valued : (facts : Facts) (items : List SpecItem) → ErrorFree (spec_items_found facts items) → Each SpecValued items
specs_valued facts [] whole = tt
specs_valued facts (one ∷ items) whole = (
  spec_valued true facts one (error_free_first (spec_item_found true facts one) _ whole),
  specs_valued facts items (error_free_second (spec_item_found true facts one) _ whole),
)

item_valued : (procs : Procs) (one : Item) (facts : Facts) → ErrorFree (item_read procs one facts).found → ItemValued one
item_valued procs (item.Spec declared) facts whole = spec_valued false facts declared whole
item_valued procs _ facts whole = tt

items_valued : (procs : Procs) (items : List Item) (facts : Facts) → ErrorFree (items_read procs items facts).found → Each ItemValued items
items_valued procs [] facts whole = tt
items_valued procs (one ∷ items) facts whole = (
  item_valued procs one facts (error_free_first (item_read procs one facts).found _ whole),
  items_valued procs items (item_read procs one facts).facts (error_free_second (item_read procs one facts).found _ whole),
)

component_valued : (component : Component) (facts : Facts) → ErrorFree (component_read component facts).found → IsValued component
component_valued component facts whole =
    let here = standing facts (component_decl component) in
    let head = error_free_first (head_found component here) _ whole in (
      specs_valued here (spec_of component) (error_free_first (spec_items_found here (spec_of component)) _ head),
      items_valued (items_procs here (body_of component) []) (body_of component) here (error_free_second (head_found component here) _ whole),
    )

components_valued : (components : List Component) (facts : Facts) → ErrorFree (components_read components facts).found → Each IsValued components
components_valued [] facts whole = tt
components_valued (component ∷ more) facts whole = (
  component_valued component facts (error_free_first (component_read component facts).found _ whole),
  components_valued more (component_read component facts).facts (error_free_second (component_read component facts).found _ whole),
)

-- each variable without a type has a value
pub values_met : (uses : Meanings) (specs : Specs) (files : List File) → first_refused uses specs files ≡ None → (component : Component) → IsIn component (components_in files) → IsValued component
values_met uses specs files none component there =
    let known = program_known uses specs files in
    let whole = error_free_second (type_cycles_found (leads_left (program_inferred uses specs files) (files_waiting files))) (files_read files known).found (none_found uses specs files none) in
    each_at IsValued (components_in files) (components_valued (components_in files) known (files_error_free files known whole)) component there

-- ---- the specs of resources

of_resource : {items : List SpecItem} → AllOfResource items → (one : SpecItem) → IsIn one items → IsOfResource one
of_resource none_left one k = absurd k
of_resource (one_more here more) one (inl e) = subst IsOfResource e here
of_resource (one_more here more) one (inr k) = of_resource more one k

spelled_without : {component : Component} {tokens : List Token} → SpellsComponent component tokens → sort_of component ≡ resource_sort → (variables : VarDecl) → IsIn (spec.Var variables) (spec_of component) → ⊥
spelled_without (resource t n is_resource is_name written by_value items count end) e variables k = k
spelled_without (split_resource t n b m is_resource is_name some all is_body is_m same written by_value items count end) e variables k = of_resource all (spec.Var variables) k
spelled_without (global t n is_global is_name some code end) e variables k = cc

-- they declare no variables
pub no_vars_met : {number : ℕ} {tokens : List (List Token)} {trees : List File} → AllPass HasTree number tokens trees → (component : Component) → IsIn component (components_in trees)
    → sort_of component ≡ resource_sort → (variables : VarDecl) → IsIn (spec.Var variables) (spec_of component) → ⊥
no_vars_met all component there e = spelled_without (spelled all component there).1 e
