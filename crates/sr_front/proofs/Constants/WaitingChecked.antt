-- The value of what waits for its type breaks no rule where its component is checked: by all that is known before code is read, and what code declares.
use Rattle.std.proofs.Common.{◌≡◌, inl, inr, Bool, true, false, not, List, [], ◌∷◌, ◌++◌, flat_map, Option, Some, None, refl, sym, ap, subst, ◌∙◌}
use Rattle.sr_check.proofs.Each.{Each, each-left, each-right}
use Rattle.sr_check.proofs.ErrorFree.{error_free_both, error_free_first, error_free_second, rule_met}
use Rattle.sr_check.specs.Components.{head_found, item_read, items_procs, items_read}
use Rattle.sr_check.specs.Procs.{Procs}
use Rattle.sr_check.specs.ErrorFree.{ErrorFree}
use Rattle.sr_check_decl.specs.Constants.{const_rule, const_value_found, type_of_value, written_found, written_kind}
use Rattle.sr_check_decl.specs.Declarations.{spec_item_found, spec_items_found}
use Rattle.sr_check_decl.specs.Declaring.{standing}
use Rattle.sr_check_decl.specs.Parts.{component_decl}
use Rattle.sr_check_decl.specs.Variables.{no_kind, typings_of, untyped_var_rule, untyped_vars_found, var_rules_found}
use Rattle.sr_check_decl.specs.TypeTrees.{decls_found, free_bounds}
use Rattle.sr_check_decl.specs.Waiting.{Waiting}
use Rattle.sr_check_expr.specs.declared.facts.Facts.{Facts}
use Rattle.sr_check_expr.specs.declared.facts.Here.{Here}
use Rattle.sr_check_expr.specs.Arguments.{all_found, all_valued}
use Rattle.sr_check_expr.specs.Exprs.{infer_expr}
use Rattle.sr_check_expr.specs.Typings.{broken_unless, typed_exprs_of, value_found, valued}
use Rattle.sr_names.specs.declared.finding.Rule.TheVariants.{BadType}
use Rattle.sr_names.specs.declared.meaning.Decl.{Decl}
use Rattle.sr_names.specs.declared.spot.Spot.{Spot}
use Rattle.sr_names.specs.Spots.{spot_of}
use Rattle.sr_scope.specs.Uses.{IsIn}
use Rattle.sr_tree.specs.declared.component.Component.{Component}
use Rattle.sr_tree.specs.declared.component.Item.{Item}
use Rattle.sr_tree.specs.declared.component.Item.TheVariants as item
use Rattle.sr_tree.specs.declared.component.SpecItem.{SpecItem}
use Rattle.sr_tree.specs.declared.declaration.ConstDecl.{ConstDecl}
use Rattle.sr_tree.specs.declared.declaration.VarDecl.{VarDecl}
use Rattle.sr_tree.specs.declared.expr.Expr.{Expr}
use Rattle.sr_tree.specs.declared.types.Decl.{Decl as DeclTree}
use Rattle.sr_tree.specs.declared.types.TypeTree.{TypeTree}
use Rattle.sr_tree.specs.Parts.{body_of, spec_of}
use Rattle.sr_types.specs.Types.{is_of_nulls}
use Rattle.sr_value.specs.declared.place.Span.{Span}
use Rattle.sr_front.proofs.Constants.ConstantsChecked.{CheckedAt, found_in}
use Rattle.sr_front.proofs.Known.InfosStay.{Reads}
use Rattle.sr_front.proofs.Known.KeptNames.{Anywhere, Closed, anywhere}
use Rattle.sr_front.proofs.Mentioned.ReadsCode.{component_inside, item_inside, keeps_item, reads_item}
use Rattle.sr_front.proofs.Typed.Typed.{IsTyped}
use Rattle.sr_front.proofs.Typed.TypedDecls.{nulls_by, own_typed}
use Rattle.sr_front.proofs.Constants.WaitingItems.{Stands, WaitsAs, as_const, as_var, of_body, of_spec}

-- the value breaks no rule by these facts, and isn't of nothing but `null` and `noop`
pub record ValueFine (facts : Facts) (value : Expr) : Type 0 where
  pub whole : ErrorFree (valued (infer_expr value facts))
  pub typed : IsTyped (infer_expr value facts).typed_expr.typed.ty → IsTyped (type_of_value (infer_expr value facts).typed_expr.typed.ty)

-- ---- of an item

const_fine : (in_spec : Bool) (facts : Facts) (constant : ConstDecl) (found : Option TypeTree) → found ≡ None
    → ErrorFree (written_found facts found ++ (valued (infer_expr constant.value facts) ++ const_value_found in_spec (written_kind facts found) (infer_expr constant.value facts).typed_expr)) → ValueFine facts constant.value
const_fine in_spec facts constant None is whole =
    let value = infer_expr constant.value facts in
    let met = rule_met (const_rule in_spec None value.typed_expr.typed) BadType value.typed_expr.span (error_free_second (valued value) _ whole) in
    record { whole = error_free_first (valued value) _ whole; typed = λ typed. own_typed value.typed_expr.typed.ty _ typed met }
const_fine in_spec facts constant (Some tree) is whole = absurd (some_none is)
  where
    some_none : Some tree ≡ None → ⊥
    some_none e = cc

vars_fine : (facts : Facts) (span : Span) (decls : List DeclTree) (value : Expr)
    → ErrorFree (all_found (typings_of facts (value ∷ [])) ++ (all_valued (typed_exprs_of (typings_of facts (value ∷ []))) ++ untyped_vars_found facts span decls (typed_exprs_of (typings_of facts (value ∷ []))))) → ValueFine facts value
vars_fine facts span decls value whole =
    let one = infer_expr value facts in
    let after = error_free_second (one.found ++ []) _ whole in
    let rules = error_free_second (value_found one.typed_expr ++ []) _ after in
    let nulls = error_free_second (broken_unless (untyped_var_rule decls (one.typed_expr ∷ [])) BadType span) _ (error_free_second (decls_found free_bounds facts (no_kind span) decls) _ rules) in
    record {
      whole = error_free_both one.found (value_found one.typed_expr) (error_free_first one.found [] (error_free_first (one.found ++ []) _ whole)) (error_free_first (value_found one.typed_expr) [] (error_free_first (value_found one.typed_expr ++ []) _ after));
      typed = λ typed. nulls_by one.typed_expr.typed.ty (is_of_nulls one.typed_expr.typed.ty)
          (rule_met (not (is_of_nulls one.typed_expr.typed.ty)) BadType one.typed_expr.span (error_free_first (broken_unless (not (is_of_nulls one.typed_expr.typed.ty)) BadType one.typed_expr.span) [] nulls)) typed;
    }

var_fine : (facts : Facts) (variables : VarDecl) (value : Expr) (found : Option TypeTree) (values : List Expr) → found ≡ None → values ≡ value ∷ []
    → ErrorFree (all_found (typings_of facts values) ++ (all_valued (typed_exprs_of (typings_of facts values)) ++ var_rules_found facts variables.span found variables.decls (typed_exprs_of (typings_of facts values)))) → ValueFine facts value
var_fine facts variables value None values is only whole =
    vars_fine facts variables.span variables.decls value
    (subst (λ (them : List Expr). ErrorFree (all_found (typings_of facts them) ++ (all_valued (typed_exprs_of (typings_of facts them)) ++ untyped_vars_found facts variables.span variables.decls (typed_exprs_of (typings_of facts them))))) only whole)
var_fine facts variables value (Some tree) values is only whole = absurd (some_none is)
  where
    some_none : Some tree ≡ None → ⊥
    some_none e = cc

item_fine : (in_spec : Bool) (component : Decl) (one : SpecItem) (waiting : Waiting) (facts : Facts) → WaitsAs in_spec component one waiting → ErrorFree (spec_item_found in_spec facts one) → ValueFine facts waiting.value
item_fine in_spec component one waiting facts (as_const constant is untyped same) whole =
    subst (λ (it : Waiting). ValueFine facts it.value) same (const_fine in_spec facts constant constant.ty untyped (subst (λ (it : SpecItem). ErrorFree (spec_item_found in_spec facts it)) (sym is) whole))
item_fine in_spec component one waiting facts (as_var variables decl value is untyped single only same) whole =
    subst (λ (it : Waiting). ValueFine facts it.value) same (var_fine facts variables value variables.ty variables.values untyped only (subst (λ (it : SpecItem). ErrorFree (spec_item_found in_spec facts it)) (sym is) whole))

item_component : (in_spec : Bool) (component : Decl) (one : SpecItem) (waiting : Waiting) → WaitsAs in_spec component one waiting → waiting.component ≡ component
item_component in_spec component one waiting (as_const constant is untyped same) = ap (λ (it : Waiting). it.component) (sym same)
item_component in_spec component one waiting (as_var variables decl value is untyped single only same) = ap (λ (it : Waiting). it.component) (sym same)

-- ---- where it is checked

-- facts that are known where the value is checked
pub record ValueChecked (all : List Component) (first : Facts) (waiting : Waiting) : Type 1 where
  pub facts : Facts
  pub reads : Reads (flat_map component_inside all) first facts
  pub here : facts.here ≡ (standing first waiting.component).here
  pub fine : ValueFine facts waiting.value

some_free : {A : Type 0} (Free : Spot → Type 0) (names : A → List Span) (all : List A) (one : A) → IsIn one all → Each (λ span. Free (spot_of span)) (flat_map names all) → Each (λ span. Free (spot_of span)) (names one)
some_free Free names [] one k free = absurd k
some_free Free names (first ∷ all) one (inl e) free = subst (λ it. Each (λ span. Free (spot_of span)) (names it)) e (each-left (λ span. Free (spot_of span)) (names first) (flat_map names all) free)
some_free Free names (first ∷ all) one (inr k) free = some_free Free names all one k (each-right (λ span. Free (spot_of span)) (names first) (flat_map names all) free)

module _ (here : Here) where
  abbrev IsHere : Facts → Type 0
  IsHere facts = facts.here ≡ here

  here_closed : Closed IsHere Anywhere Anywhere
  here_closed = record {
    entered = λ facts signature h. h;
    put = λ facts spot typed free h. h;
    operation = λ facts spot ty component is_local fits h. h;
  }

module _ (all : List Component) (first : Facts) (component : Component) (there : IsIn component all) (waiting : Waiting) where
  abbrev inside : List Span
  inside = flat_map component_inside all

  abbrev place : Here
  place = (standing first (component_decl component)).here

  checked_as : (in_spec : Bool) (one : SpecItem) (facts : Facts) → Reads inside first facts → facts.here ≡ place → WaitsAs in_spec (component_decl component) one waiting → ErrorFree (spec_item_found in_spec facts one) → ValueChecked all first waiting
  checked_as in_spec one facts reads at waits whole = record {
    facts = facts;
    reads = reads;
    here = at ∙ ap (λ decl. (standing first decl).here) (sym (item_component in_spec (component_decl component) one waiting waits));
    fine = item_fine in_spec (component_decl component) one waiting facts waits whole;
  }

  body_checked : (procs : Procs) (items : List Item) (now : Facts) → ((other : Item) → IsIn other items → IsIn other (body_of component)) → Reads inside first now → now.here ≡ place → ErrorFree (items_read procs items now).found
      → (one : SpecItem) → IsIn (item.Spec one) items → WaitsAs false (component_decl component) one waiting → ValueChecked all first waiting
  body_checked procs [] now among reads at whole one k waits = absurd k
  body_checked procs (next ∷ items) now among reads at whole one (inl e) waits =
      checked_as false one now reads at waits (subst (λ (it : Item). ErrorFree (item_read procs it now).found) e (error_free_first (item_read procs next now).found _ whole))
  body_checked procs (next ∷ items) now among reads at whole one (inr k) waits =
      body_checked procs items (item_read procs next now).facts (λ other h. among other (inr h))
      (λ Q Free steady free h. reads_item procs next now Q Free steady (some_free Free item_inside (body_of component) next (among next (inl refl)) (some_free Free component_inside all component there free)) (reads Q Free steady free h))
      (keeps_item (IsHere place) Anywhere Anywhere (here_closed place) procs next now (anywhere _) (anywhere _) at)
      (error_free_second (item_read procs next now).found _ whole) one k waits

  -- the value of what waits in a component
  pub value_checked : CheckedAt all first component → Stands waiting component → ValueChecked all first waiting
  value_checked checked (of_spec one among waits) =
      let at = standing checked.facts (component_decl component) in
      let head = error_free_first (head_found component at) _ checked.whole in
      let specs = error_free_first (spec_items_found at (spec_of component)) _ head in
      checked_as true one at (λ Q Free steady free h. steady.standing checked.facts (component_decl component) (checked.reads Q Free steady free h)) refl waits (found_in at (spec_of component) specs one among)
  value_checked checked (of_body one among waits) =
      let at = standing checked.facts (component_decl component) in
      body_checked (items_procs at (body_of component) []) (body_of component) at (λ other h. h) (λ Q Free steady free h. steady.standing checked.facts (component_decl component) (checked.reads Q Free steady free h)) refl
      (error_free_second (head_found component at) _ checked.whole) one among waits
