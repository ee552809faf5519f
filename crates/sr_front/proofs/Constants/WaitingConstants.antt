-- What waits for its type is a constant without a type, of the spec or the body of a component, or a variable.
use Rattle.std.proofs.Common.{◌≡◌, ◌⊎◌, inl, inr, Bool, true, false, List, [], ◌∷◌, Option, Some, None, refl, sym, ap, subst}
use Rattle.sr_check_decl.specs.Parts.{component_decl}
use Rattle.sr_check_decl.specs.Variables.{has_no_dims}
use Rattle.sr_check_decl.specs.Waiting.{Waiting, component_waiting, components_waiting, const_waiting, files_waiting, item_waiting, items_waiting, spec_item_waiting, spec_items_waiting, unless_typed, var_waiting, vars_waiting, waits_if}
use Rattle.sr_names.specs.declared.meaning.Decl.{Decl}
use Rattle.sr_scope.proofs.Findings.{in_either, in_left, in_right}
use Rattle.sr_scope.specs.Uses.{IsIn}
use Rattle.sr_tables.specs.Parts.{components_in}
use Rattle.sr_tree.specs.declared.component.Component.{Component}
use Rattle.sr_tree.specs.declared.component.File.{File}
use Rattle.sr_tree.specs.declared.component.Item.{Item}
use Rattle.sr_tree.specs.declared.component.Item.TheVariants as item
use Rattle.sr_tree.specs.declared.component.SpecItem.{SpecItem}
use Rattle.sr_tree.specs.declared.component.SpecItem.TheVariants as spec
use Rattle.sr_tree.specs.declared.declaration.ConstDecl.{ConstDecl}
use Rattle.sr_tree.specs.declared.declaration.VarDecl.{VarDecl}
use Rattle.sr_tree.specs.declared.expr.Expr.{Expr}
use Rattle.sr_tree.specs.declared.types.Decl.{Decl as DeclTree}
use Rattle.sr_tree.specs.declared.types.TypeTree.{TypeTree}
use Rattle.sr_tree.specs.Parts.{body_of, spec_of}
use Rattle.sr_value.specs.declared.place.Span.{Span}

module _ (P : Waiting → Type 0) (variables_are : (waiting : Waiting) → waiting.is_constant ≡ false → P waiting) (waiting : Waiting) where
  -- ---- what waits of one item

  in_one : (only : Waiting) → P only → IsIn waiting (only ∷ []) → P waiting
  in_one only h (inl e) = subst P e h
  in_one only h (inr k) = absurd k

  of_constant : (in_spec : Bool) (component : Decl) (constant : ConstDecl) → (constant.ty ≡ None → P (const_waiting in_spec component constant)) → IsIn waiting (spec_item_waiting in_spec component (spec.Const constant)) → P waiting
  of_constant in_spec component constant is = by constant.ty refl
    where
      by : (ty : Option TypeTree) → constant.ty ≡ ty → IsIn waiting (unless_typed ty (const_waiting in_spec component constant ∷ [])) → P waiting
      by None none k = in_one (const_waiting in_spec component constant) (is none) k
      by (Some tree) some k = absurd k

  of_waits : (b : Bool) (only : Waiting) → only.is_constant ≡ false → IsIn waiting (waits_if b only) → P waiting
  of_waits true only is k = in_one only (variables_are only is) k
  of_waits false only is k = absurd k

  of_vars : (component : Decl) (span : Span) (decls : List DeclTree) (values : List Expr) → IsIn waiting (vars_waiting component span decls values) → P waiting
  of_vars component span (decl ∷ []) (value ∷ []) k = of_waits (has_no_dims decl.dims) (var_waiting component span decl value) refl k
  of_vars component span _ _ k = absurd k

  of_variables : (component : Decl) (variables : VarDecl) → IsIn waiting (unless_typed variables.ty (vars_waiting component variables.span variables.decls variables.values)) → P waiting
  of_variables component variables = by variables.ty
    where
      by : (ty : Option TypeTree) → IsIn waiting (unless_typed ty (vars_waiting component variables.span variables.decls variables.values)) → P waiting
      by None k = of_vars component variables.span variables.decls variables.values k
      by (Some tree) k = absurd k

  of_spec_item : (in_spec : Bool) (component : Decl) (one : SpecItem) → ((constant : ConstDecl) → spec.Const constant ≡ one → constant.ty ≡ None → P (const_waiting in_spec component constant))
      → IsIn waiting (spec_item_waiting in_spec component one) → P waiting
  of_spec_item in_spec component (spec.Const constant) is k = of_constant in_spec component constant (is constant refl) k
  of_spec_item in_spec component (spec.Var variables) is k = of_variables component variables k
  of_spec_item in_spec component _ is k = absurd k

  -- ---- what waits of a component

  abbrev InSpec : Decl → List SpecItem → Type 0
  InSpec component items = (constant : ConstDecl) → IsIn (spec.Const constant) items → constant.ty ≡ None → P (const_waiting true component constant)

  abbrev InBody : Decl → List Item → Type 0
  InBody component items = (constant : ConstDecl) → IsIn (item.Spec (spec.Const constant)) items → constant.ty ≡ None → P (const_waiting false component constant)

  of_spec : (component : Decl) (items : List SpecItem) → InSpec component items → IsIn waiting (spec_items_waiting component items) → P waiting
  of_spec component [] is k = absurd k
  of_spec component (one ∷ items) is k =
      by (in_either waiting (spec_item_waiting true component one) (spec_items_waiting component items) k) (of_spec component items (λ constant among. is constant (inr among)))
    where
      by : IsIn waiting (spec_item_waiting true component one) ⊎ IsIn waiting (spec_items_waiting component items) → (IsIn waiting (spec_items_waiting component items) → P waiting) → P waiting
      by (inl h) more = of_spec_item true component one (λ constant same. is constant (inl (sym same))) h
      by (inr h) more = more h

  of_item : (component : Decl) (one : Item) → ((constant : ConstDecl) → item.Spec (spec.Const constant) ≡ one → constant.ty ≡ None → P (const_waiting false component constant)) → IsIn waiting (item_waiting component one) → P waiting
  of_item component (item.Spec inner) is k = of_spec_item false component inner (λ constant same. is constant (ap item.Spec same)) k
  of_item component _ is k = absurd k

  of_body : (component : Decl) (items : List Item) → InBody component items → IsIn waiting (items_waiting component items) → P waiting
  of_body component [] is k = absurd k
  of_body component (one ∷ items) is k =
      by (in_either waiting (item_waiting component one) (items_waiting component items) k) (of_body component items (λ constant among. is constant (inr among)))
    where
      by : IsIn waiting (item_waiting component one) ⊎ IsIn waiting (items_waiting component items) → (IsIn waiting (items_waiting component items) → P waiting) → P waiting
      by (inl h) more = of_item component one (λ constant same. is constant (inl (sym same))) h
      by (inr h) more = more h

  -- the constants of a component
  pub record InComponent (component : Component) : Type 0 where
    pub specs : InSpec (component_decl component) (spec_of component)
    pub body : InBody (component_decl component) (body_of component)

  of_component : (component : Component) → InComponent component → IsIn waiting (component_waiting component) → P waiting
  of_component component is k = by (in_either waiting (spec_items_waiting (component_decl component) (spec_of component)) (items_waiting (component_decl component) (body_of component)) k)
    where
      by : IsIn waiting (spec_items_waiting (component_decl component) (spec_of component)) ⊎ IsIn waiting (items_waiting (component_decl component) (body_of component)) → P waiting
      by (inl h) = of_spec (component_decl component) (spec_of component) is.specs h
      by (inr h) = of_body (component_decl component) (body_of component) is.body h

  of_components : (all : List Component) → ((component : Component) → IsIn component all → InComponent component) → IsIn waiting (components_waiting all) → P waiting
  of_components [] is k = absurd k
  of_components (one ∷ all) is k = by (in_either waiting (component_waiting one) (components_waiting all) k) (of_components all (λ component among. is component (inr among)))
    where
      by : IsIn waiting (component_waiting one) ⊎ IsIn waiting (components_waiting all) → (IsIn waiting (components_waiting all) → P waiting) → P waiting
      by (inl h) more = of_component one (is one (inl refl)) h
      by (inr h) more = more h

  -- what waits of a program
  pub of_files : (files : List File) → ((component : Component) → IsIn component (components_in files) → InComponent component) → IsIn waiting (files_waiting files) → P waiting
  of_files [] is k = absurd k
  of_files (file ∷ files) is k =
      by (in_either waiting (components_waiting file.components) (files_waiting files) k) (of_files files (λ component among. is component (in_right component file.components (components_in files) among)))
    where
      by : IsIn waiting (components_waiting file.components) ⊎ IsIn waiting (files_waiting files) → (IsIn waiting (files_waiting files) → P waiting) → P waiting
      by (inl h) more = of_components file.components (λ component among. is component (in_left component file.components (components_in files) among)) h
      by (inr h) more = more h
