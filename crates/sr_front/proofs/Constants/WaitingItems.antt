-- What waits for its type is a constant or a variable without a type: an item of the spec or the body of a component.
use Rattle.std.proofs.Common.{◌≡◌, ◌⊎◌, inl, inr, Bool, true, false, List, [], ◌∷◌, Option, Some, None, refl}
use Rattle.sr_check_decl.specs.Parts.{component_decl}
use Rattle.sr_check_decl.specs.Variables.{has_no_dims}
use Rattle.sr_check_decl.specs.Waiting.{Waiting, component_waiting, components_waiting, const_waiting, files_waiting, item_waiting, items_waiting, spec_item_waiting, spec_items_waiting, unless_typed, var_waiting, vars_waiting, waits_if}
use Rattle.sr_names.specs.declared.meaning.Decl.{Decl}
use Rattle.sr_scope.proofs.Findings.{in_either, in_left, in_right}
use Rattle.sr_scope.specs.Uses.{IsIn}
use Rattle.sr_tables.specs.Parts.{components_in}
use Rattle.sr_tree.specs.declared.component.Component.{Component}
use Rattle.sr_tree.specs.declared.component.File.{File}
use Rattle.sr_tree.specs.declared.component.Item.{Item}
use Rattle.sr_tree.specs.declared.component.Item.TheVariants as item
use Rattle.sr_tree.specs.declared.component.SpecItem.{SpecItem}
use Rattle.sr_tree.specs.declared.component.SpecItem.TheVariants as spec
use Rattle.sr_tree.specs.declared.declaration.ConstDecl.{ConstDecl}
use Rattle.sr_tree.specs.declared.declaration.VarDecl.{VarDecl}
use Rattle.sr_tree.specs.declared.expr.Expr.{Expr}
use Rattle.sr_tree.specs.declared.types.Decl.{Decl as DeclTree}
use Rattle.sr_tree.specs.declared.types.TypeTree.{TypeTree}
use Rattle.sr_tree.specs.Parts.{body_of, spec_of}

-- how an item waits
pub data WaitsAs (in_spec : Bool) (component : Decl) (one : SpecItem) (waiting : Waiting) : Type 0 where
  as_const : (constant : ConstDecl) → spec.Const constant ≡ one → constant.ty ≡ None → const_waiting in_spec component constant ≡ waiting → WaitsAs in_spec component one waiting
  as_var : (variables : VarDecl) (decl : DeclTree) (value : Expr) → spec.Var variables ≡ one → variables.ty ≡ None → variables.decls ≡ decl ∷ [] → variables.values ≡ value ∷ []
      → var_waiting component variables.span decl value ≡ waiting → WaitsAs in_spec component one waiting

module _ (waiting : Waiting) where
  const_waits : (in_spec : Bool) (component : Decl) (constant : ConstDecl) → IsIn waiting (unless_typed constant.ty (const_waiting in_spec component constant ∷ [])) → WaitsAs in_spec component (spec.Const constant) waiting
  const_waits in_spec component constant = by constant.ty refl
    where
      by : (found : Option TypeTree) → constant.ty ≡ found → IsIn waiting (unless_typed found (const_waiting in_spec component constant ∷ [])) → WaitsAs in_spec component (spec.Const constant) waiting
      by None is (inl e) = as_const constant refl is e
      by None is (inr k) = absurd k
      by (Some tree) is k = absurd k

  abbrev Vars : Bool → Decl → VarDecl → Type 0
  Vars in_spec component variables = WaitsAs in_spec component (spec.Var variables) waiting

  vars_wait : (in_spec : Bool) (component : Decl) (variables : VarDecl) → variables.ty ≡ None → (decls : List DeclTree) (values : List Expr) → variables.decls ≡ decls → variables.values ≡ values
      → IsIn waiting (vars_waiting component variables.span decls values) → Vars in_spec component variables
  vars_wait in_spec component variables untyped [] values is are k = absurd k
  vars_wait in_spec component variables untyped (decl ∷ []) [] is are k = absurd k
  vars_wait in_spec component variables untyped (decl ∷ []) (value ∷ []) is are k = by (has_no_dims decl.dims) k
    where
      by : (b : Bool) → IsIn waiting (waits_if b (var_waiting component variables.span decl value)) → Vars in_spec component variables
      by true (inl e) = as_var variables decl value refl untyped is are e
      by true (inr k) = absurd k
      by false k = absurd k
  vars_wait in_spec component variables untyped (decl ∷ []) (value ∷ other ∷ values) is are k = absurd k
  vars_wait in_spec component variables untyped (decl ∷ other ∷ decls) values is are k = absurd k

  var_waits : (in_spec : Bool) (component : Decl) (variables : VarDecl) → IsIn waiting (unless_typed variables.ty (vars_waiting component variables.span variables.decls variables.values)) → Vars in_spec component variables
  var_waits in_spec component variables = by variables.ty refl
    where
      by : (found : Option TypeTree) → variables.ty ≡ found → IsIn waiting (unless_typed found (vars_waiting component variables.span variables.decls variables.values)) → Vars in_spec component variables
      by None is k = vars_wait in_spec component variables is variables.decls variables.values refl refl k
      by (Some tree) is k = absurd k

  item_waits : (in_spec : Bool) (component : Decl) (one : SpecItem) → IsIn waiting (spec_item_waiting in_spec component one) → WaitsAs in_spec component one waiting
  item_waits in_spec component (spec.Const constant) k = const_waits in_spec component constant k
  item_waits in_spec component (spec.Var variables) k = var_waits in_spec component variables k
  item_waits in_spec component _ k = absurd k

  -- where the item stands
  pub data Stands (component : Component) : Type 0 where
    of_spec : (one : SpecItem) → IsIn one (spec_of component) → WaitsAs true (component_decl component) one waiting → Stands component
    of_body : (one : SpecItem) → IsIn (item.Spec one) (body_of component) → WaitsAs false (component_decl component) one waiting → Stands component

  module _ (component : Component) where
    abbrev decl_here : Decl
    decl_here = component_decl component

    of_specs : (items : List SpecItem) → ((one : SpecItem) → IsIn one items → IsIn one (spec_of component)) → IsIn waiting (spec_items_waiting decl_here items) → Stands component
    of_specs [] among k = absurd k
    of_specs (one ∷ items) among k =
        by (in_either waiting (spec_item_waiting true decl_here one) (spec_items_waiting decl_here items) k) (of_specs items (λ other h. among other (inr h)))
      where
        by : IsIn waiting (spec_item_waiting true decl_here one) ⊎ IsIn waiting (spec_items_waiting decl_here items) → (IsIn waiting (spec_items_waiting decl_here items) → Stands component) → Stands component
        by (inl h) more = of_spec one (among one (inl refl)) (item_waits true decl_here one h)
        by (inr h) more = more h

    of_item : (one : Item) → IsIn one (body_of component) → IsIn waiting (item_waiting decl_here one) → Stands component
    of_item (item.Spec inner) among k = of_body inner among (item_waits false decl_here inner k)
    of_item _ among k = absurd k

    of_items : (items : List Item) → ((one : Item) → IsIn one items → IsIn one (body_of component)) → IsIn waiting (items_waiting decl_here items) → Stands component
    of_items [] among k = absurd k
    of_items (one ∷ items) among k =
        by (in_either waiting (item_waiting decl_here one) (items_waiting decl_here items) k) (of_items items (λ other h. among other (inr h)))
      where
        by : IsIn waiting (item_waiting decl_here one) ⊎ IsIn waiting (items_waiting decl_here items) → (IsIn waiting (items_waiting decl_here items) → Stands component) → Stands component
        by (inl h) more = of_item one (among one (inl refl)) h
        by (inr h) more = more h

    of_component : IsIn waiting (component_waiting component) → Stands component
    of_component k = by (in_either waiting (spec_items_waiting decl_here (spec_of component)) (items_waiting decl_here (body_of component)) k)
      where
        by : IsIn waiting (spec_items_waiting decl_here (spec_of component)) ⊎ IsIn waiting (items_waiting decl_here (body_of component)) → Stands component
        by (inl h) = of_specs (spec_of component) (λ one j. j) h
        by (inr h) = of_items (body_of component) (λ one j. j) h

  -- in one of these components
  pub record StandsIn (all : List Component) : Type 0 where
    pub component : Component
    pub there : IsIn component all
    pub stands : Stands component

  of_components : (all : List Component) → IsIn waiting (components_waiting all) → StandsIn all
  of_components [] k = absurd k
  of_components (one ∷ all) k = by (in_either waiting (component_waiting one) (components_waiting all) k) (of_components all)
    where
      by : IsIn waiting (component_waiting one) ⊎ IsIn waiting (components_waiting all) → (IsIn waiting (components_waiting all) → StandsIn all) → StandsIn (one ∷ all)
      by (inl h) more = record { component = one; there = inl refl; stands = of_component one h }
      by (inr h) more = let found = more h in record { component = found.component; there = inr found.there; stands = found.stands }

  -- what waits in a program
  pub waiting_stands : (files : List File) → IsIn waiting (files_waiting files) → StandsIn (components_in files)
  waiting_stands [] k = absurd k
  waiting_stands (file ∷ files) k = by (in_either waiting (components_waiting file.components) (files_waiting files) k) (waiting_stands files)
    where
      by : IsIn waiting (components_waiting file.components) ⊎ IsIn waiting (files_waiting files) → (IsIn waiting (files_waiting files) → StandsIn (components_in files)) → StandsIn (components_in (file ∷ files))
      by (inl h) more =
          let found = of_components file.components h in
          record { component = found.component; there = in_left found.component file.components (components_in files) found.there; stands = found.stands }
      by (inr h) more = let found = more h in record { component = found.component; there = in_right found.component file.components (components_in files) found.there; stands = found.stands }
