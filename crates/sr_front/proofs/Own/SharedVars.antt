-- The core of a component declares each of its shared variables, by the number that the table of shared variables has for it.
use Rattle.std.proofs.Common.{◌≡◌, ◌⊎◌, ℕ, Bool, true, false, List, [], ◌∷◌, ◌++◌, Option, Some, None, length, map, flat_map, refl, sym, ap, ◌∙◌, subst, inl, inr, if◌then◌else◌, arith, length-append}
use Rattle.std.proofs.lemmas.List.{length-map}
use Rattle.std.proofs.lemmas.List.Concat.{flat_map-append}
use Rattle.sr_check.proofs.Each.{Each}
use Rattle.sr_check_expr.specs.declared.facts.Facts.{Facts}
use Rattle.sr_check_expr.specs.Meanings.{is_constant}
use Rattle.sr_core.specs.declared.component.Component.{Component as CoreComponent}
use Rattle.sr_core.specs.declared.component.Parameter.{Parameter}
use Rattle.sr_core.specs.declared.formal.Formal.{Formal as CoreFormal}
use Rattle.sr_core.specs.declared.statement.CoArm.{CoArm}
use Rattle.sr_core.specs.declared.statement.Guarded.{Guarded}
use Rattle.sr_core.specs.declared.statement.Scope.TheVariants.{Shared}
use Rattle.sr_core.specs.declared.statement.Setup.{Setup}
use Rattle.sr_core.specs.declared.statement.Statement.{Statement, out-Statement, out-roll-Statement}
use Rattle.sr_core.specs.declared.statement.Statement.TheOpen.{Statement-F}
use Rattle.sr_core.specs.declared.statement.Statement.TheVariants as core
use Rattle.sr_desugar.specs.Bodies.{all_code, item_outputs, process_sends, spec_item_core, statement_item}
use Rattle.sr_desugar.specs.Core.{component_formals, scene_of, spec_code, whole_of}
use Rattle.sr_desugar.specs.Declarations.{after_first, const_core, declare, first_of, typed, typed_vars, untyped, untyped_vars, var_core, var_number}
use Rattle.sr_desugar.specs.Statements.{core_statement}
use Rattle.sr_lower_expr.specs.declared.scene.Scene.{Scene}
use Rattle.sr_lower_expr.specs.Places.{formals_of as formals_in}
use Rattle.sr_names.specs.declared.spot.Spot.{Spot}
use Rattle.sr_outline.specs.Heads.{parameters_in, parameters_of}
use Rattle.sr_outline.specs.Numbers.{const_names, formal_names, formal_spots, item_shared, shared_spots, spec_item_shared, var_names}
use Rattle.sr_scope.proofs.Findings.{in_either, in_left, in_right}
use Rattle.sr_scope.specs.Uses.{IsIn}
use Rattle.sr_tables.specs.declared.tables.Tables.{Tables}
use Rattle.sr_tables.specs.Parts.{line_of, spot_named}
use Rattle.sr_tables.specs.Shapes.{Shapes}
use Rattle.sr_tree.specs.declared.component.Component.{Component}
use Rattle.sr_tree.specs.declared.component.Item.{Item}
use Rattle.sr_tree.specs.declared.component.Item.TheVariants as item
use Rattle.sr_tree.specs.declared.component.SpecItem.{SpecItem}
use Rattle.sr_tree.specs.declared.component.SpecItem.TheVariants as spec
use Rattle.sr_tree.specs.declared.declaration.ConstDecl.{ConstDecl}
use Rattle.sr_tree.specs.declared.declaration.VarDecl.{VarDecl}
use Rattle.sr_tree.specs.declared.expr.Expr.{Expr}
use Rattle.sr_tree.specs.declared.types.Decl.{Decl}
use Rattle.sr_tree.specs.declared.types.Formal.{Formal, out-Formal}
use Rattle.sr_tree.specs.declared.types.TypeTree.{TypeTree}
use Rattle.sr_tree.specs.Parts.{body_of, formals_of, spec_of}
use Rattle.sr_value.specs.declared.place.Place.{Place}
use Rattle.sr_front.proofs.Lists.Lists.{in_mapped}
use Rattle.sr_front.specs.Variables.{declared_vars, scoped_var, shared_vars}

-- ---- variables without a type have as many values

abbrev pub HasValues : VarDecl → Type 0
HasValues variables = variables.ty ≡ None → length variables.decls ≡ length variables.values

abbrev pub SpecValued : SpecItem → Type 0
SpecValued (spec.Var variables) = HasValues variables
SpecValued _ = Unit {0}

abbrev pub ItemValued : Item → Type 0
ItemValued (item.Spec declared) = SpecValued declared
ItemValued _ = Unit {0}

abbrev pub IsValued : Component → Type 0
IsValued component = Each SpecValued (spec_of component) × Each ItemValued (body_of component)

-- ---- formals

formal_vars : (vars : List ℕ) (parameters : List Parameter) → length vars ≡ length parameters → map (λ (formal : CoreFormal). formal.var) (formals_in vars parameters) ≡ vars
formal_vars [] [] e = refl
formal_vars [] (parameter ∷ parameters) e = absurd (omega (arith, e))
formal_vars (var ∷ vars) [] e = absurd (omega (arith, e))
formal_vars (var ∷ vars) (parameter ∷ parameters) e = ap (λ more. var ∷ more) (formal_vars vars parameters (omega (arith, e)))

as_many : (facts : Facts) (shapes : Shapes) (formals : List Formal) → length (formal_names formals) ≡ length (parameters_of facts shapes formals)
as_many facts shapes [] = refl
as_many facts shapes (formal ∷ formals) =
    let rest = as_many facts shapes formals in
    let parameters = length-append (parameters_in facts shapes formal) (parameters_of facts shapes formals) in
    let names = length-append (formal_spots formal) (formal_names formals) in
    let here = decls_length formal in
    omega (arith, rest, parameters, names, here)
  where
    decls_length : (one : Formal) → length (parameters_in facts shapes one) ≡ length (formal_spots one)
    decls_length one = length-map (out-Formal one).decls _ ∙ sym (length-map (out-Formal one).decls (λ (decl : Decl). spot_named decl.name))

-- ---- declarations

module _ (scene : Scene) where
  abbrev number_of : Spot → ℕ
  number_of spot = var_number scene Shared spot

  -- each of these spots has its number among these
  abbrev Numbered : List Spot → List ℕ → Type 0
  Numbered spots vars = (spot : Spot) → IsIn spot spots → IsIn (number_of spot) vars

  both_numbered : (xs ys : List Spot) (vars more : List ℕ) → Numbered xs vars → Numbered ys more → Numbered (xs ++ ys) (vars ++ more)
  both_numbered xs ys vars more first second spot k = by (in_either spot xs ys k)
    where
      by : IsIn spot xs ⊎ IsIn spot ys → IsIn (number_of spot) (vars ++ more)
      by (inl h) = in_left (number_of spot) vars more (first spot h)
      by (inr h) = in_right (number_of spot) vars more (second spot h)

  abbrev vars_of : List Statement → List ℕ
  vars_of block = flat_map declared_vars block

  declared_is : (place : Place) (spot : Spot) (setup : Setup) → declared_vars (declare scene Shared place spot setup) ≡ number_of spot ∷ []
  declared_is place spot setup =
      ap (λ (layer : Statement-F Statement CoArm Guarded). elim layer [ Statement-F.Declare place declaration ↦ scoped_var declaration.scope declaration.var | _ ↦ [] ])
      (ap out-Statement (sym (core.rolls-Declare place (record { scope = Shared; var = number_of spot; setup = setup })))
      ∙ out-roll-Statement (Statement-F.Declare place (record { scope = Shared; var = number_of spot; setup = setup })))

  one_numbered : (place : Place) (spot : Spot) (setup : Setup) → Numbered (spot ∷ []) (declared_vars (declare scene Shared place spot setup))
  one_numbered place spot setup other (inl e) = subst (IsIn (number_of other)) (sym (declared_is place spot setup)) (inl (ap number_of e))
  one_numbered place spot setup other (inr k) = absurd k

  next_numbered : (place : Place) (spot : Spot) (setup : Setup) (spots : List Spot) (block : List Statement) → Numbered spots (vars_of block)
      → Numbered (spot ∷ spots) (vars_of (declare scene Shared place spot setup ∷ block))
  next_numbered place spot setup spots block more =
      both_numbered (spot ∷ []) spots (declared_vars (declare scene Shared place spot setup)) (vars_of block) (one_numbered place spot setup) more

  const_numbered : (constant : ConstDecl) → Numbered (const_names scene.facts constant) (vars_of (const_core scene Shared constant))
  unfolding const_names
  const_numbered constant = by (is_constant scene.facts (spot_named constant.name))
    where
      by : (b : Bool) → Numbered (if b then [] else spot_named constant.name ∷ [])
          (vars_of (if b then [] else (declare scene Shared (line_of constant.span) (spot_named constant.name) (untyped scene (spot_named constant.name) constant.value) ∷ [])))
      by true = λ spot k. absurd k
      by false = next_numbered (line_of constant.span) (spot_named constant.name) (untyped scene (spot_named constant.name) constant.value) [] [] (λ spot k. absurd k)

  abbrev names_of : List Decl → List Spot
  names_of decls = map (λ decl. spot_named decl.name) decls

  typed_numbered : (place : Place) (ty : TypeTree) (decls : List Decl) (values : List Expr) → Numbered (names_of decls) (vars_of (typed_vars scene Shared place ty decls values))
  typed_numbered place ty [] values = λ spot k. absurd k
  typed_numbered place ty (decl ∷ decls) values =
      next_numbered place (spot_named decl.name) (typed scene decl ty (first_of values)) (names_of decls) (typed_vars scene Shared place ty decls (after_first values))
      (typed_numbered place ty decls (after_first values))

  untyped_numbered : (place : Place) (decls : List Decl) (values : List Expr) → length decls ≡ length values → Numbered (names_of decls) (vars_of (untyped_vars scene Shared place decls values))
  untyped_numbered place [] values e = λ spot k. absurd k
  untyped_numbered place (decl ∷ decls) [] e = absurd (omega (arith, e))
  untyped_numbered place (decl ∷ decls) (value ∷ values) e =
      next_numbered place (spot_named decl.name) (untyped scene (spot_named decl.name) value) (names_of decls) (untyped_vars scene Shared place decls values)
      (untyped_numbered place decls values (omega (arith, e)))

  abbrev vars_by : VarDecl → Option TypeTree → List Statement
  vars_by variables (Some ty) = typed_vars scene Shared (line_of variables.span) ty variables.decls variables.values
  vars_by variables None = untyped_vars scene Shared (line_of variables.span) variables.decls variables.values

  var_numbered : (variables : VarDecl) → HasValues variables → Numbered (var_names variables) (vars_of (var_core scene Shared variables))
  unfolding var_names
  var_numbered variables has = by variables.ty refl
    where
      by : (ty : Option TypeTree) → variables.ty ≡ ty → Numbered (names_of variables.decls) (vars_of (vars_by variables ty))
      by (Some ty) e = typed_numbered (line_of variables.span) ty variables.decls variables.values
      by None e = untyped_numbered (line_of variables.span) variables.decls variables.values (has e)

  spec_numbered : (one : SpecItem) → SpecValued one → Numbered (spec_item_shared scene.facts one) (vars_of (spec_item_core scene one))
  spec_numbered (spec.Const constant) has = const_numbered constant
  spec_numbered (spec.Var variables) has = var_numbered variables has
  spec_numbered _ has = λ spot k. absurd k

  specs_numbered : (items : List SpecItem) → Each SpecValued items → Numbered (flat_map (spec_item_shared scene.facts) items) (vars_of (spec_code scene items))
  specs_numbered [] has = λ spot k. absurd k
  specs_numbered (one ∷ items) has =
      subst (Numbered (spec_item_shared scene.facts one ++ flat_map (spec_item_shared scene.facts) items)) (sym (flat_map-append declared_vars (spec_item_core scene one) (spec_code scene items)))
      (both_numbered (spec_item_shared scene.facts one) (flat_map (spec_item_shared scene.facts) items) (vars_of (spec_item_core scene one)) (vars_of (spec_code scene items))
      (spec_numbered one has.0) (specs_numbered items has.1))

  abbrev code_of : List Item → List Statement
  code_of items = all_code (item_outputs scene items)

  after_code : (block : List Statement) (items : List Item) → Numbered (flat_map (item_shared scene.facts) items) (vars_of (code_of items))
      → Numbered (flat_map (item_shared scene.facts) items) (vars_of (block ++ code_of items))
  after_code block items more spot k =
      subst (IsIn (number_of spot)) (sym (flat_map-append declared_vars block (code_of items))) (in_right (number_of spot) (vars_of block) (vars_of (code_of items)) (more spot k))

  items_numbered : (items : List Item) → Each ItemValued items → Numbered (flat_map (item_shared scene.facts) items) (vars_of (code_of items))
  items_numbered [] has = λ spot k. absurd k
  items_numbered (item.Spec declared ∷ items) has =
      subst (Numbered (spec_item_shared scene.facts declared ++ flat_map (item_shared scene.facts) items)) (sym (flat_map-append declared_vars (spec_item_core scene declared) (code_of items)))
      (both_numbered (spec_item_shared scene.facts declared) (flat_map (item_shared scene.facts) items) (vars_of (spec_item_core scene declared)) (vars_of (code_of items))
      (spec_numbered declared has.0) (items_numbered items has.1))
  items_numbered (item.Proc proc ∷ items) has = items_numbered items has.1
  items_numbered (item.Procedure procedure ∷ items) has = items_numbered items has.1
  items_numbered (item.Process process ∷ items) has = after_code (process_sends scene process ∷ []) items (items_numbered items has.1)
  items_numbered (item.Final final ∷ items) has = items_numbered items has.1
  items_numbered (item.Statement statement ∷ items) has = after_code (statement_item (core_statement scene statement)).made items (items_numbered items has.1)

module _ (facts : Facts) (tables : Tables) (imports : List (List ℕ)) (number : ℕ) (component : Component) (valued : IsValued component) where
  abbrev scene : Scene
  scene = scene_of facts tables imports number component

  abbrev made : CoreComponent
  made = (whole_of facts tables imports (number, component)).component

  formals_numbered : Numbered scene (formal_names (formals_of component)) (map (λ (formal : CoreFormal). formal.var) (component_formals scene component))
  formals_numbered spot k =
      let names = formal_names (formals_of component) in
      let same = length-map names (number_of scene) in
      let many = as_many scene.facts tables.shapes (formals_of component) in
      subst (IsIn (number_of scene spot)) (sym (formal_vars (map (number_of scene) names) (parameters_of scene.facts tables.shapes (formals_of component)) (same ∙ many)))
      (in_mapped (number_of scene) names spot k)

  abbrev code : List Statement
  code = spec_code scene (spec_of component)

  abbrev more : List Statement
  more = all_code (item_outputs scene (body_of component))

  pub shared_numbered : (spot : Spot) → IsIn spot (shared_spots scene.facts component) → IsIn (var_number scene Shared spot) (shared_vars made)
  shared_numbered =
      both_numbered scene (formal_names (formals_of component)) _ (map (λ (formal : CoreFormal). formal.var) (component_formals scene component)) (flat_map declared_vars (code ++ more)) formals_numbered
      (subst (Numbered scene (flat_map (spec_item_shared scene.facts) (spec_of component) ++ flat_map (item_shared scene.facts) (body_of component))) (sym (flat_map-append declared_vars code more))
      (both_numbered scene (flat_map (spec_item_shared scene.facts) (spec_of component)) (flat_map (item_shared scene.facts) (body_of component)) (flat_map declared_vars code) (flat_map declared_vars more)
      (specs_numbered scene (spec_of component) valued.0) (items_numbered scene (body_of component) valued.1)))
