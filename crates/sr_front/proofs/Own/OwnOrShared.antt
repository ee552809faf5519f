-- A name that code uses as a variable means an own variable of the code, a shared variable of a component, or a static constant.
use Rattle.std.proofs.Common.{◌≡◌, ◌⊎◌, Bool, true, false, List, [], ◌∷◌, ◌++◌, Option, Some, None, Ok, map, flat_map, refl, sym, ap, ◌∙◌, subst, inl, inr, if◌then◌else◌, ◌||◌}
use Rattle.std.specs.List.{list_any}
use Rattle.std.proofs.lemmas.Bool.{false≢true}
use Rattle.sr_check.proofs.Each.{Each}
use Rattle.sr_check_expr.specs.declared.facts.Facts.{Facts}
use Rattle.sr_check_expr.specs.Meanings.{is_constant}
use Rattle.sr_names.proofs.LinkLemmas.{same_spot-eq}
use Rattle.sr_names.specs.declared.finding.Finding.{Finding}
use Rattle.sr_names.specs.declared.finding.Finding.TheVariants.{Use}
use Rattle.sr_names.specs.declared.meaning.Decl.{Decl}
use Rattle.sr_names.specs.declared.meaning.Meaning.TheVariants.{Declared}
use Rattle.sr_names.specs.declared.meaning.Sort.{Sort}
use Rattle.sr_names.specs.declared.meaning.Sort.TheVariants.{Constant, Literal, «Type» as type_sort, OpType as optype_sort, Variable, Operation, Quantifier as quantifier_sort, Resource as resource_sort, Global as global_sort}
use Rattle.sr_names.specs.declared.place.Place.{Place}
use Rattle.sr_names.specs.declared.spot.Spot.{Spot}
use Rattle.sr_names.specs.Uses.{meaning_at}
use Rattle.sr_names.specs.Readings.{declaration}
use Rattle.sr_names.specs.Scopes.{no_blocks, opened}
use Rattle.sr_names.specs.Spots.{same_spot, spot_of}
use Rattle.sr_order.specs.Names.{component_names, formal_names as names_of_formal, item_names as names_of_item, quantifier_names as names_of_quantifier, spec_item_names}
use Rattle.sr_outline.specs.Numbers.{const_names, formal_names, formal_spots, initial_spots, item_names, item_shared, own_spots, quantifier_names, returned_names, shared_spots, signature_returned, spec_item_shared, var_names as var_spots}
use Rattle.sr_scope.specs.Components.{decl_of, imports_found, imports_of, own_twice, place_of, sort_of}
use Rattle.sr_scope.specs.declared.program.Names.{Names}
use Rattle.sr_scope.specs.Declarations.{quantifiers_found, var_names}
use Rattle.sr_scope.specs.Declares.{op_name}
use Rattle.sr_scope.specs.Exprs.{Finds}
use Rattle.sr_scope.specs.Items.{inside, item_found, item_within, items_found, served_twice, spec_found, spec_within, specs_found}
use Rattle.sr_scope.specs.Literals.{literals_of}
use Rattle.sr_scope.specs.Procs.{semaphore_names}
use Rattle.sr_scope.specs.Names.{is_component}
use Rattle.sr_scope.specs.Resolved.{findings, program, resolved}
use Rattle.sr_scope.specs.Types.{Formals, Signed, formal_read, formal_step, formals_found, returned_step, signature_step, type_step}
use Rattle.sr_scope.specs.Uses.{IsIn, OneMeaning}
use Rattle.sr_scope.proofs.Findings.{in_either, in_flat, in_left, in_program, in_right, use_means}
use Rattle.sr_scope.proofs.Operations.{from_flat}
use Rattle.sr_scope.proofs.OwnNames.{formal_own, item_own, own_names, spec_own}
use Rattle.sr_scope.proofs.Tables.{sorted}
use Rattle.sr_tables.specs.Parts.{component_spot, components_in, spot_named}
use Rattle.sr_tables.specs.Tables.{each_once, with_spots}
use Rattle.sr_tree.specs.declared.component.Component.{Component}
use Rattle.sr_tree.specs.declared.component.Component.TheVariants.{Global, Resource, SplitResource}
use Rattle.sr_tree.specs.declared.component.File.{File}
use Rattle.sr_tree.specs.declared.component.Item.{Item}
use Rattle.sr_tree.specs.declared.component.Item.TheVariants as item
use Rattle.sr_tree.specs.declared.component.Process.{Process}
use Rattle.sr_tree.specs.declared.component.SpecItem.{SpecItem}
use Rattle.sr_tree.specs.declared.component.SpecItem.TheVariants as spec
use Rattle.sr_tree.specs.declared.declaration.ConstDecl.{ConstDecl}
use Rattle.sr_tree.specs.declared.declaration.VarDecl.{VarDecl}
use Rattle.sr_tree.specs.declared.name.Name.{Name}
use Rattle.sr_tree.specs.declared.types.Decl.{Decl as DeclTree}
use Rattle.sr_tree.specs.declared.types.Formal.{Formal, out-Formal}
use Rattle.sr_tree.specs.declared.types.Signature.{out-Signature}
use Rattle.sr_tree.specs.declared.types.TypeTree.TheFolds.{fold_out-Formal}
use Rattle.sr_tree.specs.Parts.{body_of, formals_of, name_of, spec_of}
use Rattle.sr_value.specs.declared.place.Span.{Span}
use Rattle.sr_front.proofs.Names.UsesInExprs as exprs
use Rattle.sr_front.proofs.Names.UsesInItems as items
use Rattle.sr_front.proofs.Names.UsesInFiles.{own_not}
use Rattle.sr_front.proofs.Names.UsesInStatements.{is_inner}
use Rattle.sr_front.proofs.Names.UsesVisible as visible
use Rattle.sr_front.proofs.Names.UsesVisible.{IsSeen}
use Rattle.sr_front.proofs.Own.DeclaredIn.{Stands, all_variables, item_operations, item_variables, quantifier_stands, stands_left, stands_right, variables_both}
use Rattle.sr_front.proofs.Known.KeptNames.{Anywhere, all_fit}
use Rattle.sr_front.proofs.Lists.Lists.{each_at}

-- what is used as a variable
abbrev pub is_variable : Sort → Bool
is_variable Constant = true
is_variable Variable = true
is_variable quantifier_sort = true
is_variable _ = false

-- ---- each once

-- a spot stays where others are put after it
stays : (spot : Spot) (spots there : List Spot) → IsIn spot there → IsIn spot (with_spots there spots)
stays spot [] there h = h
stays spot (one ∷ spots) there h = stays spot spots (if list_any (same_spot one) there then there else there ++ one ∷ []) (by (list_any (same_spot one) there))
  where
    by : (b : Bool) → IsIn spot (if b then there else there ++ one ∷ [])
    by true = h
    by false = in_left spot there (one ∷ []) h

-- a spot that is the same as one of these is one of them
any_in : (spot : Spot) (there : List Spot) → list_any (same_spot spot) there ≡ true → IsIn spot there
any_in spot [] h = absurd (false≢true h)
any_in spot (one ∷ there) h = by (same_spot spot one) refl h (any_in spot there)
  where
    by : (b : Bool) → same_spot spot one ≡ b → b || list_any (same_spot spot) there ≡ true → (list_any (same_spot spot) there ≡ true → IsIn spot there) → IsIn spot (one ∷ there)
    by true is e more = inl (sym (same_spot-eq spot one is))
    by false is e more = inr (more e)

put_in : (spot : Spot) (spots there : List Spot) → IsIn spot spots → IsIn spot (with_spots there spots)
put_in spot [] there h = absurd h
put_in spot (one ∷ spots) there (inl e) = stays spot spots (if list_any (same_spot one) there then there else there ++ one ∷ []) (by (list_any (same_spot one) there) refl)
  where
    by : (b : Bool) → list_any (same_spot one) there ≡ b → IsIn spot (if b then there else there ++ one ∷ [])
    by true is = any_in spot there (subst (λ s. list_any (same_spot s) there ≡ true) e is)
    by false is = in_right spot there (one ∷ []) (inl e)
put_in spot (one ∷ spots) there (inr h) = put_in spot spots (if list_any (same_spot one) there then there else there ++ one ∷ []) h

pub in_once : (spot : Spot) (spots : List Spot) → IsIn spot spots → IsIn spot (each_once spots)
in_once spot spots h = put_in spot spots [] h

-- ---- what a component declares as a variable is shared, or a static constant

module _ (facts : Facts) where
  abbrev IsSharedName : List Spot → Spot → Type 0
  IsSharedName spots spot = IsIn spot spots ⊎ (is_constant facts spot ≡ true)

  abbrev AreShared : List (Sort × Name) → List Spot → Type 0
  AreShared names spots = (one : Sort × Name) → IsIn one names → is_variable one.0 ≡ true → IsSharedName spots (spot_named one.1)

  to_left : (xs ys : List Spot) (spot : Spot) → IsSharedName xs spot → IsSharedName (xs ++ ys) spot
  to_left xs ys spot (inl h) = inl (in_left spot xs ys h)
  to_left xs ys spot (inr h) = inr h

  to_right : (xs ys : List Spot) (spot : Spot) → IsSharedName ys spot → IsSharedName (xs ++ ys) spot
  to_right xs ys spot (inl h) = inl (in_right spot xs ys h)
  to_right xs ys spot (inr h) = inr h

  none_shared : (spots : List Spot) → AreShared [] spots
  none_shared spots one k is = absurd k

  one_not : (sort : Sort) (name : Name) (spots : List Spot) → is_variable sort ≡ false → AreShared ((sort, name) ∷ []) spots
  one_not sort name spots not one (inl e) is = absurd (false≢true (sym not ∙ ap (λ (pair : Sort × Name). is_variable pair.0) e ∙ is))
  one_not sort name spots not one (inr k) is = absurd k

  sorted_not : (sort : Sort) (names : List Name) (spots : List Spot) → is_variable sort ≡ false → AreShared (sorted sort names) spots
  sorted_not sort [] spots not one k is = absurd k
  sorted_not sort (name ∷ names) spots not one (inl e) is = absurd (false≢true (sym not ∙ ap (λ (pair : Sort × Name). is_variable pair.0) e ∙ is))
  sorted_not sort (name ∷ names) spots not one (inr k) is = sorted_not sort names spots not one k is

  first_not : (sort : Sort) (name : Name) (names : List (Sort × Name)) → is_variable sort ≡ false → AreShared names [] → AreShared ((sort, name) ∷ names) []
  first_not sort name names not more one (inl e) is = absurd (false≢true (sym not ∙ ap (λ (pair : Sort × Name). is_variable pair.0) e ∙ is))
  first_not sort name names not more one (inr k) is = more one k is

  decls_shared : (decls : List DeclTree) → AreShared (sorted Variable (map (λ (decl : DeclTree). decl.name) decls)) (map (λ (decl : DeclTree). spot_named decl.name) decls)
  decls_shared [] one k is = absurd k
  decls_shared (decl ∷ decls) one (inl e) is = inl (inl (ap (λ (pair : Sort × Name). spot_named pair.1) e))
  decls_shared (decl ∷ decls) one (inr k) is = to_right (spot_named decl.name ∷ []) (map (λ (decl : DeclTree). spot_named decl.name) decls) (spot_named one.1) (decls_shared decls one k is)

  vars_shared : (variables : VarDecl) → AreShared (sorted Variable (var_names variables)) (var_spots variables)
  unfolding var_spots
  vars_shared variables = decls_shared variables.decls

  const_shared : (constant : ConstDecl) → AreShared ((Constant, constant.name) ∷ []) (const_names facts constant)
  unfolding const_names
  const_shared constant one (inr k) is = absurd k
  const_shared constant one (inl e) is = by (is_constant facts (spot_named constant.name)) refl
    where
      same : spot_named constant.name ≡ spot_named one.1
      same = ap (λ (pair : Sort × Name). spot_named pair.1) e

      by : (b : Bool) → is_constant facts (spot_named constant.name) ≡ b → IsSharedName (if b then [] else spot_named constant.name ∷ []) (spot_named one.1)
      by true static = inr (subst (λ spot. is_constant facts spot ≡ true) same static)
      by false static = inl (inl same)

  spec_shared : (one : SpecItem) → AreShared (spec_own one) (spec_item_shared facts one)
  spec_shared (spec.Import imports) = none_shared []
  spec_shared (spec.Const constant) = const_shared constant
  spec_shared (spec.Type named) = first_not type_sort named.name (sorted Literal (literals_of named.ty)) refl (sorted_not Literal (literals_of named.ty) [] refl)
  spec_shared (spec.OpType named) = one_not optype_sort named.name [] refl
  spec_shared (spec.Op operations) = sorted_not Operation (map op_name operations.items) [] refl
  spec_shared (spec.Var variables) = vars_shared variables
  spec_shared (spec.Sem declared) = sorted_not Operation (semaphore_names declared.semaphores) [] refl

  body_shared : (one : Item) → AreShared (item_own one) (item_shared facts one)
  body_shared (item.Spec declared) = spec_shared declared
  body_shared (item.Procedure procedure) = one_not Operation procedure.name [] refl
  body_shared (item.Process process) = one_not Operation process.name [] refl
  body_shared _ = none_shared []

  formal_shared : (formal : Formal) → AreShared (formal_own formal) (formal_spots formal)
  formal_shared formal =
      subst (λ (read : Formals). AreShared (sorted Variable read.names) (formal_spots formal)) (sym (fold_out-Formal Finds Formals Formals Signed type_step formal_step returned_step signature_step formal))
      (decls_shared (out-Formal formal).decls)

  flat_shared : {A : Type 0} (names : A → List (Sort × Name)) (spots : A → List Spot) → ((a : A) → AreShared (names a) (spots a)) → (items : List A) → AreShared (flat_map names items) (flat_map spots items)
  flat_shared names spots each [] one k is = absurd k
  flat_shared names spots each (a ∷ items) one k is = by (in_either one (names a) (flat_map names items) k) (λ h. flat_shared names spots each items one h is)
    where
      by : IsIn one (names a) ⊎ IsIn one (flat_map names items) → (IsIn one (flat_map names items) → IsSharedName (flat_map spots items) (spot_named one.1))
          → IsSharedName (spots a ++ flat_map spots items) (spot_named one.1)
      by (inl h) more = to_left (spots a) (flat_map spots items) (spot_named one.1) (each a one h is)
      by (inr h) more = to_right (spots a) (flat_map spots items) (spot_named one.1) (more h)

  pub own_shared : (component : Component) → AreShared (own_names component) (shared_spots facts component)
  own_shared component one k is = by (in_either one (flat_map spec_own (spec_of component)) _ k)
    where
      formals : List Spot
      formals = formal_names (formals_of component)

      specs : List Spot
      specs = flat_map (spec_item_shared facts) (spec_of component)

      last : IsIn one (flat_map formal_own (formals_of component)) ⊎ IsIn one (flat_map item_own (body_of component)) → IsSharedName (shared_spots facts component) (spot_named one.1)
      last (inl h) = to_left formals _ (spot_named one.1) (flat_shared formal_own formal_spots formal_shared (formals_of component) one h is)
      last (inr h) =
          to_right formals _ (spot_named one.1) (to_right specs _ (spot_named one.1)
          (flat_shared item_own (item_shared facts) body_shared (body_of component) one h is))

      by : IsIn one (flat_map spec_own (spec_of component)) ⊎ IsIn one (flat_map formal_own (formals_of component) ++ flat_map item_own (body_of component))
          → IsSharedName (shared_spots facts component) (spot_named one.1)
      by (inl h) =
          to_right formals _ (spot_named one.1) (to_left specs _ (spot_named one.1)
          (flat_shared spec_own (spec_item_shared facts) spec_shared (spec_of component) one h is))
      by (inr h) = last (in_either one (flat_map formal_own (formals_of component)) _ h)

component_not : (component : Component) → is_variable (sort_of component) ≡ false
component_not (Resource span name formals items) = refl
component_not (SplitResource span name spec formals items) = refl
component_not (Global span name spec body) = refl

-- ---- what the specs of resources declare

-- the constants in the specs of resources are static
abbrev pub ConstantsStatic : List File → Facts → Type 0
ConstantsStatic files facts =
    (component : Component) → IsIn component (components_in files) → sort_of component ≡ resource_sort → (constant : ConstDecl) → IsIn (spec.Const constant) (spec_of component)
    → is_constant facts (spot_named constant.name) ≡ true

-- they declare no variables, and their constants are static
pub record SpecsStatic (files : List File) (facts : Facts) : Type 0 where
  pub no_vars : (component : Component) → IsIn component (components_in files) → sort_of component ≡ resource_sort → (variables : VarDecl) → IsIn (spec.Var variables) (spec_of component) → ⊥
  pub static : ConstantsStatic files facts

pub resource_or_global : (component : Component) → (sort_of component ≡ resource_sort) ⊎ (sort_of component ≡ global_sort)
resource_or_global (Resource span name formals items) = inl refl
resource_or_global (SplitResource span name spec formals items) = inl refl
resource_or_global (Global span name spec body) = inr refl

static_not : (facts : Facts) (constant : ConstDecl) (spot : Spot) → is_constant facts (spot_named constant.name) ≡ true → IsIn spot (const_names facts constant) → ⊥
unfolding const_names
static_not facts constant spot is k = subst (λ b. IsIn spot (if b then [] else spot_named constant.name ∷ [])) is k

module _ (files : List File) (facts : Facts) (rules : SpecsStatic files facts) (component : Component) (there : IsIn component (components_in files)) (is : sort_of component ≡ resource_sort) where
  pub item_static : (item : SpecItem) → IsIn item (spec_of component) → (spot : Spot) → IsIn spot (spec_item_shared facts item) ⊎ (is_constant facts spot ≡ true) → is_constant facts spot ≡ true
  item_static item among spot (inr h) = h
  item_static (spec.Const constant) among spot (inl h) = absurd (static_not facts constant spot (rules.static component there is constant among) h)
  item_static (spec.Var variables) among spot (inl h) = absurd (rules.no_vars component there is variables among)
  item_static (spec.Import imports) among spot (inl h) = absurd h
  item_static (spec.Type named) among spot (inl h) = absurd h
  item_static (spec.OpType named) among spot (inl h) = absurd h
  item_static (spec.Op operations) among spot (inl h) = absurd h
  item_static (spec.Sem declared) among spot (inl h) = absurd h

  -- so what is used as a variable and declared in the spec of a resource is a static constant
  spec_static : (one : Sort × Name) → IsIn one (flat_map spec_own (spec_of component)) → is_variable one.0 ≡ true → is_constant facts (spot_named one.1) ≡ true
  spec_static one k variable =
      let part = from_flat spec_own one (spec_of component) k in
      item_static part.0 part.1 (spot_named one.1) (spec_shared facts part.0 one part.2 variable)

-- ---- what a name may mean that is used in a component

-- a variable or constant that isn't static in the spec of a global that is visible
pub record IsShown (files : List File) (facts : Facts) (here : Component) (spot : Spot) : Type 0 where
  pub shower : Decl
  pub seen : IsSeen files here shower
  pub component : Component
  pub there : IsIn component (components_in files)
  pub at : component_spot component ≡ shower.spot
  pub global : sort_of component ≡ global_sort
  pub among : IsIn spot (shared_spots facts component)

-- an own variable that is declared in the component
abbrev pub IsOwned : Component → List Spot → Spot → Type 0
IsOwned here own spot = IsIn spot own × Stands spot (component_names here)

-- what a name may mean that is used as a variable, in code with these own variables
abbrev pub IsVariable : List File → Facts → Component → List Spot → Spot → Type 0
IsVariable files facts here own spot = IsOwned here own spot ⊎ (IsIn spot (shared_spots facts here) ⊎ (IsShown files facts here spot ⊎ (is_constant facts spot ≡ true)))

pub inner_not : (sort : Sort) → is_inner sort ≡ true → is_component sort ≡ false
inner_not resource_sort h = absurd (false≢true h)
inner_not global_sort h = absurd (false≢true h)
inner_not _ h = refl

module _ (files : List File) (facts : Facts) (rules : SpecsStatic files facts) (here : Component) (there : IsIn here (components_in files)) (own : List Spot) where
  abbrev outer : Place
  outer = place_of (program files).components (program files).specs here

  abbrev Owned : Spot → Type 0
  Owned = IsOwned here own

  abbrev Means : Spot → Type 0
  Means = IsVariable files facts here own

  -- a variable is meant as one, and a component is visible
  abbrev P : Spot → Decl → Type 0
  P at decl = (is_variable decl.sort ≡ true → Means decl.spot) × (is_component decl.sort ≡ true → IsSeen files here decl)

  component_may : (d : Decl) → IsSeen files here d → (component : Component) → IsIn component (components_in files) → d ≡ decl_of component → (at : Spot) → P at d
  component_may d seen component among is at = (
    λ variable. absurd (false≢true (sym (component_not component) ∙ sym (ap (λ (one : Decl). is_variable one.sort) is) ∙ variable)),
    λ component. seen,
  )

  own_may : (one : Sort × Name) → IsIn one (own_names here) → (at : Spot) → P at (declaration one.0 one.1.span)
  own_may one among at = (λ variable. by (own_shared facts here one among variable), λ component. absurd (false≢true (sym (own_not here one among) ∙ component)))
    where
      by : IsIn (spot_named one.1) (shared_spots facts here) ⊎ (is_constant facts (spot_named one.1) ≡ true) → Means (spot_named one.1)
      by (inl h) = inr (inl h)
      by (inr h) = inr (inr (inr h))

  shown_may : (shower : Decl) → IsSeen files here shower → (component : Component) → IsIn component (components_in files) → component_spot component ≡ shower.spot
      → (one : Sort × Name) → IsIn one (flat_map spec_own (spec_of component)) → (at : Spot) → P at (declaration one.0 one.1.span)
  shown_may shower seen component among place one k at = (
    λ variable. by (resource_or_global component) variable,
    λ is. absurd (false≢true (sym (own_not component one (in_left one (flat_map spec_own (spec_of component)) _ k)) ∙ is)),
  )
    where
      shared : sort_of component ≡ global_sort → IsIn (spot_named one.1) (shared_spots facts component) ⊎ (is_constant facts (spot_named one.1) ≡ true) → Means (spot_named one.1)
      shared is (inl h) = inr (inr (inl (record { shower = shower; seen = seen; component = component; there = among; at = place; global = is; among = h })))
      shared is (inr h) = inr (inr (inr h))

      by : (sort_of component ≡ resource_sort) ⊎ (sort_of component ≡ global_sort) → is_variable one.0 ≡ true → Means (spot_named one.1)
      by (inl is) variable = inr (inr (inr (spec_static files facts rules component among is one k variable)))
      by (inr is) variable = shared is (own_shared facts component one (in_left one (flat_map spec_own (spec_of component)) _ k) variable)

  owned_may : (at : Spot) (sort : Sort) (span : Span) → is_inner sort ≡ true → Owned (spot_of span) → P at (declaration sort span)
  owned_may at sort span is owned = (λ variable. inl owned, λ component. absurd (false≢true (sym (inner_not sort is) ∙ component)))

  static_may : (at : Spot) (span : Span) → is_constant facts (spot_of span) ≡ true → P at (declaration Constant span)
  static_may at span is = (λ variable. inr (inr (inr is)), λ component. absurd (false≢true component))

  operation_may : (at : Spot) (span : Span) → Anywhere (spot_of span) → P at (declaration Operation span)
  operation_may at span operated = (λ variable. absurd (false≢true variable), λ component. absurd (false≢true component))

  place_fits : (within : Option Spot) → exprs.PlaceFits P (inside outer within)
  place_fits = visible.place_fits files here there P component_may own_may shown_may (λ at d is may. may.1 is)

  each_in : (spots : List Spot) → ((spot : Spot) → IsIn spot spots → Owned spot) → Each Owned spots
  each_in [] owned = tt
  each_in (spot ∷ spots) owned = (owned spot (inl refl), each_in spots (λ one k. owned one (inr k)))

  -- each use in an item whose variables are among the own ones
  pub item_means : (one : Item) (within : Option Spot) → ((spot : Spot) → IsIn spot (item_variables facts one) → Owned spot) → exprs.AllFit P (item_found one (inside outer within) no_blocks)
  item_means one within owned =
      items.item_fits P facts Owned Anywhere owned_may static_may operation_may (inside outer within) (place_fits within) one (each_in (item_variables facts one) owned) (all_fit (λ spot. spot) (item_operations one))

  -- each use in the quantifiers of a process, which stand in initial code
  pub sends_mean : (process : Process) (within : Option Spot) → ((spot : Spot) → IsIn spot (quantifier_names process.quantifiers) → Owned spot)
      → exprs.AllFit P (quantifiers_found process.quantifiers (inside outer within) (opened no_blocks))
  sends_mean process within owned =
      items.sends_fit P facts Owned Anywhere owned_may static_may operation_may (inside outer within) (place_fits within) process (each_in (quantifier_names process.quantifiers) owned)

  -- each use in an item of a spec
  pub spec_means : (one : SpecItem) (within : Option Spot) → exprs.AllFit P (spec_found one (inside outer within) no_blocks)
  spec_means one within = items.spec_fits P facts Owned Anywhere owned_may static_may operation_may (inside outer within) (place_fits within) one

-- ---- the own variables of the code that an item stands for

-- what stands in no proc, procedure, process or final code belongs to the initial code
abbrev pub item_owns : Facts → Component → Item → List Spot
item_owns facts component (item.Proc proc) = own_spots facts (map spot_named proc.formals) (returned_names proc.returned) proc.block
item_owns facts component (item.Procedure procedure) = own_spots facts (formal_names (out-Signature procedure.signature).formals) (signature_returned procedure.signature) procedure.block
item_owns facts component (item.Process process) = own_spots facts (quantifier_names process.quantifiers) [] process.block
item_owns facts component (item.Final final) = own_spots facts [] [] final.block
item_owns facts component one = initial_spots facts component

all_owned : (facts : Facts) (component : Component) (one : Item) → IsIn one (body_of component) → (spot : Spot) → IsIn spot (all_variables facts one) → IsIn spot (item_owns facts component one)
all_owned facts component (item.Spec declared) among spot h = absurd h
all_owned facts component (item.Statement statement) among spot h =
    in_once spot (flat_map (item_names facts) (body_of component)) (in_flat (item_names facts) (item.Statement statement) spot (body_of component) among h)
all_owned facts component _ among spot h = in_once spot _ h

pub stands_among : {A : Type 0} (names : A → List Span) (items : List A) (item : A) (spot : Spot) → IsIn item items → Stands spot (names item) → Stands spot (flat_map names items)
stands_among names [] item spot k h = absurd k
stands_among names (first ∷ items) item spot (inl e) h = stands_left spot (names first) (flat_map names items) (subst (λ one. Stands spot (names one)) (sym e) h)
stands_among names (first ∷ items) item spot (inr k) h = stands_right spot (names first) (flat_map names items) (stands_among names items item spot k h)

-- what stands in an item of a component stands in the component
pub item_stands : (component : Component) (one : Item) → IsIn one (body_of component) → (spot : Spot) → Stands spot (names_of_item one) → Stands spot (component_names component)
item_stands component one among spot h =
    stands_right spot ((name_of component).span ∷ []) _
    (stands_right spot (flat_map spec_item_names (spec_of component)) _
    (stands_right spot (flat_map names_of_formal (formals_of component)) _ (stands_among names_of_item (body_of component) one spot among h)))

pub item_owned : (facts : Facts) (component : Component) (one : Item) → IsIn one (body_of component) → (spot : Spot) → IsIn spot (item_variables facts one)
    → IsOwned component (item_owns facts component one) spot
item_owned facts component one among spot h =
    let both = variables_both facts one spot h in
    (all_owned facts component one among spot both.0, item_stands component one among spot both.1)

-- the quantifiers of a process are variables of the initial code too
pub sends_owned : (facts : Facts) (component : Component) (process : Process) → IsIn (item.Process process) (body_of component) → (spot : Spot) → IsIn spot (quantifier_names process.quantifiers)
    → IsOwned component (initial_spots facts component) spot
sends_owned facts component process among spot h = (
  in_once spot (flat_map (item_names facts) (body_of component)) (in_flat (item_names facts) (item.Process process) spot (body_of component) among h),
  item_stands component (item.Process process) among spot
      (stands_right spot (process.name.span ∷ []) _ (stands_left spot (flat_map names_of_quantifier process.quantifiers) _ (quantifier_stands process.quantifiers spot h))),
)

-- ---- the meanings of uses

in_items : (items : List Item) (place : Place) (one : Item) → IsIn one items → (finding : Finding) → IsIn finding (item_found one (inside place (item_within one)) no_blocks)
    → IsIn finding (items_found items place no_blocks)
in_items [] place one there finding h = absurd there
in_items (first ∷ items) place one (inl e) finding h =
    in_left finding (item_found first (inside place (item_within first)) no_blocks) _
    (subst (λ (it : Item). IsIn finding (item_found it (inside place (item_within it)) no_blocks)) (sym e) h)
in_items (first ∷ items) place one (inr there) finding h =
    in_right finding (item_found first (inside place (item_within first)) no_blocks) _ (in_items items place one there finding h)

in_specs : (items : List SpecItem) (place : Place) (one : SpecItem) → IsIn one items → (finding : Finding) → IsIn finding (spec_found one (inside place (spec_within one)) no_blocks)
    → IsIn finding (specs_found items place no_blocks)
in_specs [] place one there finding h = absurd there
in_specs (first ∷ items) place one (inl e) finding h =
    in_left finding (spec_found first (inside place (spec_within first)) no_blocks) _
    (subst (λ (it : SpecItem). IsIn finding (spec_found it (inside place (spec_within it)) no_blocks)) (sym e) h)
in_specs (first ∷ items) place one (inr there) finding h =
    in_right finding (spec_found first (inside place (spec_within first)) no_blocks) _ (in_specs items place one there finding h)

module _ (files : List File) (names : Names) (named : resolved files ≡ Ok names) (single : OneMeaning (findings files)) (facts : Facts) (rules : SpecsStatic files facts)
    (here : Component) (there : IsIn here (components_in files)) where
  abbrev around : Place
  around = place_of (program files).components (program files).specs here

  abbrev known : Place
  known = inside around None

  -- what is found in an item is found in the program
  item_in_program : (one : Item) → IsIn one (body_of here) → (finding : Finding) → IsIn finding (item_found one (inside around (item_within one)) no_blocks) → IsIn finding (findings files)
  item_in_program one among finding h =
      in_program files here there finding
      (in_right finding (own_twice here) _
      (in_right finding (imports_found (program files).components (imports_of here)) _
      (in_right finding (served_twice (body_of here) around no_blocks []) _
      (in_right finding (specs_found (spec_of here) around no_blocks) _
      (in_right finding (formals_found (map formal_read (formals_of here)) known no_blocks) _
      (in_items (body_of here) known one among finding h))))))

  spec_in_program : (one : SpecItem) → IsIn one (spec_of here) → (finding : Finding) → IsIn finding (spec_found one (inside around (spec_within one)) no_blocks) → IsIn finding (findings files)
  spec_in_program one among finding h =
      in_program files here there finding
      (in_right finding (own_twice here) _
      (in_right finding (imports_found (program files).components (imports_of here)) _
      (in_right finding (served_twice (body_of here) around no_blocks []) _
      (in_left finding (specs_found (spec_of here) around no_blocks) _ (in_specs (spec_of here) around one among finding h)))))

  -- A name that is used means this, and where that is a variable it is one of these own variables, or a shared variable of the component or of a global that it imports, or a static constant.
  pub record UsedVariable (own : List Spot) (spot : Spot) (decl : Decl) : Type 0 where
    pub means : meaning_at names.uses spot ≡ Some (Declared decl)
    pub variable : is_variable decl.sort ≡ true → IsVariable files facts here own decl.spot

  used : (own : List Spot) (found : List Finding) → exprs.AllFit (P files facts rules here there own) found → (spot : Spot) (decl : Decl) → IsIn (Use spot (Declared decl)) found
      → IsIn (Use spot (Declared decl)) (findings files) → UsedVariable own spot decl
  used own found fit spot decl h among = record {
    means = use_means files names named single spot (Declared decl) among;
    variable = (each_at (exprs.FindingFits (P files facts rules here there own)) found fit (Use spot (Declared decl)) h).0;
  }

  pub used_variable : (one : Item) → IsIn one (body_of here) → (spot : Spot) (decl : Decl) → IsIn (Use spot (Declared decl)) (item_found one (inside around (item_within one)) no_blocks)
      → UsedVariable (item_owns facts here one) spot decl
  used_variable one among spot decl h =
      used (item_owns facts here one) (item_found one (inside around (item_within one)) no_blocks)
      (item_means files facts rules here there (item_owns facts here one) one (item_within one) (item_owned facts here one among)) spot decl h
      (item_in_program one among (Use spot (Declared decl)) h)

  -- the quantifiers of a process stand in initial code too
  pub used_send : (process : Process) → IsIn (item.Process process) (body_of here) → (spot : Spot) (decl : Decl)
      → IsIn (Use spot (Declared decl)) (quantifiers_found process.quantifiers (inside around (item_within (item.Process process))) (opened no_blocks)) → UsedVariable (initial_spots facts here) spot decl
  used_send process among spot decl h =
      used (initial_spots facts here) (quantifiers_found process.quantifiers (inside around (item_within (item.Process process))) (opened no_blocks))
      (sends_mean files facts rules here there (initial_spots facts here) process (item_within (item.Process process)) (sends_owned facts here process among)) spot decl h
      (item_in_program (item.Process process) among (Use spot (Declared decl))
      (in_left (Use spot (Declared decl)) (quantifiers_found process.quantifiers (inside around (item_within (item.Process process))) (opened no_blocks)) _ h))

  pub used_spec : (one : SpecItem) → IsIn one (spec_of here) → (spot : Spot) (decl : Decl) → IsIn (Use spot (Declared decl)) (spec_found one (inside around (spec_within one)) no_blocks)
      → UsedVariable (initial_spots facts here) spot decl
  used_spec one among spot decl h =
      used (initial_spots facts here) (spec_found one (inside around (spec_within one)) no_blocks)
      (spec_means files facts rules here there (initial_spots facts here) one (spec_within one)) spot decl h (spec_in_program one among (Use spot (Declared decl)) h)
