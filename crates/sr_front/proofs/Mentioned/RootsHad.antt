-- A name that is used as a variable is a static constant, or its root is a variable that the core has where it says.
use Rattle.std.proofs.Common.{◌≡◌, ◌⊎◌, ℕ, zero, suc, ◌+◌, Bool, true, false, true≢false, eqb, List, [], ◌∷◌, ◌++◌, Option, Some, None, Ok, map, flat_map, refl, sym, ap, ◌∙◌, subst, inl, inr, is_some, position, if◌then◌else◌, arith}
use Rattle.std.specs.Option.{option_map}
use Rattle.std.specs.Prelude.{fold, slice_get, unwrap_or}
use Rattle.std.specs.List.{AllByRecursion, IsDistinct, enumerate_from, list_any, position_from}
use Rattle.std.proofs.lemmas.Bool.{false≢true, eq-eqb, eqb-true, or_cases, or_left, or_right}
use Rattle.std.proofs.lemmas.Iterator.Adapters.{position_from-zero}
use Rattle.std.proofs.lemmas.List.Concat.{flat_map-append}
use Rattle.std.proofs.lemmas.Option.{none-some, same_Some, slice_get-map}
use Rattle.sr_check_expr.specs.declared.facts.Facts.{Facts}
use Rattle.sr_check_expr.specs.Meanings.{is_constant}
use Rattle.sr_check_expr.specs.Naming.{decl_of as decl_meant}
use Rattle.sr_core.specs.declared.component.Component.{Component as CoreComponent}
use Rattle.sr_core.specs.declared.component.Core.{Core}
use Rattle.sr_core.specs.declared.owner.Home.TheVariants as home
use Rattle.sr_core.specs.declared.owner.Root.TheVariants as root
use Rattle.sr_core.specs.declared.statement.Scope.TheVariants.{Shared}
use Rattle.sr_core.specs.WellFormed as wf
use Rattle.sr_desugar.specs.Bodies.{in_body}
use Rattle.sr_desugar.specs.Core.{scene_of, standing, whole_of}
use Rattle.sr_desugar.specs.Declarations.{var_number}
use Rattle.sr_lower_expr.specs.declared.scene.Scene.{Scene}
use Rattle.sr_lower_expr.specs.Places.{home_of, import_place, own_root, root_of}
use Rattle.sr_names.proofs.LinkLemmas.{same_spot-refl}
use Rattle.sr_names.specs.declared.finding.Finding.TheVariants.{Use}
use Rattle.sr_names.specs.declared.meaning.Decl.{Decl}
use Rattle.sr_names.specs.declared.meaning.Meaning.TheVariants.{Declared}
use Rattle.sr_names.specs.declared.meaning.Sort.TheVariants.{Global as global_sort}
use Rattle.sr_names.specs.declared.spot.Spot.{Spot}
use Rattle.sr_names.specs.Scopes.{no_blocks, opened}
use Rattle.sr_names.specs.Searches.{At}
use Rattle.sr_names.specs.Spots.{same_spot, spot_of}
use Rattle.sr_names.specs.Tables.{declared_as}
use Rattle.sr_names.specs.Uses.{meaning_at}
use Rattle.sr_order.specs.Names.{component_names, file_names, formal_names as names_of_formal, item_names as names_of_item, spec_item_names}
use Rattle.sr_outline.specs.Numbers.{const_names, formal_names, initial_spots, item_shared, shared_spots, spec_item_shared}
use Rattle.sr_outline.specs.Outline.{global_spot, globals_named, imports_of as numbers_of, item_imports, member, spec_item_imports, with_number}
use Rattle.sr_scope.proofs.Findings.{in_either, in_flat, in_left, in_right}
use Rattle.sr_scope.proofs.FoundFiles.{one_meaning}
use Rattle.sr_scope.specs.Components.{imported_names, imports_of, items_imports, place_of, sort_of, specs_imports}
use Rattle.sr_scope.specs.declared.program.Names.{Names}
use Rattle.sr_scope.specs.Declarations.{quantifiers_found}
use Rattle.sr_scope.specs.Items.{inside, item_found, item_within, spec_found, spec_within}
use Rattle.sr_scope.specs.Resolved.{findings, program, resolved}
use Rattle.sr_scope.specs.Uses.{IsIn, OneMeaning}
use Rattle.sr_tables.specs.declared.sites.Mention.TheVariants as mention
use Rattle.sr_tables.specs.declared.tables.SharedVariable.{SharedVariable}
use Rattle.sr_tables.specs.Parts.{component_spot, components_in, in_component, in_item}
use Rattle.sr_tables.specs.Tables.{each_once, found_at, number_in, with_spots}
use Rattle.sr_tree.specs.declared.component.Component.{Component}
use Rattle.sr_tree.specs.declared.component.File.{File}
use Rattle.sr_tree.specs.declared.component.Item.{Item}
use Rattle.sr_tree.specs.declared.component.Item.TheVariants as item
use Rattle.sr_tree.specs.declared.component.Process.{Process}
use Rattle.sr_tree.specs.declared.component.SpecItem.{SpecItem}
use Rattle.sr_tree.specs.declared.component.SpecItem.TheVariants as spec
use Rattle.sr_tree.specs.declared.declaration.ConstDecl.{ConstDecl}
use Rattle.sr_tree.specs.declared.name.Name.{Name}
use Rattle.sr_tree.specs.Parts.{body_of, formals_of, spec_of}
use Rattle.sr_types.proofs.Places.{position-passes}
use Rattle.sr_value.specs.declared.place.Span.{Span}
use Rattle.sr_front.proofs.CoreComponents.{component_at}
use Rattle.sr_front.proofs.Known.Declared.{Apart, all_component_keys, one_component}
use Rattle.sr_front.proofs.Own.DeclaredIn.{Stands, const_stands, formals_stand, stands_left, stands_right, var_stands}
use Rattle.sr_front.proofs.Names.Findings.{import_means}
use Rattle.sr_front.proofs.Names.Globals.{declared_component, in_at}
use Rattle.sr_front.proofs.Lists.Members.{at_get}
use Rattle.sr_front.proofs.Lists.Numbered.{each_once_apart, number_at}
use Rattle.sr_front.proofs.Served.Operations.{core, imports, tables}
use Rattle.sr_front.proofs.Own.OwnOrShared.{IsShown, IsVariable, SpecsStatic, UsedVariable, is_variable, item_owns, used_send, used_spec, used_variable}
use Rattle.sr_front.proofs.Own.SharedTable.{IsEntry, entry_is, shared_found}
use Rattle.sr_front.proofs.Own.SharedVars.{IsValued, shared_numbered}
use Rattle.sr_front.proofs.Names.UsesVisible.{IsSeen, IsImported}
use Rattle.sr_front.specs.Variables.{has_variable, mention_had, shared_vars}

-- ---- lists

every : {A : Type 0} (Q : A → Type 0) (xs : List A) (x : A) → AllByRecursion Q xs → IsIn x xs → Q x
every Q [] x all k = absurd k
every Q (y ∷ xs) x all (inl e) = subst Q e all.0
every Q (y ∷ xs) x all (inr k) = every Q xs x all.1 k

pub placed : {A : Type 0} (xs : List A) (x : A) → IsIn x xs → (place : ℕ) × At xs place x
placed [] x k = absurd k
placed (y ∷ xs) x (inl e) = (0, e)
placed (y ∷ xs) x (inr k) = let more = placed xs x k in (suc more.0, more.1)

pub get_at : {A : Type 0} (xs : List A) (place : ℕ) (x : A) → slice_get xs place ≡ Some x → At xs place x
get_at [] place x e = absurd (none-some _ e)
get_at (y ∷ xs) zero x e = same_Some _ _ e
get_at (y ∷ xs) (suc place) x e = get_at xs place x e

numbered_in : {A : Type 0} (first : ℕ) (xs : List A) (number : ℕ) (x : A) → IsIn (number, x) (enumerate_from first xs) → (place : ℕ) × (number ≡ first + place) × At xs place x
numbered_in first [] number x k = absurd k
numbered_in {A = A} first (y ∷ xs) number x (inl e) = (0, sym (ap (λ (pair : ℕ × A). pair.0) e) ∙ omega arith, ap (λ (pair : ℕ × A). pair.1) e)
numbered_in first (y ∷ xs) number x (inr k) =
    let more = numbered_in (first + 1) xs number x k in
    let same = more.1 in
    (suc more.0, omega (arith, same), more.2)

listed_in : {A : Type 0} (first : ℕ) (xs : List A) (number : ℕ) (x : A) → IsIn (number, x) (enumerate_from first xs) → IsIn x xs
listed_in first [] number x k = absurd k
listed_in {A = A} first (y ∷ xs) number x (inl e) = inl (ap (λ (pair : ℕ × A). pair.1) e)
listed_in first (y ∷ xs) number x (inr k) = inr (listed_in (first + 1) xs number x k)

found_from : {A : Type 0} (test : A → Bool) (first : ℕ) (xs : List A) (x : A) → IsIn x xs → test x ≡ true → is_some (position_from test first xs) ≡ true
found_from test first [] x k is = absurd k
found_from test first (y ∷ xs) x k is = by (test y) refl k (λ h. found_from test (first + 1) xs x h is)
  where
    by : (b : Bool) → test y ≡ b → IsIn x (y ∷ xs) → (IsIn x xs → is_some (position_from test (first + 1) xs) ≡ true) → is_some (if b then Some first else position_from test (first + 1) xs) ≡ true
    by true e k more = refl
    by false e (inl same) more = absurd (false≢true (sym e ∙ ap test same ∙ is))
    by false e (inr k) more = more k

found_in : {A : Type 0} (test : A → Bool) (xs : List A) (x : A) → IsIn x xs → test x ≡ true → is_some (position test xs) ≡ true
found_in test xs x k is = ap is_some (position_from-zero test xs) ∙ found_from test 0 xs x k is

member_from : (n : ℕ) (ns : List ℕ) → IsIn n ns → wf.member n ns ≡ true
member_from n [] k = absurd k
member_from n (m ∷ ns) (inl e) = or_left (eqb m n) (wf.member n ns) (eq-eqb m n e)
member_from n (m ∷ ns) (inr k) = or_right (eqb m n) (wf.member n ns) (member_from n ns k)

-- ---- numbers, each once

member_in : (n : ℕ) (ns : List ℕ) → member n ns ≡ true → IsIn n ns
member_in n [] h = absurd (false≢true h)
member_in n (m ∷ ns) h = by (or_cases (eqb n m) (member n ns) h) (member_in n ns)
  where
    by : (eqb n m ≡ true) ⊎ (member n ns ≡ true) → (member n ns ≡ true → IsIn n ns) → IsIn n (m ∷ ns)
    by (inl e) more = inl (sym (eqb-true n m e))
    by (inr k) more = inr (more k)

number_stays : (n : ℕ) (ns there : List ℕ) → IsIn n there → IsIn n (fold with_number there ns)
number_stays n [] there k = k
number_stays n (m ∷ ns) there k = number_stays n ns (with_number there m) (by (member m there))
  where
    by : (b : Bool) → IsIn n (if b then there else there ++ m ∷ [])
    by true = k
    by false = in_left n there (m ∷ []) k

number_put : (n : ℕ) (ns there : List ℕ) → IsIn n ns → IsIn n (fold with_number there ns)
number_put n [] there k = absurd k
number_put n (m ∷ ns) there (inr k) = number_put n ns (with_number there m) k
number_put n (m ∷ ns) there (inl e) = number_stays n ns (with_number there m) (by (member m there) refl)
  where
    by : (b : Bool) → member m there ≡ b → IsIn n (if b then there else there ++ m ∷ [])
    by true is = member_in n there (subst (λ one. member one there ≡ true) e is)
    by false is = in_right n there (m ∷ []) (inl e)

-- ---- spots, each once

once_from : (spot : Spot) (spots there : List Spot) → IsIn spot (with_spots there spots) → IsIn spot there ⊎ IsIn spot spots
once_from spot [] there k = inl k
once_from spot (one ∷ spots) there k = by (list_any (same_spot one) there) (once_from spot spots (if list_any (same_spot one) there then there else there ++ one ∷ []) k)
  where
    last : IsIn spot there ⊎ ((one ≡ spot) ⊎ ⊥) → IsIn spot there ⊎ IsIn spot (one ∷ spots)
    last (inl h) = inl h
    last (inr (inl e)) = inr (inl e)
    last (inr (inr h)) = absurd h

    by : (b : Bool) → IsIn spot (if b then there else there ++ one ∷ []) ⊎ IsIn spot spots → IsIn spot there ⊎ IsIn spot (one ∷ spots)
    by b (inr h) = inr (inr h)
    by true (inl h) = inl h
    by false (inl h) = last (in_either spot there (one ∷ []) h)

among_all : (spot : Spot) (spots : List Spot) → IsIn spot (each_once spots) → IsIn spot spots
among_all spot spots k = by (once_from spot spots [] k)
  where
    by : ⊥ ⊎ IsIn spot spots → IsIn spot spots
    by (inl h) = absurd h
    by (inr h) = h

-- ---- imports

module _ {A : Type 0} (of : Name → List A) where
  name_in_item : (inner : SpecItem) (name : Name) (a : A) → IsIn name (imported_names inner) → IsIn a (of name) → IsIn a (flat_map of (spec_item_imports inner))
  name_in_item (spec.Import declared) name a k h = in_flat of name a declared.names k h
  name_in_item _ name a k h = absurd k

  abbrev part : SpecItem → List A
  part inner = flat_map of (spec_item_imports inner)

  name_in_specs : (items : List SpecItem) (name : Name) (a : A) → IsIn name (specs_imports items) → IsIn a (of name) → IsIn a (flat_map part items)
  name_in_specs [] name a k h = absurd k
  name_in_specs (inner ∷ items) name a k h = by (in_either name (imported_names inner) (specs_imports items) k) (λ more. name_in_specs items name a more h)
    where
      by : IsIn name (imported_names inner) ⊎ IsIn name (specs_imports items) → (IsIn name (specs_imports items) → IsIn a (flat_map part items)) → IsIn a (part inner ++ flat_map part items)
      by (inl k) more = in_left a (part inner) (flat_map part items) (name_in_item inner name a k h)
      by (inr k) more = in_right a (part inner) (flat_map part items) (more k)

  name_in_items : (items : List Item) (name : Name) (a : A) → IsIn name (items_imports items) → IsIn a (of name) → IsIn a (flat_map (in_item part) items)
  name_in_items [] name a k h = absurd k
  name_in_items (item.Spec inner ∷ items) name a k h = by (in_either name (imported_names inner) (items_imports items) k) (λ more. name_in_items items name a more h)
    where
      by : IsIn name (imported_names inner) ⊎ IsIn name (items_imports items) → (IsIn name (items_imports items) → IsIn a (flat_map (in_item part) items))
          → IsIn a (part inner ++ flat_map (in_item part) items)
      by (inl k) more = in_left a (part inner) (flat_map (in_item part) items) (name_in_item inner name a k h)
      by (inr k) more = in_right a (part inner) (flat_map (in_item part) items) (more k)
  name_in_items (item.Proc proc ∷ items) name a k h = name_in_items items name a k h
  name_in_items (item.Procedure procedure ∷ items) name a k h = name_in_items items name a k h
  name_in_items (item.Process process ∷ items) name a k h = name_in_items items name a k h
  name_in_items (item.Final final ∷ items) name a k h = name_in_items items name a k h
  name_in_items (item.Statement statement ∷ items) name a k h = name_in_items items name a k h

  name_in : (component : Component) (name : Name) (a : A) → IsIn name (imports_of component) → IsIn a (of name) → IsIn a (in_component part component)
  name_in component name a k h = by (in_either name (specs_imports (spec_of component)) (items_imports (body_of component)) k)
    where
      by : IsIn name (specs_imports (spec_of component)) ⊎ IsIn name (items_imports (body_of component)) → IsIn a (in_component part component)
      by (inl k) = in_left a (flat_map part (spec_of component)) (flat_map (in_item part) (body_of component)) (name_in_specs (spec_of component) name a k h)
      by (inr k) = in_right a (flat_map part (spec_of component)) (flat_map (in_item part) (body_of component)) (name_in_items (body_of component) name a k h)

global_at : (d : Decl) → d.sort ≡ global_sort → global_spot (Some d) ≡ d.spot ∷ []
global_at d is = rw is refl

-- ---- where shared variables stand

module _ (facts : Facts) where
  pub spec_stands : (one : SpecItem) (spot : Spot) → IsIn spot (spec_item_shared facts one) → Stands spot (spec_item_names one)
  spec_stands (spec.Const constant) spot k = const_stands facts constant spot k
  spec_stands (spec.Var variables) spot k = var_stands variables spot k
  spec_stands _ spot k = absurd k

  pub item_stands : (one : Item) (spot : Spot) → IsIn spot (item_shared facts one) → Stands spot (names_of_item one)
  item_stands (item.Spec declared) spot k = spec_stands declared spot k
  item_stands _ spot k = absurd k

  pub all_stand : {A : Type 0} (spots : A → List Spot) (names : A → List Span) → ((a : A) (spot : Spot) → IsIn spot (spots a) → Stands spot (names a))
      → (items : List A) (spot : Spot) → IsIn spot (flat_map spots items) → Stands spot (flat_map names items)
  all_stand spots names stands [] spot k = absurd k
  all_stand spots names stands (a ∷ items) spot k = by (in_either spot (spots a) (flat_map spots items) k) (all_stand spots names stands items spot)
    where
      by : IsIn spot (spots a) ⊎ IsIn spot (flat_map spots items) → (IsIn spot (flat_map spots items) → Stands spot (flat_map names items)) → Stands spot (names a ++ flat_map names items)
      by (inl h) more = stands_left spot (names a) (flat_map names items) (stands a spot h)
      by (inr h) more = stands_right spot (names a) (flat_map names items) (more h)

  -- all but its name
  abbrev pub within : Component → List Span
  within component = flat_map spec_item_names (spec_of component) ++ (flat_map names_of_formal (formals_of component) ++ flat_map names_of_item (body_of component))

  pub shared_within : (component : Component) (spot : Spot) → IsIn spot (shared_spots facts component) → Stands spot (within component)
  shared_within component spot k = by (in_either spot (formal_names (formals_of component)) _ k)
    where
      specs : List Span
      specs = flat_map spec_item_names (spec_of component)

      formals : List Span
      formals = flat_map names_of_formal (formals_of component)

      items : List Span
      items = flat_map names_of_item (body_of component)

      last : IsIn spot (flat_map (spec_item_shared facts) (spec_of component)) ⊎ IsIn spot (flat_map (item_shared facts) (body_of component)) → Stands spot (specs ++ (formals ++ items))
      last (inl h) = stands_left spot specs (formals ++ items) (all_stand (spec_item_shared facts) spec_item_names spec_stands (spec_of component) spot h)
      last (inr h) = stands_right spot specs (formals ++ items) (stands_right spot formals items (all_stand (item_shared facts) names_of_item item_stands (body_of component) spot h))

      by : IsIn spot (formal_names (formals_of component)) ⊎ IsIn spot (flat_map (spec_item_shared facts) (spec_of component) ++ flat_map (item_shared facts) (body_of component))
          → Stands spot (specs ++ (formals ++ items))
      by (inl h) = stands_right spot specs (formals ++ items) (stands_left spot formals items (formals_stand (formals_of component) spot h))
      by (inr h) = last (in_either spot (flat_map (spec_item_shared facts) (spec_of component)) (flat_map (item_shared facts) (body_of component)) h)

  shared_stands : (component : Component) (spot : Spot) → IsIn spot (shared_spots facts component) → Stands spot (component_names component)
  shared_stands component spot k = inr (shared_within component spot k)

-- ---- a name stands in one component

pub apart_parts : (xs ys : List Span) (spot : Spot) → IsDistinct same_spot (map spot_of (xs ++ ys)) → Stands spot xs → Stands spot ys → ⊥
unfolding IsDistinct
apart_parts [] ys spot distinct a b = a
apart_parts (x ∷ xs) ys spot distinct (inl e) b =
    true≢false (sym (same_spot-refl spot) ∙ subst (λ one. same_spot one spot ≡ false) e (every (λ other. same_spot (spot_of x) other ≡ false) (map spot_of (xs ++ ys)) spot distinct.0 (stands_right spot xs ys b)))
apart_parts (x ∷ xs) ys spot distinct (inr a) b = apart_parts xs ys spot distinct.1 a b

pub after_part : (xs ys : List Span) → IsDistinct same_spot (map spot_of (xs ++ ys)) → IsDistinct same_spot (map spot_of ys)
unfolding IsDistinct
after_part [] ys distinct = distinct
after_part (x ∷ xs) ys distinct = after_part xs ys distinct.1

stands_at : (all : List Component) (place : ℕ) (one : Component) (spot : Spot) → At all place one → Stands spot (component_names one) → Stands spot (flat_map component_names all)
stands_at [] place one spot h k = absurd h
stands_at (first ∷ all) zero one spot h k = stands_left spot (component_names first) (flat_map component_names all) (subst (λ it. Stands spot (component_names it)) (sym h) k)
stands_at (first ∷ all) (suc place) one spot h k = stands_right spot (component_names first) (flat_map component_names all) (stands_at all place one spot h k)

pub one_place : (all : List Component) → IsDistinct same_spot (map spot_of (flat_map component_names all)) → (a b : ℕ) (one other : Component) → At all a one → At all b other → (spot : Spot)
    → Stands spot (component_names one) → Stands spot (component_names other) → a ≡ b
one_place [] distinct a b one other p q spot h k = absurd p
one_place (first ∷ all) distinct zero zero one other p q spot h k = refl
one_place (first ∷ all) distinct zero (suc b) one other p q spot h k =
    absurd (apart_parts (component_names first) (flat_map component_names all) spot distinct (subst (λ it. Stands spot (component_names it)) (sym p) h) (stands_at all b other spot q k))
one_place (first ∷ all) distinct (suc a) zero one other p q spot h k =
    absurd (apart_parts (component_names first) (flat_map component_names all) spot distinct (subst (λ it. Stands spot (component_names it)) (sym q) k) (stands_at all a one spot p h))
one_place (first ∷ all) distinct (suc a) (suc b) one other p q spot h k =
    ap suc (one_place all (after_part (component_names first) (flat_map component_names all) distinct) a b one other p q spot h k)

names_in_files : (files : List File) → flat_map file_names files ≡ flat_map component_names (components_in files)
names_in_files [] = refl
names_in_files (file ∷ files) = (λ i. file_names file ++ names_in_files files i) ∙ sym (flat_map-append component_names file.components (components_in files))

-- ---- what is shared doesn't depend on where the facts stand

module _ (facts : Facts) (here : Component) where
  abbrev stood : Facts
  stood = standing facts here

  same_const : (constant : ConstDecl) → const_names stood constant ≡ const_names facts constant
  unfolding const_names
  same_const constant = refl

  same_spec : (one : SpecItem) → spec_item_shared stood one ≡ spec_item_shared facts one
  same_spec (spec.Const constant) = same_const constant
  same_spec _ = refl

  same_item : (one : Item) → item_shared stood one ≡ item_shared facts one
  same_item (item.Spec declared) = same_spec declared
  same_item _ = refl

  same_flat : {A : Type 0} (f g : A → List Spot) → ((a : A) → f a ≡ g a) → (xs : List A) → flat_map f xs ≡ flat_map g xs
  same_flat f g same [] = refl
  same_flat f g same (x ∷ xs) = λ i. same x i ++ same_flat f g same xs i

  same_shared : (component : Component) → shared_spots stood component ≡ shared_spots facts component
  same_shared component =
      λ i. formal_names (formals_of component)
      ++ (same_flat (spec_item_shared stood) (spec_item_shared facts) same_spec (spec_of component) i ++ same_flat (item_shared stood) (item_shared facts) same_item (body_of component) i)

-- ---- roots

root_found : (scene : Scene) (spot : Spot) (variable : SharedVariable) → found_at scene.tables.shared spot ≡ Some variable → root_of scene spot ≡ root.Shared (home_of scene variable.component) variable.var
root_found scene spot variable found = rw found refl

root_none : (scene : Scene) (spot : Spot) → found_at scene.tables.shared spot ≡ None → root_of scene spot ≡ own_root scene spot
root_none scene spot found = rw found refl

number_found : (scene : Scene) (spot : Spot) (variable : SharedVariable) → found_at scene.tables.shared spot ≡ Some variable → var_number scene Shared spot ≡ variable.var
number_found scene spot variable found = rw found refl

own_found : (scene : Scene) (spot : Spot) (var : ℕ) → position (same_spot spot) scene.own ≡ Some var → own_root scene spot ≡ root.Own var
own_found scene spot var found = rw found refl

home_here : (scene : Scene) (number : ℕ) → eqb number scene.component ≡ true → home_of scene number ≡ home.Mine
home_here scene number is = rw is refl

home_there : (scene : Scene) (number import : ℕ) → eqb number scene.component ≡ false → import_place scene number ≡ Some import → home_of scene number ≡ home.Imported import
home_there scene number import is found = rw is (rw found refl)

imported_has : (core : Core) (component meant : CoreComponent) (import number var : ℕ) → slice_get component.imports import ≡ Some number → slice_get core.components number ≡ Some meant
    → has_variable core component (home.Imported import) var ≡ wf.member var (shared_vars meant)
imported_has core component meant import number var at there = rw at (rw there refl)

-- ---- the rules of an accepted program that this rests on

pub record SharedRules (files : List File) (facts : Facts) : Type 0 where
  pub specs : SpecsStatic files facts
  pub values : (component : Component) → IsIn component (components_in files) → IsValued component

-- a root passes the test that `mention_had` is
abbrev pub RootHad : List File → Facts → ℕ → Component → List Spot → Spot → Type 0
RootHad files facts number component own spot =
    mention_had (core files facts) (whole_of facts (tables files facts) (imports files facts) (number, component)).component
    (mention.Variable (root_of (in_body (scene_of facts (tables files facts) (imports files facts) number component) own) spot)) ≡ true

-- what a name means that is used, and that it is a static constant where it is used as a variable, or its root passes the test
pub record UseHad (files : List File) (facts : Facts) (number : ℕ) (component : Component) (own : List Spot) (spot : Spot) (decl : Decl) : Type 0 where
  pub means : meaning_at facts.uses spot ≡ Some (Declared decl)
  pub root : is_variable decl.sort ≡ true → (is_constant facts decl.spot ≡ true) ⊎ RootHad files facts number component own decl.spot

module _ (files : List File) (names : Names) (named : resolved files ≡ Ok names) (facts : Facts) (kept : facts.uses ≡ names.uses)
    (distinct : IsDistinct same_spot (map spot_of (flat_map file_names files))) (apart : Apart files) (rules : SharedRules files facts) where
  abbrev all : List Component
  all = components_in files

  single : OneMeaning (findings files)
  single = one_meaning files distinct

  pub all_distinct : IsDistinct same_spot (map spot_of (flat_map component_names all))
  all_distinct = subst (λ spans. IsDistinct same_spot (map spot_of spans)) (names_in_files files) distinct

  keys_distinct : IsDistinct same_spot (map component_spot all)
  keys_distinct = subst (IsDistinct same_spot) (all_component_keys files) apart.components

  -- the number of a component is its place
  pub key_number : (place : ℕ) (one : Component) → At all place one → number_in (tables files facts).components (component_spot one) ≡ place
  key_number place one h =
      subst (λ spots. number_in spots (component_spot one) ≡ place) (sym (each_once_apart (map component_spot all) keys_distinct))
      (number_at (map component_spot all) place (component_spot one) keys_distinct (slice_get-map component_spot all place ∙ ap (λ found. option_map component_spot found) (at_get all place one h)))

  -- the component that is meant has what the table has
  meant_has : (number : ℕ) (component : Component) (spot : Spot) (variable : SharedVariable) → slice_get all number ≡ Some component → IsIn spot (shared_spots facts component)
      → found_at (tables files facts).shared spot ≡ Some variable → wf.member variable.var (shared_vars (whole_of facts (tables files facts) (imports files facts) (number, component)).component) ≡ true
  meant_has number component spot variable here among found =
      let scene = scene_of facts (tables files facts) (imports files facts) number component in
      let made = (whole_of facts (tables files facts) (imports files facts) (number, component)).component in
      let there = rules.values component (in_at all number component here) in
      member_from variable.var (shared_vars made)
      (subst (λ var. IsIn var (shared_vars made)) (number_found scene spot variable found)
      (shared_numbered facts (tables files facts) (imports files facts) number component there spot (subst (IsIn spot) (sym (same_shared facts component component)) among)))

  -- where the component of an entry stands
  pub entry_at : (spot : Spot) (variable : SharedVariable) (entry : IsEntry facts all spot variable) → At all variable.component entry.component
  entry_at spot variable entry =
      let at = numbered_in 0 all variable.component entry.component entry.numbered in
      let first : 0 + at.0 ≡ at.0 = omega arith in
      subst (λ n. At all n entry.component) (sym (at.1 ∙ first)) at.2

  pub entry_among : (spot : Spot) (variable : SharedVariable) (entry : IsEntry facts all spot variable) → IsIn spot (shared_spots facts entry.component)
  entry_among spot variable entry =
      among_all spot (shared_spots facts entry.component) (listed_in 0 (each_once (shared_spots facts entry.component)) variable.var spot entry.place)

  pub entry_stands : (spot : Spot) (variable : SharedVariable) (entry : IsEntry facts all spot variable) → Stands spot (component_names entry.component)
  entry_stands spot variable entry = shared_stands facts entry.component spot (entry_among spot variable entry)

  module _ (number : ℕ) (component : Component) (here : slice_get all number ≡ Some component) where
    abbrev made : CoreComponent
    made = (whole_of facts (tables files facts) (imports files facts) (number, component)).component

    abbrev scene : Scene
    scene = scene_of facts (tables files facts) (imports files facts) number component

    there : IsIn component all
    there = in_at all number component here

    place : At all number component
    place = get_at all number component here

    rules_here : SpecsStatic files (standing facts component)
    rules_here = record { no_vars = rules.specs.no_vars; static = rules.specs.static }

    -- ---- imports

    imports_are : scene.imports ≡ numbers_of facts (tables files facts).components component
    imports_are = ap (λ found. unwrap_or found []) (slice_get-map (numbers_of facts (tables files facts).components) all number ∙ ap (λ found. option_map (numbers_of facts (tables files facts).components) found) here)

    pub imported_number : (d : Decl) → IsImported files component d → d.sort ≡ global_sort → IsIn (number_in (tables files facts).components d.spot) scene.imports
    imported_number d k is =
        subst (IsIn (number_in (tables files facts).components d.spot)) (sym imports_are)
        (number_put (number_in (tables files facts).components d.spot) (in_component (item_imports facts (tables files facts).components) component) []
        (name_in (globals_named facts (tables files facts).components) component k.name (number_in (tables files facts).components d.spot) k.among named_so))
      where
        meant : (one : Decl) × (declared_as (program files).components k.name.text ≡ Some one) × (meaning_at names.uses (spot_of k.name.span) ≡ Some (Declared one))
        meant = import_means files names named single k.name component there k.among

        means : meaning_at facts.uses (spot_of k.name.span) ≡ Some (Declared d)
        means = ap (λ uses. meaning_at uses (spot_of k.name.span)) kept ∙ meant.2 ∙ ap (λ one. Some (Declared one)) (same_Some _ _ (sym meant.1 ∙ k.is))

        spots : global_spot (decl_meant (meaning_at facts.uses (spot_of k.name.span))) ≡ d.spot ∷ []
        spots = ap (λ meaning. global_spot (decl_meant meaning)) means ∙ global_at d is

        named_so : IsIn (number_in (tables files facts).components d.spot) (globals_named facts (tables files facts).components k.name)
        named_so = subst (λ list. IsIn (number_in (tables files facts).components d.spot) (map (number_in (tables files facts).components) list)) (sym spots) (inl refl)

    -- ---- the test

    -- a variable of this component or of one that it imports is had
    pub home_had : (spot : Spot) (variable : SharedVariable) → found_at (tables files facts).shared spot ≡ Some variable → IsEntry facts all spot variable
        → (variable.component ≡ number) ⊎ IsIn variable.component scene.imports → has_variable (core files facts) made (home_of scene variable.component) variable.var ≡ true
    home_had spot variable found entry is = by (eqb variable.component number) refl is
      where
        at : slice_get all variable.component ≡ Some entry.component
        at = at_get all variable.component entry.component (entry_at spot variable entry)

        has : wf.member variable.var (shared_vars (whole_of facts (tables files facts) (imports files facts) (variable.component, entry.component)).component) ≡ true
        has = meant_has variable.component entry.component spot variable at (entry_among spot variable entry) found

        mine : variable.component ≡ number → wf.member variable.var (shared_vars made) ≡ true
        mine same =
            let one : entry.component ≡ component = same_Some _ _ (sym at ∙ ap (λ n. slice_get all n) same ∙ here) in
            subst (λ (pair : ℕ × Component). wf.member variable.var (shared_vars (whole_of facts (tables files facts) (imports files facts) pair).component) ≡ true) (λ i. (same i, one i)) has

        imported : (import : Option ℕ) → eqb variable.component number ≡ false → import_place scene variable.component ≡ import → is_some import ≡ true
            → has_variable (core files facts) made (home_of scene variable.component) variable.var ≡ true
        imported None e p is = absurd (false≢true is)
        imported (Some import) e p is =
            let passes = position-passes (λ one. eqb one variable.component) scene.imports import p in
            let same = eqb-true passes.0 variable.component passes.2 in
            ap (λ whose. has_variable (core files facts) made whose variable.var) (home_there scene variable.component import e p)
            ∙ (imported_has (core files facts) made (whole_of facts (tables files facts) (imports files facts) (variable.component, entry.component)).component import variable.component variable.var
            (passes.1 ∙ ap Some same) (component_at facts (tables files facts) (imports files facts) all variable.component entry.component at) ∙ has)

        by : (b : Bool) → eqb variable.component number ≡ b → (variable.component ≡ number) ⊎ IsIn variable.component scene.imports
            → has_variable (core files facts) made (home_of scene variable.component) variable.var ≡ true
        by true e which =
            ap (λ whose. has_variable (core files facts) made whose variable.var) (home_here scene variable.component e) ∙ mine (eqb-true variable.component number e)
        by false e (inl same) = absurd (false≢true (sym e ∙ eq-eqb variable.component number same))
        by false e (inr k) =
            imported (import_place scene variable.component) e refl
            (found_in (λ one. eqb one variable.component) scene.imports variable.component k (eq-eqb variable.component variable.component refl))

    -- ---- where a name is found

    found_had : (spot : Spot) (variable : SharedVariable) → found_at (tables files facts).shared spot ≡ Some variable → (own : List Spot) → IsVariable files (standing facts component) component own spot
        → (is_constant facts spot ≡ true) ⊎ RootHad files facts number component own spot
    found_had spot variable found own is = by is
      where
        entry : IsEntry facts all spot variable
        entry = entry_is facts all spot variable found

        at : At all variable.component entry.component
        at = entry_at spot variable entry

        stands : Stands spot (component_names entry.component)
        stands = entry_stands spot variable entry

        whose : (variable.component ≡ number) ⊎ IsIn variable.component scene.imports → RootHad files facts number component own spot
        whose which =
            ap (λ one. mention_had (core files facts) made (mention.Variable one)) (root_found (in_body scene own) spot variable found) ∙ home_had spot variable found entry which

        here_so : Stands spot (component_names component) → RootHad files facts number component own spot
        here_so k = whose (inl (one_place all all_distinct variable.component number entry.component component at place spot stands k))

        shown_at : (h : IsShown files (standing facts component) component spot) → (place : ℕ) × At all place h.component × (place ≡ variable.component)
        shown_at h =
            let there = placed all h.component h.there in
            let among = subst (IsIn spot) (same_shared facts component h.component) h.among in
            (there.0, there.1, one_place all all_distinct there.0 variable.component h.component entry.component there.1 at spot (shared_stands facts h.component spot among) stands)

        global_is : (h : IsShown files (standing facts component) component spot) → IsImported files component h.shower → h.shower.sort ≡ global_sort
        global_is h k =
            let there = shown_at h in
            let named = declared_component files k.name.text h.shower k.is in
            let stood = placed all named.0 named.1 in
            let same = one_component files stood.0 there.0 named.0 h.component apart stood.1 there.1 (ap (λ (d : Decl). d.spot) named.2 ∙ sym h.at) in
            let one : named.0 ≡ h.component = same_Some _ _ (sym (at_get all stood.0 named.0 stood.1) ∙ ap (λ n. slice_get all n) same ∙ at_get all there.0 h.component there.1) in
            sym (ap (λ (d : Decl). d.sort) named.2) ∙ (ap sort_of one ∙ h.global)

        shown : (h : IsShown files (standing facts component) component spot) → IsSeen files component h.shower → (variable.component ≡ number) ⊎ IsIn variable.component scene.imports
        shown h (inl e) =
            let there = shown_at h in
            inl (sym there.2 ∙ one_component files there.0 number h.component component apart there.1 place (h.at ∙ ap (λ (d : Decl). d.spot) e))
        shown h (inr k) =
            let there = shown_at h in
            let number_is : number_in (tables files facts).components h.shower.spot ≡ there.0 =
            subst (λ spot. number_in (tables files facts).components spot ≡ there.0) h.at (key_number there.0 h.component there.1) in
            inr (subst (λ n. IsIn n scene.imports) (number_is ∙ there.2) (imported_number h.shower k (global_is h k)))

        by : IsVariable files (standing facts component) component own spot → (is_constant facts spot ≡ true) ⊎ RootHad files facts number component own spot
        by (inl owned) = inr (here_so owned.1)
        by (inr (inl h)) = inr (here_so (shared_stands facts component spot (subst (IsIn spot) (same_shared facts component component) h)))
        by (inr (inr (inl h))) = inr (whose (shown h h.seen))
        by (inr (inr (inr h))) = inl h

    pub own_had : (own : List Spot) (spot : Spot) → IsIn spot own → mention_had (core files facts) made (mention.Variable (own_root (in_body scene own) spot)) ≡ true
    own_had own spot k = by (position (same_spot spot) own) refl (found_in (same_spot spot) own spot k (same_spot-refl spot))
      where
        by : (found : Option ℕ) → position (same_spot spot) own ≡ found → is_some found ≡ true → mention_had (core files facts) made (mention.Variable (own_root (in_body scene own) spot)) ≡ true
        by None e is = absurd (false≢true is)
        by (Some var) e is = ap (λ one. mention_had (core files facts) made (mention.Variable one)) (own_found (in_body scene own) spot var e)

    none_had : (spot : Spot) → found_at (tables files facts).shared spot ≡ None → (own : List Spot) → IsVariable files (standing facts component) component own spot
        → (is_constant facts spot ≡ true) ⊎ RootHad files facts number component own spot
    none_had spot none own is = by is
      where
        not_there : (one : Component) → IsIn one all → IsIn spot (shared_spots (standing facts component) one) → ⊥
        not_there one among k = false≢true (sym (ap is_some none) ∙ shared_found facts all one among spot (subst (IsIn spot) (same_shared facts component one) k))

        by : IsVariable files (standing facts component) component own spot → (is_constant facts spot ≡ true) ⊎ RootHad files facts number component own spot
        by (inl owned) = inr (ap (λ one. mention_had (core files facts) made (mention.Variable one)) (root_none (in_body scene own) spot none) ∙ own_had own spot owned.0)
        by (inr (inl h)) = absurd (not_there component there h)
        by (inr (inr (inl h))) = absurd (not_there h.component h.there h.among)
        by (inr (inr (inr h))) = inl h

    variable_had : (own : List Spot) (spot : Spot) → IsVariable files (standing facts component) component own spot → (is_constant facts spot ≡ true) ⊎ RootHad files facts number component own spot
    variable_had own spot is = by (found_at (tables files facts).shared spot) refl
      where
        by : (found : Option SharedVariable) → found_at (tables files facts).shared spot ≡ found → (is_constant facts spot ≡ true) ⊎ RootHad files facts number component own spot
        by None e = none_had spot e own is
        by (Some variable) e = found_had spot variable e own is

    -- ---- uses

    had : (own : List Spot) (spot : Spot) (decl : Decl) → UsedVariable files names named single (standing facts component) rules_here component there own spot decl
        → UseHad files facts number component own spot decl
    had own spot decl used = record {
      means = ap (λ uses. meaning_at uses spot) kept ∙ used.means;
      root = λ is. variable_had own decl.spot (used.variable is);
    }

    pub use_had : (one : Item) → IsIn one (body_of component) → (spot : Spot) (decl : Decl)
        → IsIn (Use spot (Declared decl)) (item_found one (inside (place_of (program files).components (program files).specs component) (item_within one)) no_blocks)
        → UseHad files facts number component (item_owns (standing facts component) component one) spot decl
    use_had one among spot decl k =
        had (item_owns (standing facts component) component one) spot decl (used_variable files names named single (standing facts component) rules_here component there one among spot decl k)

    pub send_use_had : (process : Process) → IsIn (item.Process process) (body_of component) → (spot : Spot) (decl : Decl)
        → IsIn (Use spot (Declared decl)) (quantifiers_found process.quantifiers (inside (place_of (program files).components (program files).specs component) (item_within (item.Process process))) (opened no_blocks))
        → UseHad files facts number component (initial_spots (standing facts component) component) spot decl
    send_use_had process among spot decl k =
        had (initial_spots (standing facts component) component) spot decl (used_send files names named single (standing facts component) rules_here component there process among spot decl k)

    pub spec_use_had : (one : SpecItem) → IsIn one (spec_of component) → (spot : Spot) (decl : Decl)
        → IsIn (Use spot (Declared decl)) (spec_found one (inside (place_of (program files).components (program files).specs component) (spec_within one)) no_blocks)
        → UseHad files facts number component (initial_spots (standing facts component) component) spot decl
    spec_use_had one among spot decl k =
        had (initial_spots (standing facts component) component) spot decl (used_spec files names named single (standing facts component) rules_here component there one among spot decl k)
