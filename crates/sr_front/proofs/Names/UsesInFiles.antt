-- A name that means a resource means one of the components of the program.
use Rattle.std.proofs.Common.{◌≡◌, ◌⊎◌, true, false, List, [], ◌∷◌, ◌++◌, Option, Some, None, Ok, map, flat_map, refl, sym, ap, ◌∙◌, subst, inl, inr, not}
use Rattle.std.specs.Option.{option_map}
use Rattle.std.proofs.lemmas.Bool.{false≢true, true≢false}
use Rattle.sr_names.proofs.Marking.{entry-same, entry-other, same_spot-cases}
use Rattle.sr_names.specs.declared.diagnostics.Diagnostics.{Diagnostics}
use Rattle.sr_names.specs.declared.finding.Finding.{Finding}
use Rattle.sr_names.specs.declared.finding.Finding.TheVariants.{Use, Broken}
use Rattle.sr_names.specs.declared.meaning.Decl.{Decl}
use Rattle.sr_names.specs.declared.meaning.Meaning.{Meaning}
use Rattle.sr_names.specs.declared.meaning.Meaning.TheVariants.{Declared}
use Rattle.sr_names.specs.declared.meaning.Sort.{Sort}
use Rattle.sr_names.specs.declared.meaning.Sort.TheVariants.{Constant, Literal, «Type» as type_sort, OpType as optype_sort, Variable, Operation, Resource as resource_sort}
use Rattle.sr_names.specs.declared.place.Place.{Place}
use Rattle.sr_names.specs.declared.spot.Spot.{Spot}
use Rattle.sr_names.specs.Cycles.{all_cycles_found, links_of}
use Rattle.sr_names.specs.Diagnostics.{all_noted, noted, nothing}
use Rattle.sr_names.specs.Noted.{Meanings}
use Rattle.sr_names.specs.Readings.{declaration, reading}
use Rattle.sr_names.specs.Scopes.{no_blocks}
use Rattle.sr_names.specs.Spots.{same_spot, spot_of}
use Rattle.sr_names.specs.Tables.{declared_as}
use Rattle.sr_names.specs.Uses.{meaning_at, with_use}
use Rattle.sr_tree.specs.declared.component.Component.{Component}
use Rattle.sr_tree.specs.declared.component.File.{File}
use Rattle.sr_tree.specs.declared.component.Item.{Item}
use Rattle.sr_tree.specs.declared.component.Item.TheVariants as item
use Rattle.sr_tree.specs.declared.component.SpecItem.{SpecItem}
use Rattle.sr_tree.specs.declared.component.SpecItem.TheVariants as spec
use Rattle.sr_tree.specs.declared.name.Name.{Name}
use Rattle.sr_tree.specs.Parts.{body_of, formals_of, spec_of}
use Rattle.sr_value.specs.declared.place.Span.{Span}
use Rattle.sr_scope.specs.Components.{decl_of, component_found, components_found, files_collected_twice, files_found, files_imports, imports_found, imports_of, main_found, own_twice, place_of}
use Rattle.sr_scope.specs.Declarations.{var_names}
use Rattle.sr_scope.specs.Declares.{op_name}
use Rattle.sr_scope.specs.Items.{inside, item_found, item_within, items_found, served_twice, spec_found, spec_within, specs_found}
use Rattle.sr_scope.specs.Literals.{literals_of}
use Rattle.sr_scope.specs.Procs.{semaphore_names}
use Rattle.sr_scope.specs.declared.program.Names.{Names}
use Rattle.sr_scope.specs.Names.{is_component}
use Rattle.sr_scope.specs.Resolved.{findings, no_place, program, resolved}
use Rattle.sr_scope.specs.Types.{formal_read, formals_found}
use Rattle.sr_scope.specs.Uses.{IsIn}
use Rattle.sr_scope.proofs.Findings.{in_either, in_left, in_right, uses_noted}
use Rattle.sr_scope.proofs.Meant.{IsComponent}
use Rattle.sr_scope.proofs.OwnNames.{formal_own, item_own, own_names, spec_own}
use Rattle.sr_scope.proofs.Tables.{sorted}
use Rattle.sr_check_expr.specs.PredefinedCalls.{is_resource}
use Rattle.sr_front.proofs.Own.DeclaredIn.{item_operations, item_variables}
use Rattle.sr_front.proofs.Known.KeptNames.{Anywhere, all_fit}
use Rattle.sr_front.proofs.Names.UsesInExprs as exprs
use Rattle.sr_front.proofs.Names.UsesInItems as items
use Rattle.sr_front.proofs.Names.UsesInStatements.{is_inner}
use Rattle.sr_front.proofs.Names.UsesOutside as outside
use Rattle.sr_front.proofs.Names.UsesTwice as twice
use Rattle.sr_tables.specs.Parts.{components_in}
use Rattle.sr_check_expr.specs.declared.facts.Facts.{Facts}

-- a declaration of a resource is that of a component
abbrev pub MeansResource : List Component → Spot → Decl → Type 0
MeansResource all at d = is_resource d.sort ≡ true → IsComponent all d

inner_not : (sort : Sort) → is_inner sort ≡ true → is_resource sort ≡ false
inner_not resource_sort h = absurd (false≢true h)
inner_not _ h = refl

-- ---- what a component declares is no component

not_resource : (sort : Sort) → is_component sort ≡ false → is_resource sort ≡ false
not_resource resource_sort h = absurd (true≢false h)
not_resource _ h = refl

abbrev pub AreNot : List (Sort × Name) → Type 0
AreNot names = (one : Sort × Name) → IsIn one names → is_component one.0 ≡ false

none_not : AreNot []
none_not one k = absurd k

both_not : (xs ys : List (Sort × Name)) → AreNot xs → AreNot ys → AreNot (xs ++ ys)
both_not xs ys a b one k = by (in_either one xs ys k)
  where
    by : IsIn one xs ⊎ IsIn one ys → is_component one.0 ≡ false
    by (inl h) = a one h
    by (inr h) = b one h

flat_not : {A : Type 0} (names : A → List (Sort × Name)) → ((a : A) → AreNot (names a)) → (items : List A) → AreNot (flat_map names items)
flat_not names each [] = none_not
flat_not names each (a ∷ items) = both_not (names a) (flat_map names items) (each a) (flat_not names each items)

one_not : (sort : Sort) (name : Name) → is_component sort ≡ false → AreNot ((sort, name) ∷ [])
one_not sort name not one (inl e) = ap (λ (pair : Sort × Name). is_component pair.0) (sym e) ∙ not
one_not sort name not one (inr k) = absurd k

sorted_not : (sort : Sort) (names : List Name) → is_component sort ≡ false → AreNot (sorted sort names)
sorted_not sort [] not = none_not
sorted_not sort (name ∷ names) not = both_not ((sort, name) ∷ []) (sorted sort names) (one_not sort name not) (sorted_not sort names not)

spec_not : (one : SpecItem) → AreNot (spec_own one)
spec_not (spec.Import imports) = none_not
spec_not (spec.Const constant) = one_not Constant constant.name refl
spec_not (spec.Type named) = both_not ((type_sort, named.name) ∷ []) (sorted Literal (literals_of named.ty)) (one_not type_sort named.name refl) (sorted_not Literal (literals_of named.ty) refl)
spec_not (spec.OpType named) = one_not optype_sort named.name refl
spec_not (spec.Op operations) = sorted_not Operation (map op_name operations.items) refl
spec_not (spec.Var variables) = sorted_not Variable (var_names variables) refl
spec_not (spec.Sem declared) = sorted_not Operation (semaphore_names declared.semaphores) refl

item_not : (one : Item) → AreNot (item_own one)
item_not (item.Spec declared) = spec_not declared
item_not (item.Procedure procedure) = one_not Operation procedure.name refl
item_not (item.Process process) = one_not Operation process.name refl
item_not _ = none_not

pub own_not : (component : Component) → AreNot (own_names component)
own_not component =
    both_not (flat_map spec_own (spec_of component)) _ (flat_not spec_own spec_not (spec_of component))
    (both_not (flat_map formal_own (formals_of component)) _ (flat_not formal_own (λ formal. sorted_not Variable (formal_read formal).names refl) (formals_of component))
    (flat_not item_own item_not (body_of component)))

module _ (all : List Component) where
  abbrev P : Spot → Decl → Type 0
  P = MeansResource all

  plain : (at : Spot) (sort : Sort) (span : Span) → is_resource sort ≡ false → P at (declaration sort span)
  plain at sort span not is = absurd (false≢true (sym not ∙ is))

  local : (at : Spot) (sort : Sort) (span : Span) → is_inner sort ≡ true → P at (declaration sort span)
  local at sort span h = plain at sort span (inner_not sort h)

  abbrev All : List Finding → Type 0
  All = exprs.AllFit P

  abbrev Found : Option Decl → Type 0
  Found = exprs.FoundFits P

  abbrev Fits : Spot → Option Meaning → Type 0
  Fits = exprs.Fits P

  both : (f g : List Finding) → All f → All g → All (f ++ g)
  both = exprs.both P

-- ---- files

module _ (files : List File) (facts : Facts) where
  abbrev components : List Component
  components = components_in files

  abbrev in_all : Spot → Decl → Type 0
  in_all = MeansResource components

  one_may : (component : Component) → IsIn component components → (at : Spot) → in_all at (decl_of component)
  one_may component there at is = record { component = component; there = there; is = refl }

  declared_may : (component : Component) → IsIn component components → (one : Sort × Name) → IsIn one (own_names component) → (at : Spot) → in_all at (declaration one.0 one.1.span)
  declared_may component there one among at = plain components at one.0 one.1.span (not_resource one.0 (own_not component one among))

  known : outside.Collected files in_all one_may declared_may (program files)
  known = outside.known files in_all one_may declared_may

  module _ (component : Component) (there : IsIn component components) where
    abbrev place : Place
    place = place_of (program files).components (program files).specs component

    place_fits : (within : Option Spot) → exprs.PlaceFits in_all (inside place within)
    place_fits = outside.place_fits files in_all one_may declared_may component there

    spec_fits : (one : SpecItem) (within : Option Spot) → All components (spec_found one (inside place within) no_blocks)
    spec_fits one within =
        items.spec_fits in_all facts Anywhere Anywhere (λ at sort span is own. local components at sort span is) (λ at span is. local components at Constant span refl)
        (λ at span operated. plain components at Operation span refl) (inside place within) (place_fits within) one

    specs_fit : (items : List SpecItem) → All components (specs_found items place no_blocks)
    specs_fit [] = tt
    specs_fit (one ∷ items) = both components (spec_found one (inside place (spec_within one)) no_blocks) _ (spec_fits one (spec_within one)) (specs_fit items)

    item_fits : (one : Item) (within : Option Spot) → All components (item_found one (inside place within) no_blocks)
    item_fits one within =
        items.item_fits in_all facts Anywhere Anywhere (λ at sort span is own. local components at sort span is) (λ at span is. local components at Constant span refl)
        (λ at span operated. plain components at Operation span refl) (inside place within) (place_fits within) one (all_fit (λ spot. spot) (item_variables facts one)) (all_fit (λ spot. spot) (item_operations one))

    items_fit : (items : List Item) → All components (items_found items (inside place None) no_blocks)
    items_fit [] = tt
    items_fit (one ∷ items) = both components (item_found one (inside place (item_within one)) no_blocks) _ (item_fits one (item_within one)) (items_fit items)

    imports_fit : (names : List Name) → All components (imports_found (program files).components names)
    imports_fit [] = tt
    imports_fit (name ∷ names) =
        both components (reading (option_map Declared (declared_as (program files).components name.text)) name.span ∷ []) _ (by (declared_as (program files).components name.text) (known.components name.text)) (imports_fit names)
      where
        by : (found : Option Decl) → Found components found → All components (reading (option_map Declared found) name.span ∷ [])
        by None fits = (tt, tt)
        by (Some d) fits = (fits (spot_of name.span), tt)

    component_fits : All components (component_found (program files).components (program files).specs component)
    component_fits =
        both components (own_twice component) _ (twice.own_twice_fit in_all component)
        (both components (imports_found (program files).components (imports_of component)) _ (imports_fit (imports_of component))
        (both components (served_twice (body_of component) place no_blocks []) _ (twice.served_twice_fit in_all (body_of component) place no_blocks [])
        (both components (specs_found (spec_of component) place no_blocks) _ (specs_fit (spec_of component))
        (both components (formals_found (map formal_read (formals_of component)) (inside place None) no_blocks) _
        (exprs.formals_fit in_all (inside place None) (place_fits None) (formals_of component) no_blocks (outside.no_blocks_fit files in_all one_may declared_may))
        (items_fit (body_of component))))))

  components_fit : (some : List Component) → ((one : Component) → IsIn one some → IsIn one components) → All components (components_found (program files).components (program files).specs some)
  components_fit [] there = tt
  components_fit (component ∷ more) there =
      both components (component_found (program files).components (program files).specs component) _ (component_fits component (there component (inl refl))) (components_fit more (λ one k. there one (inr k)))

  files_fit : (some : List File) → ((one : Component) → IsIn one (flat_map (λ file. file.components) some) → IsIn one components) → All components (files_found (program files).components (program files).specs some)
  files_fit [] there = tt
  files_fit (file ∷ more) there =
      both components (components_found (program files).components (program files).specs file.components) _
      (components_fit file.components (λ one k. there one (in_left one file.components _ k))) (files_fit more (λ one k. there one (in_right one file.components _ k)))

  findings_fit : All components (findings files)
  findings_fit =
      both components (files_collected_twice files no_place) _ (twice.files_collected_twice_fit in_all files no_place)
      (both components (main_found files) _ (twice.main_fits in_all files)
      (both components (all_cycles_found (links_of (files_imports (program files).components files)) (files_imports (program files).components files)) _
      (twice.cycles_fit in_all (links_of (files_imports (program files).components files)) (files_imports (program files).components files))
      (files_fit files (λ one k. k))))

  -- ---- uses

  abbrev UsesFit : Meanings → Type 0
  UsesFit uses = (spot : Spot) → Fits components spot (meaning_at uses spot)

  noted_fits : (found : List Finding) (diagnostics : Diagnostics) → All components found → UsesFit diagnostics.uses → UsesFit (all_noted diagnostics found).uses
  noted_fits [] diagnostics fits before = before
  noted_fits (Broken diagnostic ∷ found) diagnostics fits before = noted_fits found (noted diagnostics (Broken diagnostic)) fits.1 before
  noted_fits (Use there meaning ∷ found) diagnostics fits before = noted_fits found (noted diagnostics (Use there meaning)) fits.1 (λ spot. by spot (same_spot-cases spot there))
    where
      by : (spot : Spot) → (spot ≡ there) ⊎ (same_spot spot there ≡ false) → Fits components spot (meaning_at (with_use diagnostics.uses there meaning) spot)
      by spot (inl same) =
          subst (λ at. Fits components at (meaning_at (with_use diagnostics.uses there meaning) at)) (sym same)
          (subst (Fits components there) (sym (entry-same diagnostics.uses there meaning)) fits.0)
      by spot (inr other) = subst (Fits components spot) (sym (entry-other diagnostics.uses there meaning spot other)) (before spot)

  -- a name that means a resource means one of the components
  pub means_resource : (names : Names) → resolved files ≡ Ok names → (spot : Spot) (d : Decl) → meaning_at names.uses spot ≡ Some (Declared d) → is_resource d.sort ≡ true → IsComponent components d
  means_resource names e spot d is =
      subst (Fits components spot) is
      (subst (λ uses. Fits components spot (meaning_at uses spot)) (sym (uses_noted files names e)) (noted_fits (findings files) nothing findings_fit (λ at. tt) spot))
