-- The components of the core of a program.
use Rattle.std.proofs.Common.{◌≡◌, ℕ, zero, suc, ◌+◌, ◌-◌, ◌<◌, Bool, true, false, not, ◌&&◌, ◌||◌, eqb, List, [], ◌∷◌, ◌++◌, Option, None, Some, refl, ap, sym, ◌∙◌, subst, length, map, arith}
use Rattle.std.specs.Prelude.{slice_get}
use Rattle.std.specs.List.{list_all, enumerate_from}
use Rattle.std.specs.Option.{option_map, option_and_then}
use Rattle.std.proofs.lemmas.Bool.{false≢true, and_from, and_parts, eqb-true, eq-eqb, not_from_false, or_right, or_left}
use Rattle.std.proofs.lemmas.List.{append-nil, length-map}
use Rattle.std.proofs.lemmas.List.FromFn.{length-enumerate_from}
use Rattle.std.proofs.lemmas.List.Folds.{list_all-map}
use Rattle.std.proofs.lemmas.List.Sums.{sum_by_from}
use Rattle.std.proofs.lemmas.Option.{slice_get-map, slice_get_within}
use Rattle.sr_check_expr.specs.declared.facts.Facts.{Facts}
use Rattle.sr_core.specs.declared.component.Component.{Component as CoreComponent}
use Rattle.sr_core.specs.declared.component.Core.{Core}
use Rattle.sr_core.specs.Tests as tests
use Rattle.sr_core.specs.WellFormed as wf
use Rattle.sr_desugar.specs.Core.{LoweredComponent, core_of, whole_of, wholes_of, wholes_from, all_components, component_codes, scene_of}
use Rattle.sr_outline.specs.Outline.{tables_of, imports_of as numbers_of, imports_at, needs_of, member}
use Rattle.sr_scope.specs.Components.{can_be_main, last_component, last_of, sort_of}
use Rattle.sr_tables.specs.Parts.{components_in, kind_of}
use Rattle.sr_tables.specs.declared.tables.Tables.{Tables}
use Rattle.sr_tree.specs.declared.component.Component.{Component}
use Rattle.sr_tree.specs.declared.component.Component.TheVariants.{Resource, SplitResource, Global}
use Rattle.sr_tree.specs.declared.component.File.{File}
use Rattle.sr_tree.specs.declared.component.Item.{Item}
use Rattle.sr_tree.specs.declared.component.Item.TheVariants as item
use Rattle.sr_tree.specs.Components.{final_count}
use Rattle.sr_tree.specs.Parts.{body_of}
use Rattle.sr_core.specs.declared.component.Kind.TheVariants as kind
use Rattle.sr_names.specs.declared.meaning.Sort.TheVariants as sort
use Rattle.sr_lower_expr.specs.declared.scene.Scene.{Scene}
use Rattle.sr_desugar.specs.Bodies.{all_finals, item_outputs, first_final}
use Rattle.sr_names.proofs.LinkLemmas.{same_from_iff}
use Rattle.sr_outline.specs.Needs.{in_order, among, NoCycle, CanBeMade}
use Rattle.sr_outline.proofs.Making.{needs-in_order}
use Rattle.sr_front.proofs.Names.Globals.{Imports, in_at}
use Rattle.sr_scope.specs.Uses.{IsIn}

-- ---- lists

-- a thing with its number
abbrev numbered : {A : Type 0} → ℕ → A → ℕ × A
numbered n a = (n, a)

slice_get_enumerated : {A : Type 0} (n : ℕ) (xs : List A) (i : ℕ) (x : A) → slice_get xs i ≡ Some x → slice_get (enumerate_from n xs) i ≡ Some (numbered (n + i) x)
slice_get_enumerated n [] i x e = absurd cc
slice_get_enumerated n (y ∷ xs) zero x e = here e
  where
    zeroth : n ≡ n + 0
    zeroth = omega arith

    here : Some y ≡ Some x → Some (numbered n y) ≡ Some (numbered (n + 0) x)
    here e = let same : y ≡ x = cc in (λ k. Some (numbered (zeroth k) (same k)))
slice_get_enumerated n (y ∷ xs) (suc i) x e =
    let next : (n + 1) + i ≡ n + suc i = omega arith in
    slice_get_enumerated (n + 1) xs i x e ∙ ap (λ (m : ℕ). Some (numbered m x)) next

all_enumerated : {A : Type 0} (test : ℕ × A → Bool) (n : ℕ) (xs : List A) → ((i : ℕ) (x : A) → slice_get xs i ≡ Some x → test (n + i, x) ≡ true)
    → list_all test (enumerate_from n xs) ≡ true
all_enumerated test n [] h = refl
all_enumerated test n (x ∷ xs) h =
    let zeroth : n + 0 ≡ n = omega arith in
    and_from _ _ (subst (λ m. test (m, x) ≡ true) zeroth (h 0 x refl))
    (all_enumerated test (n + 1) xs (λ i y e. let next : n + suc i ≡ (n + 1) + i = omega arith in subst (λ m. test (m, y) ≡ true) next (h (suc i) y e)))

-- ---- what a core has at a number

with_component_at : (core : Core) (number : ℕ) (test : CoreComponent → Bool) (component : CoreComponent)
    → slice_get core.components number ≡ Some component → tests.with_component core number test ≡ test component
with_component_at core number test component e = rw e refl

-- the component with this number, in the core
pub component_at : (facts : Facts) (tables : Tables) (imports : List (List ℕ)) (components : List Component) (number : ℕ) (component : Component)
    → slice_get components number ≡ Some component
    → slice_get (all_components (wholes_from facts tables imports 0 components)) number ≡ Some (whole_of facts tables imports (number, component)).component
component_at facts tables imports components number component e =
    slice_get-map (λ (whole : LoweredComponent). whole.component) (wholes_from facts tables imports 0 components) number
    ∙ ap (option_map (λ (whole : LoweredComponent). whole.component)) (slice_get-map (whole_of facts tables imports) (enumerate_from 0 components) number
    ∙ ap (option_map (whole_of facts tables imports)) (slice_get_enumerated 0 components number component e))
    ∙ ap (λ (n : ℕ). Some (whole_of facts tables imports (n, component)).component) (zero_first number)
  where
    zero_first : (n : ℕ) → 0 + n ≡ n
    zero_first n = omega arith

counted : (facts : Facts) (tables : Tables) (imports : List (List ℕ)) (components : List Component)
    → length (all_components (wholes_from facts tables imports 0 components)) ≡ length components
counted facts tables imports components =
    length-map (wholes_from facts tables imports 0 components) (λ (whole : LoweredComponent). whole.component)
    ∙ length-map (enumerate_from 0 components) (whole_of facts tables imports)
    ∙ length-enumerate_from 0 components

-- ---- main

last_after : {A : Type 0} (x : A) (xs : List A) (a : A) → last_of xs ≡ Some a → last_of (x ∷ xs) ≡ Some a
last_after x xs a e =
    let within : length xs - 1 < length xs = slice_get_within xs (length xs - 1) a e in
    let place : length (x ∷ xs) - 1 ≡ suc (length xs - 1) = omega arith in
    ap (slice_get (x ∷ xs)) place ∙ e

last_append : {A : Type 0} (xs ys : List A) (a : A) → last_of ys ≡ Some a → last_of (xs ++ ys) ≡ Some a
last_append [] ys a e = e
last_append (x ∷ xs) ys a e = last_after x (xs ++ ys) a (last_append xs ys a e)

-- the last component of the last file is the last of all
last_in : (files : List File) (component : Component) → last_component files ≡ Some component → last_of (components_in files) ≡ Some component
last_in [] component e = absurd cc
last_in (file ∷ []) component e = subst (λ cs. last_of cs ≡ Some component) (sym (append-nil file.components)) e
last_in (file ∷ next ∷ files) component e =
    last_append file.components (components_in (next ∷ files)) component
    (last_in (next ∷ files) component (subst (λ n. option_and_then (λ (file : File). last_of file.components) (slice_get (file ∷ next ∷ files) n) ≡ Some component) place e))
  where
    place : length (file ∷ next ∷ files) - 1 ≡ suc (length (next ∷ files) - 1)
    place = omega arith

-- a component that can be main is one in the core
main_made : (facts : Facts) (tables : Tables) (imports : List (List ℕ)) (number : ℕ) (component : Component) → can_be_main (Some component) ≡ true
    → wf.is_main (whole_of facts tables imports (number, component)).component ≡ true
main_made facts tables imports number (Resource span name [] items) h = refl
main_made facts tables imports number (SplitResource span name spec [] items) h = refl
main_made facts tables imports number _ h = absurd (false≢true h)

pub main_is : (files : List File) (facts : Facts) → can_be_main (last_component files) ≡ true
    → tests.with_component (core_of files facts) (length (core_of files facts).components - 1) wf.is_main ≡ true
main_is files facts h = by (last_component files) refl h
  where
    tables : Tables
    tables = tables_of facts (components_in files)

    imports : List (List ℕ)
    imports = map (numbers_of facts (tables_of facts (components_in files)).components) (components_in files)

    by : (last : Option Component) → last_component files ≡ last → can_be_main last ≡ true
        → tests.with_component (core_of files facts) (length (core_of files facts).components - 1) wf.is_main ≡ true
    by None e h = absurd (false≢true h)
    by (Some component) e h =
        with_component_at (core_of files facts) (length (core_of files facts).components - 1) wf.is_main (whole_of facts tables imports (length (components_in files) - 1, component)).component
        (ap (λ (n : ℕ). slice_get (core_of files facts).components (n - 1)) (counted facts tables imports (components_in files))
        ∙ component_at facts tables imports (components_in files) (length (components_in files) - 1) component (last_in files component e))
        ∙ main_made facts tables imports (length (components_in files) - 1) component h

-- ---- members

eqb_flip : (a b : ℕ) → eqb a b ≡ eqb b a
eqb_flip a b = same_from_iff (eqb a b) (eqb b a) (λ e. eq-eqb b a (sym (eqb-true a b e))) (λ e. eq-eqb a b (sym (eqb-true b a e)))

same_member : (n : ℕ) (ns : List ℕ) → wf.member n ns ≡ member n ns
same_member n [] = refl
same_member n (m ∷ ns) = (λ k. eqb_flip m n k || same_member n ns k)

same_among : (ns others : List ℕ) → list_all (λ n. wf.member n others) ns ≡ among ns others
same_among [] others = refl
same_among (n ∷ ns) others = (λ k. same_member n others k && same_among ns others k)

-- ---- the order in which globals are made

-- what the core has for a global
pub record HasGlobal (core : Core) (imports : List (List ℕ)) (global : ℕ) : Type 0 where
  pub component : CoreComponent
  pub here : slice_get core.components global ≡ Some component
  pub is_global : wf.is_global component.kind ≡ true
  pub its_imports : component.imports ≡ imports_at imports global

order_made : (core : Core) (imports : List (List ℕ)) (earlier globals : List ℕ) → in_order imports earlier globals ≡ true
    → ((global : ℕ) → member global globals ≡ true → HasGlobal core imports global) → wf.in_making_order core earlier globals ≡ true
order_made core imports earlier [] o has = refl
order_made core imports earlier (global ∷ globals) o has =
    and_from _ _ (and_from _ _ (ap not (same_member global earlier) ∙ both.0)
    (with_component_at core global (λ c. wf.is_global c.kind && list_all (λ import. wf.member import earlier) c.imports) it.component it.here
    ∙ and_from _ _ it.is_global (ap (λ imports. list_all (λ import. wf.member import earlier) imports) it.its_imports ∙ same_among (imports_at imports global) earlier ∙ both.1)))
    (order_made core imports (global ∷ earlier) globals parts.1 (λ g h. has g (or_right (eqb g global) (member g globals) h)))
  where
    parts : ((not (member global earlier) && among (imports_at imports global) earlier) ≡ true) × (in_order imports (global ∷ earlier) globals ≡ true)
    parts = and_parts (not (member global earlier) && among (imports_at imports global) earlier) (in_order imports (global ∷ earlier) globals) o

    both : (not (member global earlier) ≡ true) × (among (imports_at imports global) earlier ≡ true)
    both = and_parts (not (member global earlier)) (among (imports_at imports global) earlier) parts.0

    it : HasGlobal core imports global
    it = has global (or_left (eqb global global) (member global globals) (eq-eqb global global refl))

-- ---- final code

abbrev weight : Item → ℕ
weight (item.Final final) = 1
weight _ = 0

no_finals : (scene : Scene) (items : List Item) → final_count items ≡ 0 → all_finals (item_outputs scene items) ≡ []
no_finals scene [] e = refl
no_finals scene (item.Spec declared ∷ items) e = no_finals scene items e
no_finals scene (item.Proc proc ∷ items) e = no_finals scene items e
no_finals scene (item.Procedure procedure ∷ items) e = no_finals scene items e
no_finals scene (item.Process process ∷ items) e = no_finals scene items e
no_finals scene (item.Final final ∷ items) e = let one : 1 + final_count items ≡ 0 = sym (sum_by_from weight 1 items) ∙ e in absurd (omega arith)
no_finals scene (item.Statement statement ∷ items) e = no_finals scene items e

no_final_code : (scene : Scene) (component : Component) → final_count (body_of component) ≡ 0 → tests.is_there (component_codes scene component).last ≡ false
no_final_code scene component e = ap (λ finals. tests.is_there (first_final finals)) (no_finals scene (body_of component) e)

final_of_global : (facts : Facts) (tables : Tables) (imports : List (List ℕ)) (number : ℕ) (component : Component)
    → (kind_of component ≡ kind.Global → final_count (body_of component) ≡ 0)
    → (not (wf.is_global (kind_of component)) || not (tests.is_there (whole_of facts tables imports (number, component)).component.final_code)) ≡ true
final_of_global facts tables imports number (Resource span name formals items) h = refl
final_of_global facts tables imports number (SplitResource span name spec formals items) h = refl
final_of_global facts tables imports number (Global span name spec body) h =
    not_from_false _ (no_final_code (scene_of facts tables imports number (Global span name spec body)) (Global span name spec body) (h refl))

-- ---- components

-- final code stands in no global
abbrev pub NoFinalInGlobals : List File → Type 0
NoFinalInGlobals files = (component : Component) → IsIn component (components_in files) → kind_of component ≡ kind.Global → final_count (body_of component) ≡ 0

kind_is_global : (component : Component) → sort_of component ≡ sort.Global → wf.is_global (kind_of component) ≡ true
kind_is_global (Global span name spec body) e = refl
kind_is_global _ e = absurd cc

-- Globals are made in order, and none has final code.
pub record GlobalsCanBeMade (files : List File) (imports : List (List ℕ)) : Type 0 where
  pub no_cycle : NoCycle imports
  pub imported : (from to : ℕ) → member to (imports_at imports from) ≡ true → Imports files from to
  pub no_final : NoFinalInGlobals files

module _ (files : List File) (facts : Facts) (tables : Tables) (core : Core) (made : GlobalsCanBeMade files (map (numbers_of facts tables.components) (components_in files)))
    (is : core.components ≡ all_components (wholes_of facts (components_in files) tables)) where
  abbrev imports : List (List ℕ)
  imports = map (numbers_of facts tables.components) (components_in files)

  has_global : (from to : ℕ) → member to (imports_at imports from) ≡ true → HasGlobal core imports to
  has_global from to h = record {
    component = (whole_of facts tables imports (to, i.imported)).component;
    here = ap (λ components. slice_get components to) is ∙ component_at facts tables imports (components_in files) to i.imported i.imported_at;
    is_global = kind_is_global i.imported i.is_global;
    its_imports = refl;
  }
    where
      i : Imports files from to
      i = made.imported from to h

  component_made : (number : ℕ) (component : Component) → slice_get (components_in files) number ≡ Some component
      → wf.component_ok core (whole_of facts tables imports (number, component)).component ≡ true
  component_made number component e =
      and_from _ _ (and_from _ _ (order_made core imports [] (needs_of imports number) needs.ordered
      (λ global h. let importer = needs.wanted global h in has_global importer.0 global importer.1))
      (same_among (imports_at imports number) (needs_of imports number) ∙ needs.imported))
      (final_of_global facts tables imports number component (made.no_final component (in_at (components_in files) number component e)))
    where
      needs : CanBeMade imports number (needs_of imports number)
      needs = needs-in_order imports made.no_cycle number

  pub components_made : list_all (wf.component_ok core) core.components ≡ true
  components_made =
      ap (list_all (wf.component_ok core)) is
      ∙ list_all-map (wf.component_ok core) (λ (whole : LoweredComponent). whole.component) (wholes_of facts (components_in files) tables)
      ∙ list_all-map (λ (whole : LoweredComponent). wf.component_ok core whole.component) (whole_of facts tables imports) (enumerate_from 0 (components_in files))
      ∙ all_enumerated (λ (pair : ℕ × Component). wf.component_ok core (whole_of facts tables imports pair).component) 0 (components_in files)
      (λ i component e. let first : i ≡ 0 + i = omega arith in
      subst (λ n. wf.component_ok core (whole_of facts tables imports (n, component)).component ≡ true) first (component_made i component e))

-- the components of the core of these files are as they must be
pub components_are : (files : List File) (facts : Facts) → GlobalsCanBeMade files (map (numbers_of facts (tables_of facts (components_in files)).components) (components_in files))
    → list_all (wf.component_ok (core_of files facts)) (core_of files facts).components ≡ true
components_are files facts made = components_made files facts (tables_of facts (components_in files)) (core_of files facts) made refl
