-- The globals that components import, by their numbers, are those that are found where names are looked up.
use Rattle.std.proofs.Common.{◌≡◌, ◌⊎◌, ℕ, zero, suc, Bool, true, false, cond, eqb, is_some, List, [], ◌∷◌, ◌++◌, Option, None, Some, refl, ap, sym, ◌∙◌, subst, inl, inr, map, unwrap_or, if◌then◌else◌}
use Rattle.std.specs.Prelude.{fold, flat_map, slice_get}
use Rattle.std.specs.Map.{lookup}
use Rattle.std.specs.List.{IsDistinct}
use Rattle.std.specs.Option.{option_map, option_and_then, option_to_list}
use Rattle.std.specs.Str.{bytes_eq}
use Rattle.std.proofs.lemmas.Bool.{true≢false, false≢true, or_cases, eqb-true}
use Rattle.std.proofs.lemmas.List.Folds.{list_any-append}
use Rattle.std.proofs.lemmas.Option.{slice_get-map}
use Rattle.sr_check_expr.specs.declared.facts.Facts.{Facts}
use Rattle.sr_check_expr.specs.Naming.{decl_of as decl_meant}
use Rattle.sr_names.specs.declared.cycles.Import.{Import}
use Rattle.sr_names.specs.declared.links.Link.{Link}
use Rattle.sr_names.specs.declared.meaning.Decl.{Decl}
use Rattle.sr_names.specs.declared.meaning.Meaning.TheVariants.{Declared}
use Rattle.sr_names.specs.declared.meaning.Sort.{Sort}
use Rattle.sr_names.specs.declared.meaning.Sort.TheVariants as sort
use Rattle.sr_names.specs.declared.place.Place.{Place}
use Rattle.sr_names.specs.declared.spot.Spot.{Spot}
use Rattle.sr_names.specs.Cycles.{links_of}
use Rattle.sr_names.specs.Entries.{Entries}
use Rattle.sr_names.specs.Links.{connects, Among, Way, stay, go}
use Rattle.sr_names.specs.Spots.{same_spot, spot_of}
use Rattle.sr_names.specs.Tables.{declared_as, with_decl}
use Rattle.sr_names.specs.Uses.{meaning_at}
use Rattle.sr_names.proofs.LinkLemmas.{connects-refl, connects-from_way}
use Rattle.sr_outline.specs.Needs.{Leads, at_once, through, NoCycle}
use Rattle.sr_outline.specs.Outline.{imports_at, member, with_number, global_spot, globals_named, item_imports, spec_item_imports, imports_of as numbers_of}
use Rattle.sr_scope.specs.Components.{decl_of, import_at, import_of_sorts, import_to, imports_to, all_imports, files_imports, imports_of, imported_names, specs_imports, items_imports, collected, all_collected, files_collected, sort_of}
use Rattle.sr_scope.specs.Resolved.{program, no_place}
use Rattle.sr_tables.specs.Parts.{components_in, component_spot, in_item, in_component}
use Rattle.sr_tables.specs.Tables.{number_in}
use Rattle.sr_tree.specs.declared.component.Component.{Component}
use Rattle.sr_tree.specs.declared.component.File.{File}
use Rattle.sr_tree.specs.declared.component.Item.{Item}
use Rattle.sr_tree.specs.declared.component.Item.TheVariants as item
use Rattle.sr_tree.specs.declared.component.SpecItem.{SpecItem}
use Rattle.sr_tree.specs.declared.component.SpecItem.TheVariants as spec
use Rattle.sr_tree.specs.declared.name.Name.{Name}
use Rattle.sr_tree.specs.Parts.{spec_of, body_of}
use Rattle.sr_scope.specs.Uses.{IsIn}
use Rattle.sr_scope.proofs.Findings.{in_left, in_right, in_either}
use Rattle.sr_scope.proofs.Operations.{from_flat}
use Rattle.sr_front.proofs.Lists.Lists.{from_mapped, place_of}
use Rattle.sr_front.proofs.Lists.Numbered.{number_at}

-- ---- lists

pub in_at : {A : Type 0} (xs : List A) (i : ℕ) (a : A) → slice_get xs i ≡ Some a → IsIn a xs
in_at [] i a e = absurd (cc)
in_at (x ∷ xs) zero a e = inl cc
in_at (x ∷ xs) (suc i) a e = inr (in_at xs i a e)

-- ---- the components that a program declares

-- each entry is one of these components
KnownBy : List Component → Entries → Type 0
KnownBy all entries = (entry : List ℕ × Decl) → IsIn entry entries → (component : Component) × IsIn component all × (decl_of component ≡ entry.1)

with_known : (all : List Component) (component : Component) → IsIn component all → (entries : Entries) (name : List ℕ)
    → KnownBy all entries → KnownBy all (with_decl entries name (decl_of component))
unfolding KnownBy
with_known all component there entries name known = by (is_some (declared_as entries name))
  where
    by : (b : Bool) → KnownBy all (if b then entries else entries ++ (name, decl_of component) ∷ [])
    by true entry h = known entry h
    by false entry h = last (in_either entry entries ((name, decl_of component) ∷ []) h)
      where
        last : IsIn entry entries ⊎ IsIn entry ((name, decl_of component) ∷ []) → (c : Component) × IsIn c all × (decl_of c ≡ entry.1)
        last (inl k) = known entry k
        last (inr (inl e)) = (component, there, ap (λ (entry : List ℕ × Decl). entry.1) e)
        last (inr (inr k)) = absurd k

all_known : (all components : List Component) (place : Place) → ((c : Component) → IsIn c components → IsIn c all)
    → KnownBy all place.components → KnownBy all (all_collected components place).components
all_known all [] place h known = known
all_known all (component ∷ components) place h known =
    all_known all components (collected component place) (λ c k. h c (inr k)) (with_known all component (h component (inl refl)) place.components _ known)

files_known : (all : List Component) (files : List File) (place : Place) → ((c : Component) → IsIn c (components_in files) → IsIn c all)
    → KnownBy all place.components → KnownBy all (files_collected files place).components
files_known all [] place h known = known
files_known all (file ∷ files) place h known =
    files_known all files (all_collected file.components place) (λ c k. h c (in_right c file.components (components_in files) k))
    (all_known all file.components place (λ c k. h c (in_left c file.components (components_in files) k)) known)

found_among : (test : List ℕ → Bool) (entries : Entries) (d : Decl) → lookup test entries ≡ Some d → (entry : List ℕ × Decl) × IsIn entry entries × (entry.1 ≡ d)
found_among test [] d e = absurd (cc)
found_among test (first ∷ entries) d e = by (test first.0) refl (found_among test entries d)
  where
    here : Some first.1 ≡ Some d → first.1 ≡ d
    here e = cc

    by : (b : Bool) → test first.0 ≡ b → (lookup test entries ≡ Some d → (entry : List ℕ × Decl) × IsIn entry entries × (entry.1 ≡ d))
        → (entry : List ℕ × Decl) × IsIn entry (first ∷ entries) × (entry.1 ≡ d)
    by true is more = (first, inl refl, here (sym (ap (λ b. cond b (Some first.1) (lookup test entries)) is) ∙ e))
    by false is more = let found = more (sym (ap (λ b. cond b (Some first.1) (lookup test entries)) is) ∙ e) in (found.0, inr found.1, found.2)

-- what is declared as a component is one of the program
pub declared_component : (files : List File) (name : List ℕ) (d : Decl) → declared_as (program files).components name ≡ Some d
    → (component : Component) × IsIn component (components_in files) × (decl_of component ≡ d)
unfolding KnownBy
declared_component files name d e =
    let entry = found_among (bytes_eq name) (program files).components d e in
    let known = files_known (components_in files) files no_place (λ c k. k) (λ entry h. absurd h) entry.0 entry.1 in
    (known.0, known.1, known.2 ∙ entry.2)

-- ---- the names that are imported

-- what is of a component's imports is of the names that it imports
names_at : {A : Type 0} (of : Name → List A) (item : SpecItem) (a : A) → IsIn a (flat_map of (spec_item_imports item))
    → (name : Name) × IsIn name (imported_names item) × IsIn a (of name)
names_at of (spec.Import imports) a h = from_flat of a imports.names h
names_at of (spec.Const constant) a h = absurd h
names_at of (spec.«Type» named) a h = absurd h
names_at of (spec.OpType named) a h = absurd h
names_at of (spec.Op operations) a h = absurd h
names_at of (spec.Var variables) a h = absurd h
names_at of (spec.Sem semaphores) a h = absurd h

name_in_specs : (items : List SpecItem) (item : SpecItem) (name : Name) → IsIn item items → IsIn name (imported_names item) → IsIn name (specs_imports items)
name_in_specs [] item name h k = absurd h
name_in_specs (first ∷ items) item name (inl e) k = in_left name (imported_names first) _ (subst (λ i. IsIn name (imported_names i)) (sym e) k)
name_in_specs (first ∷ items) item name (inr h) k = in_right name (imported_names first) _ (name_in_specs items item name h k)

names_in_body : {A : Type 0} (of : Name → List A) (items : List Item) (a : A) → IsIn a (flat_map (in_item (λ inner. flat_map of (spec_item_imports inner))) items)
    → (name : Name) × IsIn name (items_imports items) × IsIn a (of name)
names_in_body of [] a h = absurd h
names_in_body of (item.Spec inner ∷ items) a h = by (in_either a (flat_map of (spec_item_imports inner)) _ h) (names_in_body of items a)
  where
    by : IsIn a (flat_map of (spec_item_imports inner)) ⊎ IsIn a (flat_map (in_item (λ inner. flat_map of (spec_item_imports inner))) items)
        → (IsIn a (flat_map (in_item (λ inner. flat_map of (spec_item_imports inner))) items) → (name : Name) × IsIn name (items_imports items) × IsIn a (of name))
        → (name : Name) × IsIn name (items_imports (item.Spec inner ∷ items)) × IsIn a (of name)
    by (inl k) more = let found = names_at of inner a k in (found.0, in_left found.0 (imported_names inner) _ found.1, found.2)
    by (inr k) more = let found = more k in (found.0, in_right found.0 (imported_names inner) _ found.1, found.2)
names_in_body of (item.Proc proc ∷ items) a h = names_in_body of items a h
names_in_body of (item.Procedure procedure ∷ items) a h = names_in_body of items a h
names_in_body of (item.Process process ∷ items) a h = names_in_body of items a h
names_in_body of (item.Final final ∷ items) a h = names_in_body of items a h
names_in_body of (item.Statement statement ∷ items) a h = names_in_body of items a h

names_in : {A : Type 0} (of : Name → List A) (component : Component) (a : A) → IsIn a (in_component (λ inner. flat_map of (spec_item_imports inner)) component)
    → (name : Name) × IsIn name (imports_of component) × IsIn a (of name)
names_in of component a h = by (in_either a (flat_map (λ inner. flat_map of (spec_item_imports inner)) (spec_of component)) _ h)
  where
    by : IsIn a (flat_map (λ inner. flat_map of (spec_item_imports inner)) (spec_of component))
        ⊎ IsIn a (flat_map (in_item (λ inner. flat_map of (spec_item_imports inner))) (body_of component))
        → (name : Name) × IsIn name (imports_of component) × IsIn a (of name)
    by (inl k) =
        let item = from_flat (λ inner. flat_map of (spec_item_imports inner)) a (spec_of component) k in
        let found = names_at of item.0 a item.2 in
        (found.0, in_left found.0 (specs_imports (spec_of component)) _ (name_in_specs (spec_of component) item.0 found.0 item.1 found.1), found.2)
    by (inr k) = let found = names_in_body of (body_of component) a k in (found.0, in_right found.0 (specs_imports (spec_of component)) _ found.1, found.2)

-- ---- the globals that are imported

in_with_number : (there : List ℕ) (number n : ℕ) → member n (with_number there number) ≡ true → (member n there ≡ true) ⊎ (n ≡ number)
in_with_number there number n h = by (member number there) h
  where
    by : (b : Bool) → member n (if b then there else there ++ number ∷ []) ≡ true → (member n there ≡ true) ⊎ (n ≡ number)
    by true h = inl h
    by false h = last (or_cases _ _ (sym (list_any-append (λ m. eqb n m) there (number ∷ [])) ∙ h))
      where
        last : (member n there ≡ true) ⊎ (member n (number ∷ []) ≡ true) → (member n there ≡ true) ⊎ (n ≡ number)
        last (inl k) = inl k
        last (inr k) = one (or_cases (eqb n number) false k)
          where
            one : (eqb n number ≡ true) ⊎ (false ≡ true) → (member n there ≡ true) ⊎ (n ≡ number)
            one (inl e) = inr (eqb-true n number e)
            one (inr e) = absurd (false≢true e)

in_numbers : (there numbers : List ℕ) (n : ℕ) → member n (fold with_number there numbers) ≡ true → (member n there ≡ true) ⊎ IsIn n numbers
in_numbers there [] n h = inl h
in_numbers there (number ∷ numbers) n h = by (in_numbers (with_number there number) numbers n h)
  where
    first : (member n there ≡ true) ⊎ (n ≡ number) → (member n there ≡ true) ⊎ IsIn n (number ∷ numbers)
    first (inl k) = inl k
    first (inr e) = inr (inl (sym e))

    by : (member n (with_number there number) ≡ true) ⊎ IsIn n numbers → (member n there ≡ true) ⊎ IsIn n (number ∷ numbers)
    by (inl k) = first (in_with_number there number n k)
    by (inr k) = inr (inr k)

-- the spot of a global is that of a declaration of one
pub global_at : (is : Sort) (spot at : Spot) → IsIn at (global_spot (Some (record { sort = is; spot = spot }))) → (is ≡ sort.Global) × (spot ≡ at)
global_at sort.Global spot at (inl e) = (refl, e)
global_at sort.Global spot at (inr h) = absurd h
global_at _ spot at h = absurd h

-- A component imports a global: both, the name by which it does so, and what that is declared as.
pub record Imports (files : List File) (from to : ℕ) : Type 0 where
  pub importer : Component
  pub imported : Component
  pub name : Name
  pub importer_at : slice_get (components_in files) from ≡ Some importer
  pub imported_at : slice_get (components_in files) to ≡ Some imported
  pub among : IsIn name (imports_of importer)
  pub declared : declared_as (program files).components name.text ≡ Some (decl_of imported)
  pub is_global : sort_of imported ≡ sort.Global

-- each imported name means what the program declares it as
abbrev pub MeansDeclared : List File → Facts → Type 0
MeansDeclared files facts = (name : Name) (component : Component) → IsIn component (components_in files) → IsIn name (imports_of component)
    → (d : Decl) × (declared_as (program files).components name.text ≡ Some d) × (meaning_at facts.uses (spot_of name.span) ≡ Some (Declared d))

module _ (files : List File) (facts : Facts) (apart : IsDistinct same_spot (map component_spot (components_in files))) (means : MeansDeclared files facts) where
  -- by the importer and the name
  imports_by : (from to : ℕ) (importer : Component) (name : Name) → slice_get (components_in files) from ≡ Some importer → IsIn name (imports_of importer)
      → IsIn to (globals_named facts (map component_spot (components_in files)) name) → Imports files from to
  imports_by from to importer name here among k = record {
    importer = importer;
    imported = component.0;
    name = name;
    importer_at = here;
    imported_at = subst (λ n. slice_get (components_in files) n ≡ Some component.0) numbered place.1;
    among = among;
    declared = meant.1 ∙ ap Some (sym component.2);
    is_global = ap (λ (d : Decl). d.sort) component.2 ∙ global.0;
  }
    where
      meant : (d : Decl) × (declared_as (program files).components name.text ≡ Some d) × (meaning_at facts.uses (spot_of name.span) ≡ Some (Declared d))
      meant = means name importer (in_at (components_in files) from importer here) among

      component : (component : Component) × IsIn component (components_in files) × (decl_of component ≡ meant.0)
      component = declared_component files name.text meant.0 meant.1

      named : IsIn to (map (number_in (map component_spot (components_in files))) (global_spot (Some meant.0)))
      named = subst (λ meaning. IsIn to (map (number_in (map component_spot (components_in files))) (global_spot (decl_meant meaning)))) meant.2 k

      spot : (at : Spot) × IsIn at (global_spot (Some meant.0)) × (number_in (map component_spot (components_in files)) at ≡ to)
      spot = from_mapped (number_in (map component_spot (components_in files))) (global_spot (Some meant.0)) to named

      global : (meant.0.sort ≡ sort.Global) × (meant.0.spot ≡ spot.0)
      global = global_at meant.0.sort meant.0.spot spot.0 spot.1

      place : (i : ℕ) × (slice_get (components_in files) i ≡ Some component.0)
      place = place_of (components_in files) component.0 component.1

      same : component_spot component.0 ≡ spot.0
      same = ap (λ (d : Decl). d.spot) component.2 ∙ global.1

      numbered : place.0 ≡ to
      numbered =
          sym (number_at (map component_spot (components_in files)) place.0 (component_spot component.0) apart
          (slice_get-map component_spot (components_in files) place.0 ∙ ap (option_map component_spot) place.1))
          ∙ ap (number_in (map component_spot (components_in files))) same ∙ spot.2

  -- what is imported by number
  pub imports_from : (from to : ℕ) → member to (imports_at (map (numbers_of facts (map component_spot (components_in files))) (components_in files)) from) ≡ true → Imports files from to
  imports_from from to h = by (slice_get (components_in files) from) refl
      (subst (λ found. member to (unwrap_or found []) ≡ true) (slice_get-map (numbers_of facts (map component_spot (components_in files))) (components_in files) from) h)
    where
      by : (found : Option Component) → slice_get (components_in files) from ≡ found
          → member to (unwrap_or (option_map (numbers_of facts (map component_spot (components_in files))) found) []) ≡ true → Imports files from to
      by None e h = absurd (false≢true h)
      by (Some importer) e h = among (in_numbers [] (in_component (item_imports facts (map component_spot (components_in files))) importer) to h)
        where
          among : (false ≡ true) ⊎ IsIn to (in_component (item_imports facts (map component_spot (components_in files))) importer) → Imports files from to
          among (inl k) = absurd (false≢true k)
          among (inr k) =
              let name = names_in (globals_named facts (map component_spot (components_in files))) importer to k in
              imports_by from to importer name.0 e name.1 name.2

-- ---- no cycle

-- a global's import of a global is found where names are looked up
abbrev import_of : (files : List File) (from to : ℕ) → Imports files from to → Import
import_of files from to i = import_at (component_spot i.importer) (component_spot i.imported) i.name.span

import_is : (files : List File) (from to : ℕ) (i : Imports files from to) → sort_of i.importer ≡ sort.Global
    → import_to (program files).components (decl_of i.importer) i.name ≡ Some (import_of files from to i)
import_is files from to i g =
    ap (option_and_then (λ (target : Decl). import_of_sorts (sort_of i.importer) target.sort (import_at (component_spot i.importer) target.spot i.name.span))) i.declared
    ∙ ap (λ s. import_of_sorts s (sort_of i.imported) (import_of files from to i)) g
    ∙ ap (λ s. import_of_sorts sort.Global s (import_of files from to i)) i.is_global

in_imports_to : (components : Entries) (importer : Decl) (names : List Name) (name : Name) (import : Import) → IsIn name names
    → import_to components importer name ≡ Some import → IsIn import (imports_to components importer names)
in_imports_to components importer [] name import h e = absurd h
in_imports_to components importer (first ∷ names) name import (inl h) e =
    in_left import (option_to_list (import_to components importer first)) _
    (subst (λ found. IsIn import (option_to_list found)) (sym (ap (import_to components importer) h ∙ e)) (inl refl))
in_imports_to components importer (first ∷ names) name import (inr h) e =
    in_right import (option_to_list (import_to components importer first)) _ (in_imports_to components importer names name import h e)

in_all_imports : (components : Entries) (all : List Component) (component : Component) (import : Import) → IsIn component all
    → IsIn import (imports_to components (decl_of component) (imports_of component)) → IsIn import (all_imports components all)
in_all_imports components [] component import h k = absurd h
in_all_imports components (first ∷ all) component import (inl e) k =
    in_left import (imports_to components (decl_of first) (imports_of first)) _
    (subst (λ c. IsIn import (imports_to components (decl_of c) (imports_of c))) (sym e) k)
in_all_imports components (first ∷ all) component import (inr h) k =
    in_right import (imports_to components (decl_of first) (imports_of first)) _ (in_all_imports components all component import h k)

in_files_imports : (components : Entries) (files : List File) (component : Component) (import : Import) → IsIn component (components_in files)
    → IsIn import (imports_to components (decl_of component) (imports_of component)) → IsIn import (files_imports components files)
in_files_imports components [] component import h k = absurd h
in_files_imports components (file ∷ files) component import h k =
    by (in_either component file.components (components_in files) h) (λ h. in_files_imports components files component import h k)
  where
    by : IsIn component file.components ⊎ IsIn component (components_in files) → (IsIn component (components_in files) → IsIn import (files_imports components files))
        → IsIn import (files_imports components (file ∷ files))
    by (inl h) more = in_left import (all_imports components file.components) _ (in_all_imports components file.components component import h k)
    by (inr h) more = in_right import (all_imports components file.components) _ (more h)

import_found : (files : List File) (from to : ℕ) (i : Imports files from to) → sort_of i.importer ≡ sort.Global
    → IsIn (import_of files from to i) (files_imports (program files).components files)
import_found files from to i g =
    in_files_imports (program files).components files i.importer (import_of files from to i) (in_at (components_in files) from i.importer i.importer_at)
    (in_imports_to (program files).components (decl_of i.importer) (imports_of i.importer) i.name (import_of files from to i) i.among (import_is files from to i g))

pub link_among : (imports : List Import) (import : Import) → IsIn import imports → Among (links_of imports) import.link
link_among [] import h = absurd h
link_among (first ∷ imports) import (inl e) = inl (ap (λ (i : Import). i.link) e)
link_among (first ∷ imports) import (inr h) = inr (link_among imports import h)

-- the links between globals
abbrev links_in : List File → List Link
links_in files = links_of (files_imports (program files).components files)

-- what is at a number is one component
one_at : {A : Type 0} (found : Option A) (a b : A) → found ≡ Some a → found ≡ Some b → a ≡ b
one_at found a b e f = cc

module _ (files : List File) (imports : List (List ℕ)) (imports_all : (from to : ℕ) → member to (imports_at imports from) ≡ true → Imports files from to) where
  -- where imports lead to is a global
  target : (from to : ℕ) → Leads imports from to → (component : Component) × (slice_get (components_in files) to ≡ Some component) × (sort_of component ≡ sort.Global)
  target from to (at_once here there h) = let i = imports_all here there h in (i.imported, i.imported_at, i.is_global)
  target from to (through here next there h l) = target next there l

  -- what leads from a global to another has a way of links
  way : (from to : ℕ) → Leads imports from to → (importer : Component) → slice_get (components_in files) from ≡ Some importer → sort_of importer ≡ sort.Global
      → (imported : Component) → slice_get (components_in files) to ≡ Some imported → Way (links_in files) (component_spot importer) (component_spot imported)
  way from to (at_once here there h) importer e g imported f = first
    where
      i : Imports files here there
      i = imports_all here there h

      same : i.importer ≡ importer
      same = one_at (slice_get (components_in files) here) i.importer importer i.importer_at e

      first : Way (links_in files) (component_spot importer) (component_spot imported)
      first =
          go (component_spot importer) (component_spot imported) (import_of files here there i).link
          (link_among (files_imports (program files).components files) (import_of files here there i) (import_found files here there i (ap sort_of same ∙ g)))
          (ap component_spot same)
          (subst (λ c. Way (links_in files) (component_spot i.imported) (component_spot c)) (one_at (slice_get (components_in files) there) i.imported imported i.imported_at f) (stay (component_spot i.imported)))
  way from to (through here next there h l) importer e g imported f = more (way next there l i.imported i.imported_at i.is_global imported f)
    where
      i : Imports files here next
      i = imports_all here next h

      same : i.importer ≡ importer
      same = one_at (slice_get (components_in files) here) i.importer importer i.importer_at e

      more : Way (links_in files) (component_spot i.imported) (component_spot imported) → Way (links_in files) (component_spot importer) (component_spot imported)
      more w =
          go (component_spot importer) (component_spot imported) (import_of files here next i).link
          (link_among (files_imports (program files).components files) (import_of files here next i) (import_found files here next i (ap sort_of same ∙ g)))
          (ap component_spot same) w

  back : ((import : Import) → IsIn import (files_imports (program files).components files) → connects (links_in files) import.link.to import.link.from ≡ false)
      → (from to : ℕ) → Leads imports from to → from ≡ to → ⊥
  back none from to (at_once here there h) e =
      true≢false (sym (connects-refl (links_in files) (component_spot i.imported))
      ∙ ap (λ c. connects (links_in files) (component_spot i.imported) (component_spot c)) (sym same)
      ∙ none (import_of files here there i) (import_found files here there i (ap sort_of same ∙ i.is_global)))
    where
      i : Imports files here there
      i = imports_all here there h

      same : i.importer ≡ i.imported
      same = one_at (slice_get (components_in files) here) i.importer i.imported i.importer_at (ap (slice_get (components_in files)) e ∙ i.imported_at)
  back none from to (through here next there h l) e =
      true≢false (sym (connects-from_way (links_in files) (component_spot i.imported) (component_spot i.importer) round) ∙ none (import_of files here next i) (import_found files here next i global))
    where
      i : Imports files here next
      i = imports_all here next h

      at : slice_get (components_in files) there ≡ Some i.importer
      at = ap (slice_get (components_in files)) (sym e) ∙ i.importer_at

      last : (component : Component) × (slice_get (components_in files) there ≡ Some component) × (sort_of component ≡ sort.Global)
      last = target next there l

      global : sort_of i.importer ≡ sort.Global
      global = ap sort_of (one_at (slice_get (components_in files) there) i.importer last.0 at last.1) ∙ last.2

      round : Way (links_in files) (component_spot i.imported) (component_spot i.importer)
      round = way next there l i.imported i.imported_at i.is_global i.importer at

  pub no_cycle_in : ((import : Import) → IsIn import (files_imports (program files).components files) → connects (links_in files) import.link.to import.link.from ≡ false) → NoCycle imports
  no_cycle_in none component l = back none component component l refl
