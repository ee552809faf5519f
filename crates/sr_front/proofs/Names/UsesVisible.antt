-- A fact of each name that is used in a component, by what it means: outside of blocks it is a component that is visible there, or what such a component shows, or what the component itself declares.
use Rattle.std.proofs.Common.{◌≡◌, ◌⊎◌, ℕ, Bool, true, false, List, [], ◌∷◌, ◌++◌, Option, Some, None, flat_map, refl, sym, ap, ◌∙◌, subst, inl, inr, is_some, if◌then◌else◌}
use Rattle.std.specs.List.{cons_option}
use Rattle.std.specs.Map.{lookup}
use Rattle.std.specs.Option.{option_and_then, option_map}
use Rattle.std.proofs.lemmas.Option.{none-some, same_Some}
use Rattle.sr_names.proofs.Marking.{entry-same, entry-other, same_spot-cases}
use Rattle.sr_names.specs.declared.meaning.Decl.{Decl}
use Rattle.sr_names.specs.declared.meaning.Meaning.{Meaning}
use Rattle.sr_names.specs.declared.meaning.Meaning.TheVariants.{Predefined as MeansPredefined, Declared}
use Rattle.sr_names.specs.declared.meaning.Sort.{Sort}
use Rattle.sr_names.specs.declared.place.Place.{Place}
use Rattle.sr_names.specs.declared.predefined.Predefined.{Predefined as PredefinedName}
use Rattle.sr_names.specs.declared.spot.Spot.{Spot}
use Rattle.sr_names.specs.Components.{member_named, with_members}
use Rattle.sr_names.specs.Entries.{Entries}
use Rattle.sr_names.specs.Predefined.{predefined_named}
use Rattle.sr_names.specs.Readings.{declaration}
use Rattle.sr_names.specs.Scopes.{candidates, denotes, from_imports, is_usable, member, no_blocks, ready, shown, visible_named}
use Rattle.sr_names.specs.Shown.{counted}
use Rattle.sr_names.specs.Sorts.{is_hidden}
use Rattle.sr_names.specs.Spots.{same_spot}
use Rattle.sr_names.specs.Tables.{declared_as}
use Rattle.sr_names.specs.Visible.{component_at, with_component}
use Rattle.sr_scope.proofs.Findings.{in_either, in_left, in_right}
use Rattle.sr_scope.proofs.OwnNames.{own_is, own_names, spec_own, specs_declares}
use Rattle.sr_scope.proofs.Tables.{declared_among}
use Rattle.sr_scope.specs.Components.{all_collected, collected, decl_of, files_collected, imports_of, place_of, visible_to, with_import, with_imports}
use Rattle.sr_scope.specs.Items.{inside, specs_declared}
use Rattle.sr_scope.specs.Names.{is_component}
use Rattle.sr_scope.specs.Resolved.{no_place, program}
use Rattle.sr_scope.specs.Uses.{IsIn}
use Rattle.sr_tables.specs.Parts.{component_spot, components_in}
use Rattle.sr_tree.specs.declared.component.Component.{Component}
use Rattle.sr_tree.specs.declared.component.File.{File}
use Rattle.sr_tree.specs.declared.name.Name.{Name}
use Rattle.sr_tree.specs.Parts.{spec_of}
use Rattle.sr_front.proofs.Names.Globals.{declared_component}
use Rattle.sr_front.proofs.Names.UsesInExprs as exprs
pub use Rattle.sr_scope.proofs.Meant.{own_meaning, visible_meaning}

-- ---- the components that are visible

-- what a component imports by a name
pub record IsImported (files : List File) (here : Component) (d : Decl) : Type 0 where
  pub name : Name
  pub among : IsIn name (imports_of here)
  pub is : declared_as (program files).components name.text ≡ Some d

-- a component sees itself, and what it imports
abbrev pub IsSeen : List File → Component → Decl → Type 0
IsSeen files here d = (d ≡ decl_of here) ⊎ IsImported files here d

module _ (files : List File) (here : Component) where
  abbrev AllSeen : List Decl → Type 0
  AllSeen visible = (d : Decl) → IsIn d visible → IsSeen files here d

  seen_more : (visible : List Decl) (d : Decl) → IsSeen files here d → AllSeen visible → AllSeen (with_component visible d)
  seen_more visible d is before = by (is_some (component_at visible d.spot))
    where
      last : (other : Decl) → IsIn other visible ⊎ ((d ≡ other) ⊎ ⊥) → IsSeen files here other
      last other (inl k) = before other k
      last other (inr (inl e)) = subst (λ one. IsSeen files here one) e is
      last other (inr (inr k)) = absurd k

      by : (b : Bool) → (other : Decl) → IsIn other (if b then visible else visible ++ d ∷ []) → IsSeen files here other
      by true other k = before other k
      by false other k = last other (in_either other visible (d ∷ []) k)

  abbrev import_by : List Decl → Option Decl → List Decl
  import_by visible None = visible
  import_by visible (Some component) = with_component visible component

  seen_import : (found : Option Decl) (visible : List Decl) → ((d : Decl) → found ≡ Some d → IsSeen files here d) → AllSeen visible → AllSeen (import_by visible found)
  seen_import None visible known before = before
  seen_import (Some d) visible known before = seen_more visible d (known d refl) before

  seen_imports : (names : List Name) → ((name : Name) → IsIn name names → IsIn name (imports_of here)) → (visible : List Decl) → AllSeen visible
      → AllSeen (with_imports (program files).components names visible)
  seen_imports [] among visible before = before
  seen_imports (name ∷ names) among visible before =
      seen_imports names (λ one k. among one (inr k)) (with_import (program files).components name visible)
      (seen_import (declared_as (program files).components name.text) visible (λ d is. inr (record { name = name; among = among name (inl refl); is = is })) before)

  pub all_seen : AllSeen (visible_to (program files).components here)
  all_seen = seen_imports (imports_of here) (λ name k. k) (with_component [] (decl_of here)) itself
    where
      itself : AllSeen (with_component [] (decl_of here))
      itself d (inl e) = inl (sym e)
      itself d (inr k) = absurd k

-- ---- what components show

-- the names of the spec of one of these components, which stands at a spot
pub record IsSpec (all : List Component) (spot : Spot) (spec : Entries) : Type 0 where
  pub component : Component
  pub there : IsIn component all
  pub at : component_spot component ≡ spot
  pub is : spec ≡ specs_declared (spec_of component) []

module _ (all : List Component) where
  abbrev AreSpecs : Place → Type 0
  AreSpecs place = (spot : Spot) (spec : Entries) → lookup (same_spot spot) place.specs ≡ Some spec → IsSpec all spot spec

  collected_one : (component : Component) (place : Place) → IsIn component all → AreSpecs place → AreSpecs (collected component place)
  collected_one component place there before spot spec e = by (same_spot-cases spot (component_spot component)) e
    where
      table : Entries
      table = specs_declared (spec_of component) []

      by : (spot ≡ component_spot component) ⊎ (same_spot spot (component_spot component) ≡ false)
          → lookup (same_spot spot) (with_members place.specs (component_spot component) table) ≡ Some spec → IsSpec all spot spec
      by (inl same) e = record {
        component = component;
        there = there;
        at = sym same;
        is = sym (same_Some _ _ (sym (entry-same place.specs (component_spot component) table)
            ∙ ap (λ at. lookup (same_spot at) (with_members place.specs (component_spot component) table)) (sym same) ∙ e));
      }
      by (inr other) e = before spot spec (sym (entry-other place.specs (component_spot component) table spot other) ∙ e)

  collected_all : (components : List Component) (place : Place) → ((component : Component) → IsIn component components → IsIn component all) → AreSpecs place
      → AreSpecs (all_collected components place)
  collected_all [] place there before = before
  collected_all (component ∷ components) place there before =
      collected_all components (collected component place) (λ one k. there one (inr k)) (collected_one component place (there component (inl refl)) before)

  collected_files : (files : List File) (place : Place) → ((component : Component) → IsIn component (components_in files) → IsIn component all) → AreSpecs place
      → AreSpecs (files_collected files place)
  collected_files [] place there before = before
  collected_files (file ∷ files) place there before =
      collected_files files (all_collected file.components place) (λ one k. there one (in_right one file.components _ k))
      (collected_all file.components place (λ one k. there one (in_left one file.components _ k)) before)

pub specs_known : (files : List File) (spot : Spot) (spec : Entries) → lookup (same_spot spot) (program files).specs ≡ Some spec → IsSpec (components_in files) spot spec
specs_known files = collected_files (components_in files) files no_place (λ one k. k) (λ spot spec e. absurd (none-some _ e))

-- ---- what names mean

-- what is found at a spot is among them
pub found_visible : (visible : List Decl) (spot : Spot) (d : Decl) → component_at visible spot ≡ Some d → IsIn d visible
found_visible [] spot d e = absurd (none-some _ e)
found_visible (one ∷ visible) spot d e = by (same_spot spot one.spot) (found_visible visible spot d) e
  where
    by : (b : Bool) → (component_at visible spot ≡ Some d → IsIn d visible) → (if b then Some one else component_at visible spot) ≡ Some d → IsIn d (one ∷ visible)
    by true rest h = inl (same_Some _ _ h)
    by false rest h = inr (rest h)

-- `P at decl`: a name at this spot may mean this declaration
module _ (files : List File) (here : Component) (there : IsIn here (components_in files)) (P : Spot → Decl → Type 0)
    (component_may : (d : Decl) → IsSeen files here d → (component : Component) → IsIn component (components_in files) → d ≡ decl_of component → (at : Spot) → P at d)
    (own_may : (one : Sort × Name) → IsIn one (own_names here) → (at : Spot) → P at (declaration one.0 one.1.span))
    (shown_may : (shower : Decl) → IsSeen files here shower → (component : Component) → IsIn component (components_in files) → component_spot component ≡ shower.spot
    → (one : Sort × Name) → IsIn one (flat_map spec_own (spec_of component)) → (at : Spot) → P at (declaration one.0 one.1.span))
    (seen : (at : Spot) (d : Decl) → is_component d.sort ≡ true → P at d → IsSeen files here d) where
  abbrev all : List Component
  all = components_in files

  abbrev outer : Place
  outer = place_of (program files).components (program files).specs here

  abbrev Fits : Spot → Option Meaning → Type 0
  Fits = exprs.Fits P

  abbrev May : Decl → Type 0
  May d = (at : Spot) → P at d

  -- ---- components

  seen_may : (d : Decl) → IsSeen files here d → May d
  seen_may d (inl e) = component_may d (inl e) here there e
  seen_may d (inr k) = let one = declared_component files k.name.text d k.is in component_may d (inr k) one.0 one.1 (sym one.2)

  -- ---- what components show

  declared_may : (shower : Decl) → IsSeen files here shower → (component : Component) → IsIn component all → component_spot component ≡ shower.spot → (text : List ℕ) (d : Decl)
      → (declared_as [] text ≡ Some d) ⊎ ((sort : Sort) × (name : Name) × (IsIn (sort, name) (flat_map spec_own (spec_of component))) × (text ≡ name.text) × (d ≡ declaration sort name.span))
      → May d
  declared_may shower is component among at text d (inl none) = absurd (none-some _ none)
  declared_may shower is component among at text d (inr k) = λ spot. subst (P spot) (sym k.4) (shown_may shower is component among at (k.0, k.1) k.2 spot)

  member_may : (shower : Decl) → IsSeen files here shower → (text : List ℕ) (d : Decl) → member_named outer.specs shower.spot text ≡ Some d → May d
  member_may shower is text d e = by (lookup (same_spot shower.spot) outer.specs) refl e
    where
      by : (found : Option Entries) → lookup (same_spot shower.spot) outer.specs ≡ found → option_and_then (λ spec. declared_as spec text) found ≡ Some d → May d
      by None at h = absurd (none-some _ h)
      by (Some spec) at h =
          let one : IsSpec all shower.spot spec = specs_known files shower.spot spec at in
          declared_may shower is one.component one.there one.at text d
          (declared_among (flat_map spec_own (spec_of one.component)) [] text d
          (ap (λ table. declared_as table text) (sym (one.is ∙ (specs_declares (spec_of one.component)).table [])) ∙ h))

  abbrev FoundMay : Option Decl → Type 0
  FoundMay None = Unit {0}
  FoundMay (Some d) = May d

  hidden_may : (hidden : Bool) (d : Decl) → May d → FoundMay (if hidden then None else Some d)
  hidden_may true d may = tt
  hidden_may false d may = may

  shown_fits : (shower : Decl) → IsSeen files here shower → (text : List ℕ) → FoundMay (shown outer.specs shower text)
  shown_fits shower is text = by (member_named outer.specs shower.spot text) refl
    where
      by : (found : Option Decl) → member_named outer.specs shower.spot text ≡ found
          → FoundMay (option_and_then (λ decl. if is_hidden shower.sort decl.sort then None else Some decl) found)
      by None at = tt
      by (Some d) at = hidden_may (is_hidden shower.sort d.sort) d (member_may shower is text d at)

  all_shown : (some : List Decl) → ((d : Decl) → IsIn d some → IsSeen files here d) → (text : List ℕ) (d : Decl) → IsIn d (candidates outer.specs some text) → May d
  all_shown [] are text d k = absurd k
  all_shown (shower ∷ some) are text d k = by (shown outer.specs shower text) (shown_fits shower (are shower (inl refl)) text) k (all_shown some (λ one h. are one (inr h)) text d)
    where
      by : (found : Option Decl) → FoundMay found → IsIn d (cons_option found (candidates outer.specs some text)) → (IsIn d (candidates outer.specs some text) → May d) → May d
      by None may among more = more among
      by (Some one) may (inl same) more = subst May same may
      by (Some one) may (inr among) more = more among

  -- ---- names

  usable_fits : (at : Spot) (usable : Bool) (d : Decl) → May d → Fits at (if usable then Some (Declared d) else None)
  usable_fits at true d may = may at
  usable_fits at false d may = tt

  ready_fits : (within : Option Spot) (at : Spot) (d : Decl) → May d → Fits at (ready within at d)
  ready_fits within at d may = usable_fits at (is_usable within at d) d may

  predefined_fits : (at : Spot) (found : Option PredefinedName) → Fits at (option_map MeansPredefined found)
  predefined_fits at None = tt
  predefined_fits at (Some name) = tt

  shown_once : (within : Option Spot) (text : List ℕ) (at : Spot) (decls : List Decl) → ((d : Decl) → IsIn d decls → May d) → Fits at (from_imports within text at (counted decls))
  shown_once within text at [] may = predefined_fits at (predefined_named text)
  shown_once within text at (decl ∷ []) may = ready_fits within at decl (may decl (inl refl))
  shown_once within text at (decl ∷ other ∷ decls) may = tt

  own_fits : (text : List ℕ) (d : Decl) → declared_as outer.own text ≡ Some d → May d
  own_fits text d e = by (declared_among (own_names here) [] text d (ap (λ table. declared_as table text) (sym (own_is here)) ∙ e))
    where
      by : (declared_as [] text ≡ Some d) ⊎ ((sort : Sort) × (name : Name) × (IsIn (sort, name) (own_names here)) × (text ≡ name.text) × (d ≡ declaration sort name.span)) → May d
      by (inl none) = absurd (none-some _ none)
      by (inr k) = λ at. subst (P at) (sym k.4) (own_may (k.0, k.1) k.2 at)

  names_fit : (within : Option Spot) (text : List ℕ) (at : Spot) → Fits at (denotes (inside outer within) no_blocks text at)
  names_fit within text at = by_own (declared_as outer.own text) refl
    where
      among : (found : Option Decl) (component : Decl) → option_and_then (λ one. component_at outer.visible one.spot) found ≡ Some component → IsIn component outer.visible
      among None component h = absurd (none-some _ h)
      among (Some one) component h = found_visible outer.visible one.spot component h

      by_visible : (found : Option Decl) → visible_named outer text ≡ found → Fits at (visible_meaning (inside outer within) text at found)
      by_visible (Some component) is = seen_may component (all_seen files here component (among (declared_as outer.components text) component is)) at
      by_visible None is = shown_once within text at (candidates outer.specs outer.visible text) (all_shown outer.visible (all_seen files here) text)

      by_own : (found : Option Decl) → declared_as outer.own text ≡ found → Fits at (own_meaning (inside outer within) text at found)
      by_own (Some d) is = ready_fits within at d (own_fits text d is)
      by_own None is = by_visible (visible_named outer text) refl

  members_fit : (within : Option Spot) (component : Decl) → exprs.IsNamed P component → (text : List ℕ) (at : Spot) → Fits at (member (inside outer within) component text at)
  members_fit within component named text at = by (shown outer.specs component text) (shown_fits component (seen named.at component named.is named.may) text)
    where
      by : (found : Option Decl) → FoundMay found → Fits at (option_and_then (ready within at) found)
      by None may = tt
      by (Some d) may = ready_fits within at d may

  pub place_fits : (within : Option Spot) → exprs.PlaceFits P (inside outer within)
  place_fits within = record { names = names_fit within; members = members_fit within }
