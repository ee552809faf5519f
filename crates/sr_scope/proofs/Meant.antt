-- What a name means outside of blocks: a component, or what a component declares under that name.
use Rattle.std.proofs.Common.{◌≡◌, ◌⊎◌, ℕ, Bool, true, false, List, [], ◌∷◌, ◌++◌, Option, None, Some, refl, ap, sym, ◌∙◌, subst, inl, inr, is_some, if◌then◌else◌, flat_map}
use Rattle.std.specs.Map.{lookup}
use Rattle.std.specs.Option.{option_map, option_and_then}
use Rattle.std.specs.List.{cons_option}
use Rattle.std.proofs.lemmas.Bool.{false≢true}
use Rattle.sr_names.proofs.Marking.{entry-same, entry-other, same_spot-cases}
use Rattle.sr_names.specs.declared.meaning.Decl.{Decl}
use Rattle.sr_names.specs.declared.meaning.Meaning.{Meaning}
use Rattle.sr_names.specs.declared.meaning.Meaning.TheVariants.{Predefined, Declared}
use Rattle.sr_names.specs.declared.meaning.Sort.{Sort}
use Rattle.sr_names.specs.declared.place.Place.{Place}
use Rattle.sr_names.specs.declared.predefined.Predefined.{Predefined as PredefinedName}
use Rattle.sr_names.specs.declared.spot.Spot.{Spot}
use Rattle.sr_names.specs.Components.{member_named, with_members}
use Rattle.sr_names.specs.Entries.{Entries}
use Rattle.sr_names.specs.Predefined.{predefined_named}
use Rattle.sr_names.specs.Readings.{declaration}
use Rattle.sr_names.specs.Scopes.{no_blocks, is_usable, ready, shown, candidates, from_imports, visible_named, denotes}
use Rattle.sr_names.specs.Shown.{counted}
use Rattle.sr_names.specs.Sorts.{is_hidden}
use Rattle.sr_names.specs.Specs.{Specs}
use Rattle.sr_names.specs.Spots.{same_spot, spot_of}
use Rattle.sr_names.specs.Tables.{declared_as}
use Rattle.sr_names.specs.Visible.{component_at, with_component}
use Rattle.sr_tree.specs.declared.component.Component.{Component}
use Rattle.sr_tree.specs.declared.component.File.{File}
use Rattle.sr_tree.specs.declared.name.Name.{Name}
use Rattle.sr_tree.specs.Parts.{name_of, spec_of}
use Rattle.sr_scope.specs.Components.{sort_of, decl_of, collected, all_collected, files_collected, with_import, with_imports, imports_of, place_of}
use Rattle.sr_scope.specs.Items.{specs_declared}
use Rattle.sr_scope.specs.Resolved.{program, no_place}
use Rattle.sr_scope.specs.Uses.{IsIn}
use Rattle.sr_scope.proofs.Findings.{in_left, in_right, in_either}
use Rattle.sr_scope.proofs.OwnNames.{own_names, spec_own, own_is, specs_declares}
use Rattle.sr_scope.proofs.Tables.{declared_among, declared_before}

-- a declaration of one of these components
pub record IsComponent (all : List Component) (d : Decl) : Type 0 where
  pub component : Component
  pub there : IsIn component all
  pub is : d ≡ decl_of component

-- a declaration of this name in one of these components
pub record IsDeclared (all : List Component) (text : List ℕ) (d : Decl) : Type 0 where
  pub component : Component
  pub there : IsIn component all
  pub sort : Sort
  pub name : Name
  pub among : IsIn (sort, name) (own_names component)
  pub spelled : text ≡ name.text
  pub is : d ≡ declaration sort name.span

-- the names of the spec of one of these components
record IsSpec (all : List Component) (spec : Entries) : Type 0 where
  component : Component
  there : IsIn component all
  is : spec ≡ specs_declared (spec_of component) []

-- the components of a place are some of these, and its specs theirs
record Collected (all : List Component) (place : Place) : Type 0 where
  components : (text : List ℕ) (d : Decl) → declared_as place.components text ≡ Some d → IsComponent all d
  specs : (spot : Spot) (spec : Entries) → lookup (same_spot spot) place.specs ≡ Some spec → IsSpec all spec

no_none : {A : Type 0} {a : A} → None ≡ Some a → ⊥
no_none e = false≢true (ap is_some e)

some_is : {A : Type 0} {a b : A} → Some a ≡ Some b → a ≡ b
some_is e = cc

-- what a name means that the component doesn't declare, by the component that it names
abbrev pub visible_meaning : Place → List ℕ → Spot → Option Decl → Option Meaning
visible_meaning place text at (Some component) = Some (Declared component)
visible_meaning place text at None = from_imports place.within text at (counted (candidates place.specs place.visible text))

-- what a name means outside of blocks, by what the component declares it as
abbrev pub own_meaning : Place → List ℕ → Spot → Option Decl → Option Meaning
own_meaning place text at (Some decl) = ready place.within at decl
own_meaning place text at None = visible_meaning place text at (visible_named place text)

module _ (all : List Component) where
  -- ---- components and their specs

  collected_one : (component : Component) (place : Place) → IsIn component all → Collected all place → Collected all (collected component place)
  collected_one component place there before = record {
    components = λ text d e. of_component text d
        (declared_before place.components (name_of component).text text (declaration (sort_of component) (name_of component).span) d e);
    specs = λ spot spec e. of_spec spot spec (same_spot-cases spot (spot_of (name_of component).span)) e;
  }
    where
      table : Entries
      table = specs_declared (spec_of component) []

      of_component : (text : List ℕ) (d : Decl)
          → (declared_as place.components text ≡ Some d) ⊎ ((text ≡ (name_of component).text) × (declaration (sort_of component) (name_of component).span ≡ d)) → IsComponent all d
      of_component text d (inl e) = before.components text d e
      of_component text d (inr h) = record { component = component; there = there; is = sym h.1 }

      of_spec : (spot : Spot) (spec : Entries) → (spot ≡ spot_of (name_of component).span) ⊎ (same_spot spot (spot_of (name_of component).span) ≡ false)
          → lookup (same_spot spot) (with_members place.specs (spot_of (name_of component).span) table) ≡ Some spec → IsSpec all spec
      of_spec spot spec (inl same) e = record {
        component = component;
        there = there;
        is = sym (some_is (sym (entry-same place.specs (spot_of (name_of component).span) table)
            ∙ ap (λ at. lookup (same_spot at) (with_members place.specs (spot_of (name_of component).span) table)) (sym same) ∙ e));
      }
      of_spec spot spec (inr other) e = before.specs spot spec (sym (entry-other place.specs (spot_of (name_of component).span) table spot other) ∙ e)

  collected_all : (components : List Component) (place : Place) → ((component : Component) → IsIn component components → IsIn component all)
      → Collected all place → Collected all (all_collected components place)
  collected_all [] place there before = before
  collected_all (component ∷ components) place there before =
      collected_all components (collected component place) (λ one k. there one (inr k)) (collected_one component place (there component (inl refl)) before)

  collected_files : (files : List File) (place : Place) → ((component : Component) → IsIn component (flat_map (λ file. file.components) files) → IsIn component all)
      → Collected all place → Collected all (files_collected files place)
  collected_files [] place there before = before
  collected_files (file ∷ files) place there before =
      collected_files files (all_collected file.components place) (λ one k. there one (in_right one file.components _ k))
      (collected_all file.components place (λ one k. there one (in_left one file.components _ k)) before)

  -- ---- what is visible

  abbrev AllVisible : List Decl → Type 0
  AllVisible visible = (d : Decl) → IsIn d visible → IsComponent all d

  visible_more : (visible : List Decl) (d : Decl) → IsComponent all d → AllVisible visible → AllVisible (with_component visible d)
  visible_more visible d is before = by (is_some (component_at visible d.spot))
    where
      last : (other : Decl) → IsIn other visible ⊎ ((d ≡ other) ⊎ ⊥) → IsComponent all other
      last other (inl k) = before other k
      last other (inr (inl e)) = subst (λ one. IsComponent all one) e is
      last other (inr (inr k)) = absurd k

      by : (b : Bool) → (other : Decl) → IsIn other (if b then visible else visible ++ d ∷ []) → IsComponent all other
      by true other k = before other k
      by false other k = last other (in_either other visible (d ∷ []) k)

  abbrev import_by : List Decl → Option Decl → List Decl
  import_by visible None = visible
  import_by visible (Some component) = with_component visible component

  visible_import : (found : Option Decl) (visible : List Decl) → ((d : Decl) → found ≡ Some d → IsComponent all d) → AllVisible visible → AllVisible (import_by visible found)
  visible_import None visible known before = before
  visible_import (Some d) visible known before = visible_more visible d (known d refl) before

  visible_imports : (components : Entries) → ((text : List ℕ) (d : Decl) → declared_as components text ≡ Some d → IsComponent all d)
      → (names : List Name) (visible : List Decl) → AllVisible visible → AllVisible (with_imports components names visible)
  visible_imports components known [] visible before = before
  visible_imports components known (name ∷ names) visible before =
      visible_imports components known names (with_import components name visible)
      (visible_import (declared_as components name.text) visible (known name.text) before)

  -- what is found at a spot is among them
  found_visible : (visible : List Decl) (spot : Spot) (d : Decl) → component_at visible spot ≡ Some d → IsIn d visible
  found_visible [] spot d e = absurd (no_none e)
  found_visible (one ∷ visible) spot d e = by (same_spot spot one.spot) (found_visible visible spot d) e
    where
      by : (b : Bool) → (component_at visible spot ≡ Some d → IsIn d visible) → (if b then Some one else component_at visible spot) ≡ Some d → IsIn d (one ∷ visible)
      by true rest h = inl (some_is h)
      by false rest h = inr (rest h)

  -- ---- what is shown

  hidden_or : (hidden : Bool) (decl d : Decl) → (if hidden then None else Some decl) ≡ Some d → decl ≡ d
  hidden_or true decl d e = absurd (no_none e)
  hidden_or false decl d e = some_is e

  shown_member : (sort : Sort) (found : Option Decl) (d : Decl) → option_and_then (λ decl. if is_hidden sort decl.sort then None else Some decl) found ≡ Some d → found ≡ Some d
  shown_member sort None d e = absurd (no_none e)
  shown_member sort (Some decl) d e = ap Some (hidden_or (is_hidden sort decl.sort) decl d e)

  shown_somewhere : (specs : Specs) (visible : List Decl) (text : List ℕ) (d : Decl) → IsIn d (candidates specs visible text)
      → (component : Decl) × (member_named specs component.spot text ≡ Some d)
  shown_somewhere specs [] text d k = absurd k
  shown_somewhere specs (component ∷ visible) text d k = by (shown specs component text) refl k (shown_somewhere specs visible text d)
    where
      by : (found : Option Decl) → shown specs component text ≡ found → IsIn d (cons_option found (candidates specs visible text))
          → (IsIn d (candidates specs visible text) → (component : Decl) × (member_named specs component.spot text ≡ Some d))
          → (component : Decl) × (member_named specs component.spot text ≡ Some d)
      by None is among more = more among
      by (Some one) is (inl same) more = (component, shown_member component.sort (member_named specs component.spot text) d (is ∙ ap Some same))
      by (Some one) is (inr among) more = more among

  -- ---- members of specs

  member_declared : (specs : Specs) → ((spot : Spot) (spec : Entries) → lookup (same_spot spot) specs ≡ Some spec → IsSpec all spec)
      → (spot : Spot) (text : List ℕ) (d : Decl) → member_named specs spot text ≡ Some d → IsDeclared all text d
  member_declared specs known spot text d e = by (lookup (same_spot spot) specs) refl e
    where
      declared : (component : Component) → IsIn component all
          → (declared_as [] text ≡ Some d) ⊎ ((sort : Sort) × (name : Name) × (IsIn (sort, name) (flat_map spec_own (spec_of component))) × (text ≡ name.text) × (d ≡ declaration sort name.span))
          → IsDeclared all text d
      declared component there (inl h) = absurd (no_none h)
      declared component there (inr h) = record {
        component = component;
        there = there;
        sort = h.0;
        name = h.1;
        among = in_left (h.0, h.1) (flat_map spec_own (spec_of component)) _ h.2;
        spelled = h.3;
        is = h.4;
      }

      by : (found : Option Entries) → lookup (same_spot spot) specs ≡ found → option_and_then (λ spec. declared_as spec text) found ≡ Some d → IsDeclared all text d
      by None is h = absurd (no_none h)
      by (Some spec) is h =
          let one = known spot spec is in
          declared one.component one.there
          (declared_among (flat_map spec_own (spec_of one.component)) [] text d
          (ap (λ table. declared_as table text) (sym (one.is ∙ (specs_declares (spec_of one.component)).table [])) ∙ h))

  -- ---- what a name means

  ready_is : (within : Option Spot) (at : Spot) (decl d : Decl) → ready within at decl ≡ Some (Declared d) → decl ≡ d
  ready_is within at decl d = by (is_usable within at decl)
    where
      by : (b : Bool) → (if b then Some (Declared decl) else None) ≡ Some (Declared d) → decl ≡ d
      by true e = cc
      by false e = absurd (no_none e)

  predefined_not : (found : Option PredefinedName) (d : Decl) → option_map Predefined found ≡ Some (Declared d) → ⊥
  predefined_not None d e = no_none e
  predefined_not (Some name) d e = cc

  abbrev Meant : List ℕ → Decl → Type 0
  Meant text d = IsComponent all d ⊎ IsDeclared all text d

  module _ (place : Place) (text : List ℕ) (at : Spot) (d : Decl)
      (own : (decl : Decl) → declared_as place.own text ≡ Some decl → IsDeclared all text decl)
      (visible : AllVisible place.visible)
      (specs : (spot : Spot) (spec : Entries) → lookup (same_spot spot) place.specs ≡ Some spec → IsSpec all spec) where
    by_imports : (decls : List Decl) → candidates place.specs place.visible text ≡ decls → from_imports place.within text at (counted decls) ≡ Some (Declared d) → Meant text d
    by_imports [] is e = absurd (predefined_not (predefined_named text) d e)
    by_imports (decl ∷ []) is e =
        let there = shown_somewhere place.specs place.visible text decl (subst (λ (decls : List Decl). IsIn decl decls) (sym is) (inl refl)) in
        inr (subst (λ one. IsDeclared all text one) (ready_is place.within at decl d e) (member_declared place.specs specs there.0.spot text decl there.1))
    by_imports (decl ∷ other ∷ decls) is e = absurd (no_none e)

    by_visible : (found : Option Decl) → visible_named place text ≡ found → visible_meaning place text at found ≡ Some (Declared d) → Meant text d
    by_visible (Some component) is e = inl (subst (λ one. IsComponent all one) (same e) (visible component (among (declared_as place.components text) is)))
      where
        same : Some (Declared component) ≡ Some (Declared d) → component ≡ d
        same h = cc

        among : (found : Option Decl) → option_and_then (λ one. component_at place.visible one.spot) found ≡ Some component → IsIn component place.visible
        among None h = absurd (no_none h)
        among (Some one) h = found_visible place.visible one.spot component h
    by_visible None is e = by_imports (candidates place.specs place.visible text) refl e

    by_own : (found : Option Decl) → declared_as place.own text ≡ found → own_meaning place text at found ≡ Some (Declared d) → Meant text d
    by_own (Some decl) is e = inr (subst (λ one. IsDeclared all text one) (ready_is place.within at decl d e) (own decl is))
    by_own None is e = by_visible (visible_named place text) refl e

    outside_means : denotes place no_blocks text at ≡ Some (Declared d) → Meant text d
    outside_means e = by_own (declared_as place.own text) refl e

-- what a name means that is used in a component outside of blocks
pub means : (files : List File) (component : Component) → IsIn component (flat_map (λ file. file.components) files)
    → (text : List ℕ) (at : Spot) (d : Decl)
    → denotes (place_of (program files).components (program files).specs component) no_blocks text at ≡ Some (Declared d)
    → IsComponent (flat_map (λ file. file.components) files) d ⊎ IsDeclared (flat_map (λ file. file.components) files) text d
means files component there text at d =
    outside_means all place text at d own (visible_imports all place.components known.components (imports_of component) (with_component [] (decl_of component)) itself) known.specs
  where
    all : List Component
    all = flat_map (λ file. file.components) files

    place : Place
    place = place_of (program files).components (program files).specs component

    known : Collected all (program files)
    known = collected_files all files no_place (λ one k. k) (record { components = λ text d e. absurd (no_none e); specs = λ spot spec e. absurd (no_none e) })

    itself : (one : Decl) → IsIn one (with_component [] (decl_of component)) → IsComponent all one
    itself one (inl e) = record { component = component; there = there; is = sym e }
    itself one (inr k) = absurd k

    own_declared_as : (decl : Decl)
        → (declared_as [] text ≡ Some decl) ⊎ ((sort : Sort) × (name : Name) × (IsIn (sort, name) (own_names component)) × (text ≡ name.text) × (decl ≡ declaration sort name.span))
        → IsDeclared all text decl
    own_declared_as decl (inl h) = absurd (no_none h)
    own_declared_as decl (inr h) = record { component = component; there = there; sort = h.0; name = h.1; among = h.2; spelled = h.3; is = h.4 }

    own : (decl : Decl) → declared_as place.own text ≡ Some decl → IsDeclared all text decl
    own decl e = own_declared_as decl (declared_among (own_names component) [] text decl (ap (λ table. declared_as table text) (sym (own_is component)) ∙ e))
