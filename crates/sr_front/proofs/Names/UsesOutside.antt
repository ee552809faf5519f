-- A fact of each name that is used, by what it means: outside of blocks it is a component, or what a component declares.
use Rattle.std.proofs.Common.{◌≡◌, ◌⊎◌, ℕ, Bool, true, false, List, [], ◌∷◌, Option, Some, None, flat_map, refl, sym, ap, ◌∙◌, subst, inl, inr, is_some, if◌then◌else◌, ◌&&◌, ◌||◌, not}
use Rattle.std.specs.Map.{lookup}
use Rattle.std.specs.Option.{option_and_then}
use Rattle.std.proofs.lemmas.Bool.{false≢true}
use Rattle.sr_names.specs.declared.meaning.Decl.{Decl}
use Rattle.sr_names.specs.declared.meaning.Meaning.{Meaning}
use Rattle.sr_names.specs.declared.meaning.Meaning.TheVariants.{Predefined as MeansPredefined, Declared}
use Rattle.sr_names.specs.declared.meaning.Sort.{Sort}
use Rattle.sr_names.specs.declared.place.Place.{Place}
use Rattle.sr_names.specs.declared.spot.Spot.{Spot}
use Rattle.sr_names.specs.Components.{member_named}
use Rattle.sr_names.specs.Entries.{Entries}
use Rattle.sr_names.specs.Readings.{declaration}
use Rattle.sr_names.specs.Scopes.{candidates, denotes, from_imports, is_usable, member, no_blocks, ready, shown, visible_named}
use Rattle.sr_names.specs.Shown.{counted}
use Rattle.sr_names.specs.Sorts.{is_hidden, needs_order}
use Rattle.sr_names.specs.Spots.{same_spot}
use Rattle.sr_names.specs.Tables.{declared_as}
use Rattle.sr_tables.specs.Parts.{components_in}
use Rattle.sr_tree.specs.declared.component.Component.{Component}
use Rattle.sr_tree.specs.declared.component.File.{File}
use Rattle.sr_tree.specs.declared.name.Name.{Name}
use Rattle.sr_tree.specs.Parts.{spec_of}
use Rattle.sr_scope.specs.Components.{decl_of, place_of}
use Rattle.sr_scope.specs.Items.{inside, specs_declared}
use Rattle.sr_scope.specs.Resolved.{program}
use Rattle.sr_scope.specs.Uses.{IsIn}
use Rattle.sr_scope.proofs.Findings.{in_left}
use Rattle.sr_scope.proofs.Meant.{IsComponent, IsDeclared, means}
use Rattle.sr_scope.proofs.OwnNames.{own_names, spec_own, specs_declares}
use Rattle.sr_scope.proofs.Tables.{declared_among}
use Rattle.sr_front.proofs.Names.Globals.{declared_component}
use Rattle.sr_front.proofs.Names.UsesInExprs as exprs
use Rattle.sr_front.proofs.Names.UsesVisible.{IsSpec, own_meaning, specs_known, visible_meaning}

-- what isn't usable within its own declaration is usable elsewhere
ready_less : (within : Option Spot) (at : Spot) (decl d : Decl) → ready within at decl ≡ Some (Declared d) → ready None at decl ≡ Some (Declared d)
ready_less within at decl d = by (not (needs_order decl.sort)) _ _
  where
    by : (a b c : Bool) → (if a || (b && c) then Some (Declared decl) else None) ≡ Some (Declared d) → (if a || (b && true) then Some (Declared decl) else None) ≡ Some (Declared d)
    by true b c e = e
    by false true true e = e
    by false true false e = absurd (false≢true (ap is_some e))
    by false false c e = absurd (false≢true (ap is_some e))

shown_less : (within : Option Spot) (text : List ℕ) (at : Spot) (d : Decl) (decls : List Decl) → from_imports within text at (counted decls) ≡ Some (Declared d)
    → from_imports None text at (counted decls) ≡ Some (Declared d)
shown_less within text at d [] e = e
shown_less within text at d (decl ∷ []) e = ready_less within at decl d e
shown_less within text at d (decl ∷ other ∷ decls) e = e

outside_less : (place : Place) (within : Option Spot) (text : List ℕ) (at : Spot) (d : Decl)
    → denotes (inside place within) no_blocks text at ≡ Some (Declared d) → denotes (inside place None) no_blocks text at ≡ Some (Declared d)
outside_less place within text at d = by_own (declared_as place.own text)
  where
    by_visible : (found : Option Decl) → visible_meaning (inside place within) text at found ≡ Some (Declared d) → visible_meaning (inside place None) text at found ≡ Some (Declared d)
    by_visible (Some component) e = e
    by_visible None e = shown_less within text at d (candidates place.specs place.visible text) e

    by_own : (found : Option Decl) → own_meaning (inside place within) text at found ≡ Some (Declared d) → own_meaning (inside place None) text at found ≡ Some (Declared d)
    by_own (Some decl) e = ready_less within at decl d e
    by_own None e = by_visible (visible_named place text) e

-- `P at decl`: a name at this spot may mean this declaration
module _ (files : List File) (P : Spot → Decl → Type 0)
    (component_may : (component : Component) → IsIn component (components_in files) → (at : Spot) → P at (decl_of component))
    (declared_may : (component : Component) → IsIn component (components_in files) → (one : Sort × Name) → IsIn one (own_names component) → (at : Spot) → P at (declaration one.0 one.1.span)) where
  abbrev all : List Component
  all = components_in files

  abbrev Table : Entries → Type 0
  Table = exprs.TableFits P

  abbrev pub Found : Option Decl → Type 0
  Found = exprs.FoundFits P

  abbrev Fits : Spot → Option Meaning → Type 0
  Fits = exprs.Fits P

  -- ---- specs and components

  spec_table : (component : Component) → IsIn component all → Table (specs_declared (spec_of component) [])
  spec_table component there text = by (declared_as (specs_declared (spec_of component) []) text) refl
    where
      declared : (d : Decl)
          → (declared_as [] text ≡ Some d) ⊎ ((sort : Sort) × (name : Name) × (IsIn (sort, name) (flat_map spec_own (spec_of component))) × (text ≡ name.text) × (d ≡ declaration sort name.span))
          → Found (Some d)
      declared d (inl h) = absurd (false≢true (ap is_some h))
      declared d (inr h) = λ at. subst (P at) (sym h.4) (declared_may component there (h.0, h.1) (in_left (h.0, h.1) (flat_map spec_own (spec_of component)) _ h.2) at)

      by : (found : Option Decl) → declared_as (specs_declared (spec_of component) []) text ≡ found → Found found
      by None is = tt
      by (Some d) is = declared d (declared_among (flat_map spec_own (spec_of component)) [] text d (ap (λ table. declared_as table text) (sym ((specs_declares (spec_of component)).table [])) ∙ is))

  abbrev SpecFits : Option Entries → Type 0
  SpecFits None = Unit {0}
  SpecFits (Some table) = Table table

  -- the components of a place, and the names of their specs
  pub record Collected (place : Place) : Type 0 where
    pub components : Table place.components
    pub specs : (spot : Spot) → SpecFits (lookup (same_spot spot) place.specs)

  pub known : Collected (program files)
  known = record { components = λ text. named text (declared_as (program files).components text) refl; specs = λ spot. held spot (lookup (same_spot spot) (program files).specs) refl }
    where
      named : (text : List ℕ) (found : Option Decl) → declared_as (program files).components text ≡ found → Found found
      named text None is = tt
      named text (Some d) is = let one = declared_component files text d is in λ at. subst (P at) one.2 (component_may one.0 one.1 at)

      held : (spot : Spot) (found : Option Entries) → lookup (same_spot spot) (program files).specs ≡ found → SpecFits found
      held spot None is = tt
      held spot (Some spec) is =
          let one : IsSpec all spot spec = specs_known files spot spec is in
          subst Table (sym one.is) (spec_table one.component one.there)

  -- ---- members

  hidden_fits : (hidden : Bool) (decl : Decl) → Found (Some decl) → Found (if hidden then None else Some decl)
  hidden_fits true decl fits = tt
  hidden_fits false decl fits = fits

  shown_by : (component : Decl) (found : Option Decl) → Found found → Found (option_and_then (λ decl. if is_hidden component.sort decl.sort then None else Some decl) found)
  shown_by component None fits = tt
  shown_by component (Some decl) fits = hidden_fits (is_hidden component.sort decl.sort) decl fits

  pub spec_named : (text : List ℕ) (found : Option Entries) → SpecFits found → Found (option_and_then (λ table. declared_as table text) found)
  spec_named text None fits = tt
  spec_named text (Some table) fits = fits text

  ready_fits : (at : Spot) (usable : Bool) (decl : Decl) → Found (Some decl) → Fits at (if usable then Some (Declared decl) else None)
  ready_fits at true decl fits = fits at
  ready_fits at false decl fits = tt

  member_by : (within : Option Spot) (at : Spot) (found : Option Decl) → Found found → Fits at (option_and_then (ready within at) found)
  member_by within at None fits = tt
  member_by within at (Some decl) fits = ready_fits at (is_usable within at decl) decl fits

  member_fits : (place : Place) → ((spot : Spot) → SpecFits (lookup (same_spot spot) place.specs)) → (component : Decl) (text : List ℕ) (at : Spot) → Fits at (member place component text at)
  member_fits place fits component text at =
      member_by place.within at (shown place.specs component text)
      (shown_by component (member_named place.specs component.spot text) (spec_named text (lookup (same_spot component.spot) place.specs) (fits component.spot)))

  -- ---- what a name means outside of blocks

  meant_fits : (text : List ℕ) (at : Spot) (d : Decl) → IsComponent all d ⊎ IsDeclared all text d → P at d
  meant_fits text at d (inl h) = subst (P at) (sym h.is) (component_may h.component h.there at)
  meant_fits text at d (inr h) = subst (P at) (sym h.is) (declared_may h.component h.there (h.sort, h.name) h.among at)

  module _ (component : Component) (there : IsIn component all) where
    abbrev place : Place
    place = place_of (program files).components (program files).specs component

    names_fit : (within : Option Spot) (text : List ℕ) (at : Spot) → Fits at (denotes (inside place within) no_blocks text at)
    names_fit within text at = by (denotes (inside place within) no_blocks text at) refl
      where
        by : (found : Option Meaning) → denotes (inside place within) no_blocks text at ≡ found → Fits at found
        by None is = tt
        by (Some (MeansPredefined name)) is = tt
        by (Some (Declared d)) is = meant_fits text at d (means files component there text at d (outside_less place within text at d is))

    pub place_fits : (within : Option Spot) → exprs.PlaceFits P (inside place within)
    place_fits within = record { names = names_fit within; members = λ named is. member_fits (inside place within) (known.specs) named }

  pub no_blocks_fit : exprs.BlocksFit P no_blocks
  no_blocks_fit = record { innermost = exprs.none_fit P; outer = tt }
