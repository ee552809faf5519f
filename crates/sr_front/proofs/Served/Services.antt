-- What procs serve is declared where they stand, so each proc of the core serves the operation that names it.
use Rattle.std.proofs.Common.{◌≡◌, ℕ, zero, suc, ◌+◌, Bool, false, List, Option, Some, length, flat_map, position, unwrap_or, refl, sym, ap, ◌∙◌, subst, arith}
use Rattle.std.specs.Prelude.{IsTrue}
use Rattle.std.specs.List.{IsDistinct}
use Rattle.std.specs.Option.{option_map}
use Rattle.sr_check.specs.Owners.{Declared, Owned, component_at, component_owned, declared_operations, item_owned, spec_item_owned}
use Rattle.sr_check.specs.Servicing.{AllServiceOwn, Served, ServicesOwn, component_served as component_meant, item_served as item_meant, meant_at}
use Rattle.sr_check_expr.specs.declared.facts.Facts.{Facts}
use Rattle.sr_check_expr.specs.Naming.{decl_of}
use Rattle.sr_core.specs.Serving.{procs_ok}
use Rattle.sr_names.specs.declared.meaning.Decl.{Decl}
use Rattle.sr_names.specs.declared.spot.Spot.{Spot}
use Rattle.sr_names.specs.Noted.{Meanings}
use Rattle.sr_names.specs.Searches.{At}
use Rattle.sr_names.specs.Spots.{same_spot, spot_of}
use Rattle.sr_names.specs.Uses.{meaning_at}
use Rattle.sr_names.proofs.Places.{at-right}
use Rattle.sr_check_expr.specs.Meanings.{meant_by}
use Rattle.sr_outline.specs.Numbers.{component_served, item_served, served_spots}
use Rattle.sr_tables.specs.Parts.{components_in, spot_named}
use Rattle.sr_tree.specs.declared.component.Component.{Component}
use Rattle.sr_tree.specs.declared.component.File.{File}
use Rattle.sr_tree.specs.declared.component.Item.{Item}
use Rattle.sr_tree.specs.declared.component.Item.TheVariants as item
use Rattle.sr_tree.specs.declared.name.Name.{Name}
use Rattle.sr_tree.specs.Parts.{body_of, spec_of}
use Rattle.sr_front.proofs.Known.Declared.{Apart, Entered, entered}
use Rattle.sr_front.proofs.Lists.Distinct.{place_is}
use Rattle.sr_front.proofs.Lists.Numbered.{each_once_apart}
use Rattle.sr_front.proofs.Lists.Members.{Among, all_at, all_parts, among_parts, contained, part_of, parts_of_parts}
use Rattle.sr_front.proofs.Served.Operations.{components, core, imports, served, table, tables}
use Rattle.sr_front.proofs.Served.Procs.{ServedAt, components_serve, procs_are_ok}

-- what a name means by the facts is what it means
pub meant_is : (uses : Meanings) (facts : Facts) (name : Name) (decl : Decl) → facts.uses ≡ uses → meant_at uses name.span ≡ Some decl → meant_by facts name ≡ decl.spot
meant_is uses facts name decl same means =
    (λ i. unwrap_or (option_map (λ (one : Decl). one.spot) (decl_of (meaning_at (same i) (spot_of name.span)))) (spot_of name.span))
    ∙ ap (λ (meant : Option Decl). unwrap_or (option_map (λ (one : Decl). one.spot) meant) (spot_of name.span)) means

-- ---- what is declared in a component

-- an operation of an item of a program is declared
pub item_declared : (files : List File) (number place : ℕ) (component : Component) (one : Item) (spot : Spot) (is_local : Bool)
    → At (components_in files) number component → At (body_of component) place one → Among (item_owned (component_at component) one) (spot, (component_at component, is_local))
    → Declared files spot (component_at component) is_local
item_declared files number place component one spot is_local there here among =
    let at = component_at component in
    let in_body : Among (flat_map (item_owned at) (body_of component)) (spot, (at, is_local)) = among_parts (item_owned at) (body_of component) place one (spot, (at, is_local)) here among in
    let in_spec : List Owned = flat_map (spec_item_owned at) (spec_of component) in
    let in_component : Among (component_owned component) (spot, (at, is_local)) =
    (length in_spec + in_body.0, at-right in_spec (flat_map (item_owned at) (body_of component)) in_body.0 (length in_spec + in_body.0) (spot, (at, is_local)) refl in_body.1) in
    let among_all : Among (flat_map component_owned (components_in files)) (spot, (at, is_local)) =
    among_parts component_owned (components_in files) number component (spot, (at, is_local)) there in_component in
    contained (declared_operations files) among_all.0 (spot, (at, is_local))
    (subst (λ all. At all among_all.0 (spot, (at, is_local))) (parts_of_parts (λ (file : File). file.components) component_owned files) among_all.1)

-- an operation that is declared, in the table of the program
pub put : (files : List File) (facts : Facts) → Apart files → (spot component : Spot) (is_local : Bool) → Declared files spot component is_local
    → Entered (components files facts) (served_spots facts (components files facts)) (table files facts) spot component is_local
put files facts apart = entered facts (tables files facts).shapes (tables files facts).heads (served_spots facts (components files facts)) files apart

module _ (uses : Meanings) (files : List File) (known facts : Facts) (same : facts.uses ≡ uses) (services : AllServiceOwn uses files known) where
  -- a component services its own operations
  pub services_own : (number : ℕ) (component : Component) → At (components_in files) number component → ServicesOwn uses files known component
  services_own number component there =
      all_at (ServicesOwn uses files known) (components_in files) number component (all_parts (ServicesOwn uses files known) (λ (file : File). file.components) files services) there

  -- what is served is declared in a component
  abbrev pub IsDeclared : Component → Spot → Type 0
  IsDeclared component spot = (is_local : Bool) × Declared files spot (component_at component) is_local

  item_serves_own : (number place : ℕ) (component : Component) (one : Item) (spot : Spot)
      → At (components_in files) number component → At (body_of component) place one → Among (item_served facts one) spot → IsDeclared component spot
  item_serves_own number place component (item.Proc proc) spot there here (zero, is) =
      let own = services_own number component there in
      let among : Among (component_meant uses component) (meant_at uses proc.name.span) =
      among_parts (item_meant uses) (body_of component) place (item.Proc proc) (meant_at uses proc.name.span) here (0, refl) in
      let serving = all_at (Served files known (component_at component) own.procs) (component_meant uses component) among.0 (meant_at uses proc.name.span) own.by_procs among.1 in (
        serving.is_local,
        subst (λ at. Declared files at (component_at component) serving.is_local)
            (sym (meant_is uses facts proc.name serving.own.decl same serving.own.means) ∙ is) serving.own.declared,
      )
  item_serves_own number place component (item.Proc proc) spot there here (suc k, is) = absurd is
  item_serves_own number place component (item.Procedure procedure) spot there here (zero, is) = (
    false,
    subst (λ at. Declared files at (component_at component) false) is
        (item_declared files number place component (item.Procedure procedure) (spot_named procedure.name) false there here (0, refl)),
  )
  item_serves_own number place component (item.Procedure procedure) spot there here (suc k, is) = absurd is
  item_serves_own number place component (item.Process process) spot there here (zero, is) = (
    false,
    subst (λ at. Declared files at (component_at component) false) is
        (item_declared files number place component (item.Process process) (spot_named process.name) false there here (0, refl)),
  )
  item_serves_own number place component (item.Process process) spot there here (suc k, is) = absurd is
  item_serves_own number place component _ spot there here (k, is) = absurd is

  pub serves_own : (number : ℕ) (component : Component) (spot : Spot) → At (components_in files) number component → Among (component_served facts component) spot → IsDeclared component spot
  serves_own number component spot there among =
      let part = part_of (item_served facts) (body_of component) among.0 spot among.1 in
      item_serves_own number part.0 component part.1 spot there part.2 part.3

  module _ (apart : Apart files) (once : IsDistinct same_spot (flat_map (component_served facts) (components_in files))) where
    served_at : (place : ℕ) (spot : Spot) → At (served files facts) place spot → ServedAt (table files facts) spot place
    served_at place spot h =
        let part = part_of (component_served facts) (components_in files) place spot h in
        let declared = serves_own part.0 part.1 spot part.2 part.3 in
        let there = put files facts apart spot (component_at part.1) declared.0 declared.1 in
        record {
          operation = there.operation;
          found = there.found;
          numbered = there.numbered;
          proc = there.proc ∙ ap (position (same_spot spot)) (each_once_apart (served files facts) once) ∙ place_is (served files facts) place spot once h;
        }

    -- clause `procs` of `IsWellFormed`
    pub procs_serve_own : IsTrue (procs_ok (core files facts) 0 (core files facts).procs)
    procs_serve_own =
        procs_are_ok (core files facts) (table files facts) 0 (core files facts).procs (served files facts) refl
        (components_serve facts (tables files facts) (imports files facts) 0 (components files facts)) (λ place spot h. from_zero place spot (served_at place spot h))
      where
        from_zero : (place : ℕ) (spot : Spot) → ServedAt (table files facts) spot place → ServedAt (table files facts) spot (0 + place)
        from_zero place spot there = let same_place : place ≡ 0 + place = omega arith in subst (ServedAt (table files facts) spot) same_place there
