-- Each operation of the core is of a component and has a proc of the core, and each proc serves its operation.
use Rattle.std.proofs.Common.{◌≡◌, ℕ, ◌+◌, ◌<◌, Bool, List, Option, Some, None, length, map, flat_map, position, refl, ◌∙◌, subst, arith}
use Rattle.std.specs.Prelude.{IsTrue, nat_lt}
use Rattle.std.specs.List.{enumerate_from, list_all}
use Rattle.std.proofs.lemmas.Bool.{and_from, lt-ltb}
use Rattle.std.proofs.lemmas.List.{length-map}
use Rattle.std.proofs.lemmas.List.FromFn.{length-enumerate_from}
use Rattle.std.proofs.lemmas.List.Quantifiers.{position-Some}
use Rattle.sr_check_expr.specs.declared.facts.Facts.{Facts}
use Rattle.sr_core.specs.declared.component.Core.{Core}
use Rattle.sr_core.specs.declared.component.Operation.{Operation}
use Rattle.sr_core.specs.Serving.{operation_ok}
use Rattle.sr_core.specs.Tests.{if_some}
use Rattle.sr_desugar.specs.Core.{LoweredComponent, core_of, procs_in, whole_of, wholes_from}
use Rattle.sr_names.specs.declared.spot.Spot.{Spot}
use Rattle.sr_names.specs.Searches.{At}
use Rattle.sr_names.specs.Spots.{same_spot}
use Rattle.sr_names.proofs.Places.{at-within}
use Rattle.sr_outline.specs.Heads.{Heads, component_opened, operation_entry}
use Rattle.sr_outline.specs.Numbers.{component_served, served_spots}
use Rattle.sr_outline.specs.Outline.{component_entries, imports_of, tables_of}
use Rattle.sr_tables.specs.Shapes.{Shapes}
use Rattle.sr_tables.specs.declared.tables.Tables.{Tables}
use Rattle.sr_tables.specs.Parts.{components_in, spot_named}
use Rattle.sr_tree.specs.declared.component.Component.{Component}
use Rattle.sr_tree.specs.declared.component.File.{File}
use Rattle.sr_lower_expr.proofs.Within.{once_most}
use Rattle.sr_front.proofs.Known.Declared.{Apart, table_is}
use Rattle.sr_front.proofs.Lists.Members.{at_made, numbered_at, part_of, passed, zip_length}
use Rattle.sr_front.proofs.Served.Procs.{ServesAt, components_serve}

module _ (files : List File) (facts : Facts) where
  abbrev pub components : List Component
  components = components_in files

  abbrev pub tables : Tables
  tables = tables_of facts components

  abbrev pub core : Core
  core = core_of files facts

  abbrev pub imports : List (List ℕ)
  imports = map (imports_of facts tables.components) components

  abbrev pub wholes : List LoweredComponent
  wholes = wholes_from facts tables imports 0 components

  abbrev pub table : List (Spot × Operation)
  table = tables.operations

  abbrev pub served : List Spot
  served = flat_map (component_served facts) components

  pub components_count : length core.components ≡ length components
  components_count =
      length-map wholes (λ (whole : LoweredComponent). whole.component)
      ∙ length-map (enumerate_from 0 components) (whole_of facts tables imports)
      ∙ length-enumerate_from 0 components

  -- there are as many procs as operations that are served
  pub procs_count : length core.procs ≡ length served
  procs_count = zip_length (ServesAt table) (procs_in wholes) served (components_serve facts tables imports 0 components)

  numbers_some : (test : ℕ → Bool) (found : Option ℕ) → ((n : ℕ) → found ≡ Some n → IsTrue (test n)) → IsTrue (if_some test found)
  numbers_some test None passes = refl
  numbers_some test (Some n) passes = passes n refl

  module _ (shapes : Shapes) (heads : Heads) where
    -- an operation that is put in the table has the number of a component, and of a spot that is served
    entry_ok : (place : ℕ) (entry : Spot × Operation) → At (flat_map (component_entries facts shapes heads (served_spots facts components)) (enumerate_from 0 components)) place entry
        → IsTrue (operation_ok core entry.1)
    entry_ok place entry h =
        let part = part_of (component_entries facts shapes heads (served_spots facts components)) (enumerate_from 0 components) place entry h in
        let numbered : ℕ × Component = part.1 in
        let made = at_made (operation_entry (served_spots facts components) numbered.0) (component_opened facts shapes heads numbered.1) part.3.0 entry part.3.1 in
        subst (λ (one : Spot × Operation). IsTrue (operation_ok core one.1)) made.2
        (and_from _ _ (within numbered part.0 part.2) (numbers_some _ (position (same_spot (spot_named made.0.name)) (served_spots facts components)) (λ n found. proc_within (spot_named made.0.name) n found)))
      where
        within : (numbered : ℕ × Component) (at : ℕ) → At (enumerate_from 0 components) at numbered → IsTrue (nat_lt numbered.0 (length core.components))
        within numbered at h =
            let there = numbered_at 0 components at numbered h in
            let number : numbered.0 ≡ 0 + at = there.0 in
            lt-ltb _ _ (omega (arith, at-within components at numbered.1 there.1, components_count))

        proc_within : (spot : Spot) (n : ℕ) → position (same_spot spot) (served_spots facts components) ≡ Some n → IsTrue (nat_lt n (length core.procs))
        proc_within spot n found =
            let below : n < length (served_spots facts components) = (position-Some (same_spot spot) (served_spots facts components) n spot found).0 in
            lt-ltb _ _ (omega (arith, below, once_most served, procs_count))

  -- clause `operations` of `IsWellFormed`
  pub operations_ok : Apart files → IsTrue (list_all (operation_ok core) core.operations)
  operations_ok apart = passed (operation_ok core) core.operations (λ place operation h.
      let entry = at_made (λ (one : Spot × Operation). one.1) table place operation h in
      let is = table_is facts tables.shapes tables.heads (served_spots facts components) files apart in
      subst (λ one. IsTrue (operation_ok core one)) entry.2
      (entry_ok tables.shapes tables.heads place entry.0 (subst (λ entries. At entries place entry.0) is entry.1)))
