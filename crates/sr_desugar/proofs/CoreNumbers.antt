-- Each number in a core names something, whatever it is written from.
use Rattle.std.proofs.Common.{ℕ, ◌≤◌, List, IsTrue, length, map, arith, flat_map}
use Rattle.std.proofs.lemmas.Bool.{and_from}
use Rattle.std.proofs.lemmas.List.{length-map}
use Rattle.std.proofs.lemmas.List.FromFn.{length-enumerate_from}
use Rattle.std.specs.List.{enumerate_from, list_all}
use Rattle.sr_check_expr.specs.declared.facts.Facts.{Facts}
use Rattle.sr_core.specs.declared.component.Core.{Core}
use Rattle.sr_core.specs.Numbers.{numbers_ok}
use Rattle.sr_core.specs.Tests.{codes_of}
use Rattle.sr_tree.specs.declared.component.Component.{Component as ComponentTree}
use Rattle.sr_tree.specs.declared.component.File.{File}
use Rattle.sr_tree.specs.Parts.{body_of, spec_of}
use Rattle.sr_outline.specs.Numbers.{item_names}
use Rattle.sr_outline.specs.Outline.{imports_at, imports_of, tables_of}
use Rattle.sr_tables.specs.declared.tables.Tables.{Tables}
use Rattle.sr_tables.specs.Parts.{component_spot, components_in}
use Rattle.sr_tables.specs.Tables.{each_once, things_in}
use Rattle.sr_lower_expr.specs.declared.scene.Scene.{Scene}
use Rattle.sr_desugar.specs.Core.{LoweredComponent, core_of, core_with, scene_of, whole_of, wholes_from, wholes_of}
use Rattle.sr_desugar.specs.Numbered.{codes_numbered, procs_numbered}
use Rattle.sr_desugar.proofs.BodyNumbers.{final_numbers, initial_numbers, procs_numbers}
use Rattle.sr_lower_expr.proofs.Each.{made_passes, turned_passes}
use Rattle.sr_lower_expr.proofs.PlaceNumbers.{Fits}
use Rattle.sr_lower_expr.proofs.Within.{once_most, once_some}

-- ---- a component in a core with these tables

module _ (facts : Facts) (tables : Tables) (imports : List (List ℕ)) (core : Core)
    (operations : length (things_in tables.operations) ≤ length core.operations) (components : length tables.components ≤ length core.components) where
  fits : (numbered : ℕ × ComponentTree) → Fits (scene_of facts tables imports numbered.0 numbered.1)
      (record { owns = length (scene_of facts tables imports numbered.0 numbered.1).own; imports = length (imports_at imports numbered.0); core = core })
  fits numbered = record { owns = omega arith; imports = omega arith; operations = operations; components = components }

  pub codes_numbers : (numbered : ℕ × ComponentTree)
      → IsTrue (list_all (numbers_ok core (whole_of facts tables imports numbered).component) (codes_of (whole_of facts tables imports numbered).component))
  codes_numbers numbered =
      let scene : Scene = scene_of facts tables imports numbered.0 numbered.1 in
      and_from _ _
      (initial_numbers scene (record { owns = length scene.own; imports = length (imports_at imports numbered.0); core = core }) (fits numbered)
      (spec_of numbered.1) (body_of numbered.1) (once_some (flat_map (item_names scene.facts) (body_of numbered.1))))
      (final_numbers scene (record { owns = length scene.own; imports = length (imports_at imports numbered.0); core = core }) (fits numbered) (body_of numbered.1))

  pub procs_numbers_of : (numbered : ℕ × ComponentTree) → IsTrue (procs_numbered core (whole_of facts tables imports numbered))
  procs_numbers_of numbered =
      let scene : Scene = scene_of facts tables imports numbered.0 numbered.1 in
      procs_numbers scene (record { owns = length scene.own; imports = length (imports_at imports numbered.0); core = core }) (fits numbered) (body_of numbered.1)

-- ---- the core of components

module _ (facts : Facts) (components : List ComponentTree) (tables : Tables) (imports : List (List ℕ))
    (all : length tables.components ≤ length components) where
  abbrev wholes : List LoweredComponent
  wholes = wholes_from facts tables imports 0 components

  abbrev written : Core
  written = core_with components tables wholes

  -- there is one component for each tree
  count : length tables.components ≤ length written.components
  count =
      let mapped = length-map wholes (λ (whole : LoweredComponent). whole.component) in
      let made = length-map (enumerate_from 0 components) (whole_of facts tables imports) in
      let numbered = length-enumerate_from 0 components in
      omega (arith, all, mapped, made, numbered)

  operations : length (things_in tables.operations) ≤ length written.operations
  operations = omega arith

  pub all_codes : IsTrue (codes_numbered written)
  all_codes =
      turned_passes (λ component. list_all (numbers_ok written component) (codes_of component))
      (λ (whole : LoweredComponent). list_all (numbers_ok written whole.component) (codes_of whole.component)) (λ whole. whole.component) (λ whole ok. ok)
      wholes
      (made_passes (λ (whole : LoweredComponent). list_all (numbers_ok written whole.component) (codes_of whole.component)) (whole_of facts tables imports)
      (codes_numbers facts tables imports written operations count) (enumerate_from 0 components))

  pub all_procs_in : IsTrue (list_all (procs_numbered written) wholes)
  all_procs_in =
      made_passes (procs_numbered written) (whole_of facts tables imports) (procs_numbers_of facts tables imports written operations count) (enumerate_from 0 components)

-- ---- the core of files

enough : (components : List ComponentTree) → length (each_once (map component_spot components)) ≤ length components
enough components =
    let once = once_most (map component_spot components) in
    let mapped = length-map components component_spot in
    omega (arith, once, mapped)

pub codes : (files : List File) (facts : Facts) → IsTrue (codes_numbered (core_of files facts))
codes files facts =
    let components : List ComponentTree = components_in files in
    let tables : Tables = tables_of facts components in
    all_codes facts components tables (map (imports_of facts tables.components) components) (enough components)

pub procs : (files : List File) (facts : Facts)
    → IsTrue (list_all (procs_numbered (core_of files facts)) (wholes_of facts (components_in files) (tables_of facts (components_in files))))
procs files facts =
    let components : List ComponentTree = components_in files in
    let tables : Tables = tables_of facts components in
    all_procs_in facts components tables (map (imports_of facts tables.components) components) (enough components)
