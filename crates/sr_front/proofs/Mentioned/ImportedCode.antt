-- In the core of a program each imported global that code names is one that its component imports.
use Rattle.std.proofs.Common.{ℕ, ◌+◌, ◌≤◌, List, [], ◌∷◌, length, map, refl, arith}
use Rattle.std.specs.Prelude.{Bool, IsTrue}
use Rattle.sr_check_expr.specs.declared.facts.Facts.{Facts}
use Rattle.sr_core.specs.declared.component.Component.{Component as CoreComponent}
use Rattle.sr_core.specs.declared.component.Core.{Core}
use Rattle.sr_core.specs.declared.owner.Home.TheVariants as home
use Rattle.sr_core.specs.declared.owner.OperationOwner.TheVariants as whose
use Rattle.sr_core.specs.declared.owner.Root.TheVariants as root
use Rattle.sr_core.specs.Numbers.{Where}
use Rattle.sr_core.specs.Waiting.{CodeTest, component_codes}
use Rattle.sr_names.specs.declared.spot.Spot.{Spot}
use Rattle.sr_order.specs.Names.{item_names, spec_item_names}
use Rattle.sr_tree.specs.declared.component.Component.{Component}
use Rattle.sr_tree.specs.declared.component.File.{File}
use Rattle.sr_tree.specs.Parts.{body_of, spec_of}
use Rattle.sr_value.specs.declared.place.Span.{Span}
use Rattle.sr_outline.specs.Outline.{imports_at, imports_of, tables_of}
use Rattle.sr_tables.specs.declared.sites.Mention.{Mention}
use Rattle.sr_tables.specs.declared.sites.Mention.TheVariants as mention
use Rattle.sr_tables.specs.declared.tables.Tables.{Tables}
use Rattle.sr_tables.specs.Parts.{components_in}
use Rattle.sr_tables.specs.Tables.{things_in}
use Rattle.sr_lower_expr.specs.declared.scene.Scene.{Scene}
use Rattle.sr_lower_expr.specs.Places.{own_root, root_of, whose_by}
use Rattle.sr_lower_expr.proofs.PlaceNumbers.{Fits, root_of_ok}
use Rattle.sr_desugar.specs.Bodies.{in_body}
use Rattle.sr_desugar.specs.Core.{core_of, scene_of, wholes_of}
use Rattle.sr_front.specs.Imports.{mention_imported}
use Rattle.sr_front.proofs.Mentioned.GuardCode.{as_many, enough, scene_fits}
use Rattle.sr_front.proofs.Mentioned.MentionedCode.{AllMean, NamesMean, SceneMeans, components_mention, mentions_test}
use Rattle.sr_front.proofs.Mentioned.Mentions.{Means, all_names_pass}
use Rattle.sr_front.proofs.Mentioned.MentionsThere.{mention_exists, scene_means}
use Rattle.sr_desugar.proofs.WaitsCode.{component_procs}
use Rattle.std.specs.List.{flat_map}

-- what is there is imported
imported_of : (at : Where) (one : Mention) → IsTrue (mention_exists one at) → IsTrue (mention_imported at.imports one)
imported_of at (mention.Variable (root.Shared (home.Imported import) var)) ok = ok
imported_of at (mention.Operation (whose.Imported import)) ok = ok
imported_of at _ ok = refl

means_imported : (scene : Scene) (at : Where) → Fits scene at → Means scene (mention_imported at.imports)
means_imported scene at fits =
    let there = scene_means scene at fits in
    record {
      own = λ spot. imported_of at (mention.Variable (own_root scene spot)) (there.own spot);
      nowhere = refl;
      operations = λ scope component. imported_of at (mention.Operation (whose_by scene scope component)) (there.operations scope component);
      machine = refl;
      counts = λ spot operation is. refl;
    }

-- ---- one component

module _ (scene : Scene) (at : Where) (fits : Fits scene at) where
  abbrev standing_with : List Spot → Where
  standing_with own = record { owns = length own; imports = at.imports; core = at.core }

  fits_with : (own : List Spot) → Fits (in_body scene own) (standing_with own)
  fits_with own = record { owns = omega arith; imports = fits.imports; operations = fits.operations; components = fits.components }

  means_with : SceneMeans scene (mention_imported at.imports)
  means_with own = means_imported (in_body scene own) (standing_with own) (fits_with own)

  names_mean : (spans : List Span) → NamesMean scene (mention_imported at.imports) means_with spans
  names_mean spans own =
      all_names_pass (in_body scene own) (mention_imported at.imports) (means_with own)
      (λ spot. imported_of (standing_with own) (mention.Variable (root_of (in_body scene own) spot)) (root_of_ok (in_body scene own) (standing_with own) (fits_with own) spot)) spans

-- ---- all components

-- code names alone what its component imports
abbrev import_test : ℕ → CoreComponent → Mention → Bool
import_test number component = mention_imported (length component.imports)

abbrev pub code_imported : CodeTest
code_imported = mentions_test import_test

module _ (facts : Facts) (tables : Tables) (imports : List (List ℕ)) (core : Core)
    (operations : length (things_in tables.operations) ≤ length core.operations) (components : length tables.components ≤ length core.components) where
  all_mean : (number : ℕ) (trees : List Component) → AllMean facts tables imports import_test number trees
  all_mean number [] = tt
  all_mean number (component ∷ more) =
      let scene : Scene = scene_of facts tables imports number component in
      let at : Where = record { owns = length scene.own; imports = length (imports_at imports number); core = core } in
      let fits = scene_fits facts tables imports core operations components number component in (
        record {
          means = means_with scene at fits;
          in_spec = names_mean scene at fits (flat_map spec_item_names (spec_of component));
          in_body = names_mean scene at fits (flat_map item_names (body_of component));
        },
        all_mean (number + 1) more,
      )

pub core_imported : (files : List File) (facts : Facts)
    → (let wholes = wholes_of facts (components_in files) (tables_of facts (components_in files)) in
    IsTrue (component_codes code_imported 0 (core_of files facts).components) × IsTrue (component_procs code_imported 0 wholes))
core_imported files facts =
    let components = components_in files in
    let tables : Tables = tables_of facts components in
    let imports = map (imports_of facts tables.components) components in
    components_mention facts tables imports import_test 0 components
    (all_mean facts tables imports (core_of files facts) (omega arith) (as_many facts components tables imports (enough components)) 0 components)
