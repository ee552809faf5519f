-- The core of a program whose names have their meanings has its components as they must be.
use Rattle.std.proofs.Common.{◌≡◌, true, List, map, sym, ap, ◌∙◌, subst, Ok}
use Rattle.std.specs.List.{list_all}
use Rattle.sr_check_expr.specs.declared.facts.Facts.{Facts}
use Rattle.sr_core.specs.WellFormed as wf
use Rattle.sr_desugar.specs.Core.{core_of}
use Rattle.sr_names.specs.Spots.{spot_of}
use Rattle.sr_names.specs.Uses.{meaning_at}
use Rattle.sr_outline.specs.Outline.{imports_of as numbers_of}
use Rattle.sr_scope.specs.declared.program.Names.{Names}
use Rattle.sr_scope.specs.Resolved.{resolved, findings}
use Rattle.sr_tables.specs.Parts.{components_in, component_spot}
use Rattle.sr_tree.specs.declared.component.File.{File}
use Rattle.sr_scope.specs.Uses.{OneMeaning}
use Rattle.sr_front.proofs.Names.ComponentsApart.{ComponentsApart}
use Rattle.sr_front.proofs.Names.Findings.{import_means, no_import_back}
use Rattle.sr_front.proofs.Names.Globals.{MeansDeclared, imports_from, no_cycle_in}
use Rattle.sr_front.proofs.CoreComponents.{NoFinalInGlobals, GlobalsCanBeMade, components_are}
use Rattle.sr_front.proofs.Lists.Numbered.{each_once_apart}

module _ (files : List File) (facts : Facts) (names : Names) (named : resolved files ≡ Ok names) (kept : facts.uses ≡ names.uses)
    (apart : ComponentsApart files) (one : OneMeaning (findings files)) (no_final : NoFinalInGlobals files) where
  means : MeansDeclared files facts
  means name component there among =
      let found = import_means files names named one name component there among in
      (found.0, found.1, ap (λ uses. meaning_at uses (spot_of name.span)) kept ∙ found.2)

  can_be_made : GlobalsCanBeMade files (map (numbers_of facts (map component_spot (components_in files))) (components_in files))
  can_be_made = record {
    no_cycle = no_cycle_in files (map (numbers_of facts (map component_spot (components_in files))) (components_in files)) (imports_from files facts apart means) (no_import_back files names named);
    imported = imports_from files facts apart means;
    no_final = no_final;
  }

  pub well_made : list_all (wf.component_ok (core_of files facts)) (core_of files facts).components ≡ true
  well_made =
      components_are files facts
      (subst (λ spots. GlobalsCanBeMade files (map (numbers_of facts spots) (components_in files))) (sym (each_once_apart (map component_spot (components_in files)) apart)) can_be_made)
