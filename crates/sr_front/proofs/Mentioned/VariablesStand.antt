-- Each shared variable that code, guards and reads of an accepted program name is one that the component has which is meant: the component
-- itself, or the global that it imports.
use Rattle.std.proofs.Common.{◌≡◌, List, None, Ok, flat_map, map}
use Rattle.std.specs.List.{IsDistinct}
use Rattle.sr_check.specs.ErrorFree.{ErrorFree}
use Rattle.sr_check.specs.Checked.{checked, first_refused}
use Rattle.sr_check.specs.Servicing.{AllServiceOwn}
use Rattle.sr_check_decl.specs.Inferring.{program_known}
use Rattle.sr_check_expr.specs.declared.facts.Facts.{Facts}
use Rattle.sr_desugar.specs.Laws.{WaitApart}
use Rattle.sr_names.specs.Specs.{Specs}
use Rattle.sr_names.specs.Spots.{same_spot, spot_of}
use Rattle.sr_order.specs.Names.{file_names}
use Rattle.sr_scope.specs.declared.program.Names.{Names}
use Rattle.sr_scope.specs.Resolved.{resolved}
use Rattle.sr_scope.specs.Uses.{IsIn}
use Rattle.sr_tables.specs.Parts.{components_in}
use Rattle.sr_tree.specs.declared.component.Component.{Component}
use Rattle.sr_tree.specs.declared.component.File.{File}
use Rattle.sr_front.specs.Variables.{HasVariables, mention_stands}
use Rattle.sr_front.proofs.Headed.Heads.{heads_found}
use Rattle.sr_front.proofs.Known.FreeBlocks.{FreeComponents}
use Rattle.sr_front.proofs.Known.Declared.{Apart}
use Rattle.sr_front.proofs.Served.Operations.{core}
use Rattle.sr_front.proofs.Mentioned.RootedCore.{core_passes}
use Rattle.sr_front.proofs.Mentioned.RootedNames.{SortsFit, all_rooted}
use Rattle.sr_front.proofs.Mentioned.RootsHad.{SharedRules}
use Rattle.sr_front.proofs.Typed.TypedCode.{Good}

module _ (specs : Specs) (files : List File) (facts : Facts) (names : Names) (named : resolved files ≡ Ok names) (kept : facts.uses ≡ names.uses)
    (services : AllServiceOwn names.uses files (program_known names.uses specs files)) (apart : Apart files)
    (names_apart : IsDistinct same_spot (map spot_of (flat_map file_names files))) (none : first_refused names.uses specs files ≡ None) (headed : ErrorFree (heads_found names.uses specs files))
    (types : FreeComponents (components_in files) (program_known names.uses specs files)) (checked_so : facts ≡ (checked names.uses specs files).facts) where
  abbrev known : Facts
  known = program_known names.uses specs files

  -- where all that is known before code is read has a type, and the sort of each name fits what is known of it
  pub variables_stand : WaitApart files facts → SharedRules files facts → ((component : Component) → IsIn component (components_in files) → SortsFit files facts component) → Good known
      → HasVariables (core files facts)
  variables_stand distinct rules sorts good =
      let passes = core_passes specs files facts names named kept services apart names_apart none headed types checked_so (mention_stands (core files facts)) (all_rooted files names named facts kept names_apart apart rules sorts) good distinct in
      record { code = passes.code; guards = passes.guards; reads = passes.reads }
