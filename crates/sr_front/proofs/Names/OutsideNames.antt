-- Each name in an item outside of code that is no import means a component, or what a component declares outside of code.
use Rattle.std.proofs.Common.{◌≡◌, List, [], flat_map, map, Some, Ok}
use Rattle.std.specs.List.{IsDistinct}
use Rattle.sr_names.specs.declared.meaning.Decl.{Decl}
use Rattle.sr_names.specs.declared.meaning.Meaning.TheVariants.{Declared}
use Rattle.sr_names.specs.Spots.{same_spot, spot_of}
use Rattle.sr_names.specs.Uses.{meaning_at}
use Rattle.sr_order.specs.Names.{file_names, spec_item_names}
use Rattle.sr_scope.specs.Components.{imported_names}
use Rattle.sr_scope.specs.declared.program.Names.{Names}
use Rattle.sr_scope.specs.Resolved.{resolved}
use Rattle.sr_scope.specs.Uses.{IsIn}
use Rattle.sr_tables.specs.Parts.{components_in}
use Rattle.sr_tree.specs.declared.component.Component.{Component}
use Rattle.sr_tree.specs.declared.component.File.{File}
use Rattle.sr_tree.specs.declared.component.Item.TheVariants as item
use Rattle.sr_tree.specs.declared.component.SpecItem.{SpecItem}
use Rattle.sr_tree.specs.Parts.{body_of, spec_of}
use Rattle.sr_value.specs.declared.place.Span.{Span}
use Rattle.sr_front.proofs.Names.RightNames.{body_names_right, spec_names_right}
use Rattle.sr_front.proofs.Names.UsableNames.{IsOutside}

-- it imports nothing
abbrev pub IsNoImport : SpecItem → Type 0
IsNoImport one = imported_names one ≡ []

module _ (files : List File) (names : Names) (named : resolved files ≡ Ok names) (distinct : IsDistinct same_spot (map spot_of (flat_map file_names files)))
    (here : Component) (there : IsIn here (components_in files)) (one : SpecItem) (no_import : IsNoImport one) where
  abbrev pub OutsideName : Span → Type 0
  OutsideName used = (decl : Decl) → meaning_at names.uses (spot_of used) ≡ Some (Declared decl) → IsOutside files decl

  pub spec_name_outside : IsIn one (spec_of here) → (used : Span) → IsIn used (spec_item_names one) → OutsideName used
  spec_name_outside among used k decl means = (spec_names_right files names named distinct here there one no_import among used k decl means).0.0

  pub body_name_outside : IsIn (item.Spec one) (body_of here) → (used : Span) → IsIn used (spec_item_names one) → OutsideName used
  body_name_outside among used k decl means = (body_names_right files names named distinct here there one no_import among used k decl means).0.0
