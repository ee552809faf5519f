-- Types and components are declared at the names of their declarations, before any statement is looked at.
use Rattle.std.proofs.Common.{◌≡◌, false, List, Some, sym, subst, flat_map}
use Rattle.sr_names.specs.declared.spot.Spot.{Spot}
use Rattle.sr_names.specs.Noted.{Meanings}
use Rattle.sr_names.specs.Specs.{Specs}
use Rattle.sr_names.specs.Spots.{same_spot, spot_of}
use Rattle.sr_names.proofs.Marking.{entry-other}
use Rattle.sr_tables.specs.Parts.{components_in}
use Rattle.sr_tree.specs.declared.component.File.{File}
use Rattle.sr_value.specs.declared.place.Span.{Span}
use Rattle.sr_check_expr.specs.declared.facts.Facts.{Facts}
use Rattle.sr_check_expr.specs.declared.info.Info.{Info}
use Rattle.sr_check_expr.specs.Infos.{info_at}
use Rattle.sr_check_decl.specs.Inferring.{program_known}
use Rattle.sr_check_decl.specs.Variables.{declare}
use Rattle.sr_check.proofs.Each.{Each}
use Rattle.sr_front.proofs.Known.KeptDeclared.{Declares, keeps_known}
use Rattle.sr_front.proofs.Names.PlainNames.{component_plain}
use Rattle.sr_front.proofs.Lists.Put.{put_holds}
use Rattle.sr_front.proofs.Known.Staying.{Loose}

module _ (spot : Spot) where
  -- no type and no component is declared at the spot
  abbrev Free : Facts → Type 0
  Free facts = Loose (info_at facts.infos spot)

  -- a name stands elsewhere
  abbrev pub Elsewhere : Span → Type 0
  Elsewhere span = same_spot spot (spot_of span) ≡ false

  abbrev Apart : Spot → Type 0
  Apart at = same_spot spot at ≡ false

  free_with : (facts : Facts) (at : Spot) (one : Info) → Loose (Some one) → Free facts → Free (declare facts at one)
  free_with facts at one loose free = put_holds facts at one (λ other. Loose) loose spot (λ apart. free)

  declares : Declares Free Apart
  declares = record {
    entered = λ facts signature free. free;
    put = λ facts at one apart free. subst Loose (sym (entry-other facts.infos at one spot apart)) free;
    operation = λ facts at ty component is_local free. free_with facts at _ tt free;
    standing = λ facts component free. free;
  }

  -- where no type and no component is named, none is known
  pub free_known : (uses : Meanings) (specs : Specs) (files : List File) → Each Elsewhere (flat_map component_plain (components_in files)) → Loose (info_at (program_known uses specs files).infos spot)
  free_known uses specs files apart = keeps_known Free Apart declares uses specs files apart tt
