-- Where an operation of the table stands nothing but an operation is known.
use Rattle.std.proofs.Common.{◌≡◌, Bool, List, Option, Some, None, sym, ◌∙◌, flat_map}
use Rattle.std.proofs.lemmas.Option.{none-some}
use Rattle.sr_names.specs.declared.spot.Spot.{Spot}
use Rattle.sr_names.specs.Noted.{Meanings}
use Rattle.sr_names.specs.Specs.{Specs}
use Rattle.sr_names.specs.Spots.{spot_of}
use Rattle.sr_check_decl.specs.Inferring.{program_known}
use Rattle.sr_check_decl.specs.Variables.{declare}
use Rattle.sr_check_expr.specs.declared.facts.Facts.{Facts}
use Rattle.sr_check_expr.specs.declared.info.Info.{Info}
use Rattle.sr_check_expr.specs.declared.info.Info.TheVariants as info
use Rattle.sr_check_expr.specs.Infos.{info_at}
use Rattle.sr_check.proofs.Each.{Each}
use Rattle.sr_core.specs.declared.component.Operation.{Operation}
use Rattle.sr_tables.specs.Parts.{components_in}
use Rattle.sr_tables.specs.Tables.{found_at}
use Rattle.sr_tree.specs.declared.component.File.{File}
use Rattle.sr_types.specs.declared.ty.Ty.{Ty}
use Rattle.sr_front.proofs.Known.KeptDeclared.{Declares, keeps_known}
use Rattle.sr_front.proofs.Known.KeptNames.{Anywhere, Closed}
use Rattle.sr_front.proofs.Names.PlainNames.{component_plain}
use Rattle.sr_front.proofs.Lists.Put.{put_holds}

-- nothing, or an operation
abbrev pub Lone : Option Info → Type 0
Lone None = Unit {0}
Lone (Some (info.Operation ty component is_local)) = Unit {0}
Lone (Some _) = ⊥

module _ (table : List (Spot × Operation)) where
  abbrev pub OnlyOperations : Facts → Type 0
  OnlyOperations facts = (spot : Spot) (operation : Operation) → found_at table spot ≡ Some operation → Lone (info_at facts.infos spot)

  -- no operation of the table stands at a spot
  abbrev pub NoOperation : Spot → Type 0
  NoOperation spot = found_at table spot ≡ None

  only_with : (facts : Facts) (spot : Spot) (one : Info) → ((operation : Operation) → found_at table spot ≡ Some operation → Lone (Some one)) → OnlyOperations facts → OnlyOperations (declare facts spot one)
  only_with facts spot one new only other operation at = put_holds facts spot one (λ there found. found_at table there ≡ Some operation → Lone found) (new operation) other (λ apart. only other operation) at

  only_put : (facts : Facts) (spot : Spot) (one : Info) → NoOperation spot → OnlyOperations facts → OnlyOperations (declare facts spot one)
  only_put facts spot one free = only_with facts spot one (λ operation at. absurd (none-some operation (sym free ∙ at)))

  only_operation : (facts : Facts) (spot : Spot) (ty : Ty) (component : Spot) (is_local : Bool) → OnlyOperations facts → OnlyOperations (declare facts spot (info.Operation ty component is_local))
  only_operation facts spot ty component is_local = only_with facts spot (info.Operation ty component is_local) (λ operation at. tt)

  pub only_closed : Closed OnlyOperations NoOperation Anywhere
  only_closed = record {
    entered = λ facts signature only. only;
    put = λ facts spot typed. only_put facts spot (info.Value typed);
    operation = λ facts spot ty component is_local fit. only_operation facts spot ty component is_local;
  }

  only_declares : Declares OnlyOperations NoOperation
  only_declares = record {
    entered = λ facts signature only. only;
    put = λ facts spot one. only_put facts spot one;
    operation = λ facts spot ty component is_local. only_operation facts spot ty component is_local;
    standing = λ facts component only. only;
  }

  -- where names stand at no operations, what is declared does so
  pub only_known : (uses : Meanings) (specs : Specs) (files : List File) → Each (λ span. NoOperation (spot_of span)) (flat_map component_plain (components_in files)) → OnlyOperations (program_known uses specs files)
  only_known uses specs files free = keeps_known OnlyOperations NoOperation only_declares uses specs files free (λ spot operation at. tt)
