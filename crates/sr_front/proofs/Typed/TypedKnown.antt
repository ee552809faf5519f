-- What is known of operations in an accepted program, before any statement is looked at, has signatures: so if all else that
-- is known has a type, all has.
use Rattle.std.proofs.Common.{◌≡◌, Bool, List, [], map, flat_map, Option, Some, None, refl}
use Rattle.std.specs.List.{IsDistinct}
use Rattle.sr_names.specs.declared.spot.Spot.{Spot}
use Rattle.sr_names.specs.Noted.{Meanings}
use Rattle.sr_names.specs.Specs.{Specs}
use Rattle.sr_names.specs.Spots.{same_spot, spot_of}
use Rattle.sr_order.specs.Names.{file_names}
use Rattle.sr_tree.specs.declared.component.File.{File}
use Rattle.sr_types.specs.declared.ty.Ty.{Ty}
use Rattle.sr_check.specs.ErrorFree.{ErrorFree}
use Rattle.sr_check.proofs.Programs.{program_plain}
use Rattle.sr_check_expr.specs.declared.facts.Facts.{Facts}
use Rattle.sr_check_expr.specs.declared.info.Info.{Info}
use Rattle.sr_check_expr.specs.declared.info.Info.TheVariants as info
use Rattle.sr_check_expr.specs.Infos.{info_at}
use Rattle.sr_check_decl.specs.Inferring.{program_known}
use Rattle.sr_outline.specs.Heads.{heads_of}
use Rattle.sr_tables.specs.Parts.{components_in}
use Rattle.sr_front.proofs.Headed.Heads.{heads_found}
use Rattle.sr_front.proofs.Known.Declared.{Apart}
use Rattle.sr_front.proofs.Headed.KnownHeaded.{known_headed}
use Rattle.sr_front.proofs.Headed.OptypesKnown.{optypes_known}
use Rattle.sr_front.proofs.Typed.Typed.{FoundTyped}
use Rattle.sr_front.proofs.Typed.TypedCode.{AllSigned, Good, HasSignature}
use Rattle.sr_front.proofs.Typed.TypedHalf.{Half, HalfTyped}
use Rattle.sr_front.proofs.Typed.TypedOps.{signed_is_typed}

-- where operations have signatures all has a type, if the rest has
pub half_good : (facts : Facts) → AllSigned facts → Half facts → Good facts
half_good facts signed half = record {
  typed = record { infos = λ spot. by spot (info_at facts.infos spot) (λ type component is_local e. signed spot type component is_local e) (half.infos spot); signatures = half.signatures };
  signed = signed;
}
  where
    by : (spot : Spot) (found : Option Info) → ((type : Ty) (component : Spot) (is_local : Bool) → found ≡ Some (info.Operation type component is_local) → HasSignature facts type) → HalfTyped found → FoundTyped found
    by spot None signed h = tt
    by spot (Some (info.Enumeration number literals)) signed h = tt
    by spot (Some (info.Operation type component is_local)) signed h = signed_is_typed facts type (signed type component is_local refl)
    by spot (Some (info.Component type)) signed h = tt
    by spot (Some _) signed h = h

module _ (uses : Meanings) (specs : Specs) (files : List File) (apart : Apart files) (headed : ErrorFree (heads_found uses specs files)) (distinct : IsDistinct same_spot (map spot_of (flat_map file_names files))) where
  abbrev known : Facts
  known = program_known uses specs files

  -- each operation that is known has a type with a signature
  pub known_signed : AllSigned known
  known_signed spot type component is_local is =
      let all = known_headed uses specs files known (program_plain uses specs files).0 [] (heads_of known [] (components_in files)) [] apart headed (optypes_known uses specs files known [] headed distinct) in
      let head = (all.1 spot type component is_local is known.signatures (λ number signature at. at)).head in
      (head.signature, head.at)

  -- so all that is known has a type and a signature, if all but operations has one
  pub good_known : Half known → Good known
  good_known = half_good known known_signed
