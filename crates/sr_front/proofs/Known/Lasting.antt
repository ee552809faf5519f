-- An operation that is known stays one where statements are looked at: nothing else is declared where its name stands.
use Rattle.std.proofs.Common.{◌≡◌, Bool, true, false, List, [], ◌∷◌, Option, Some, ap, ◌∙◌, refl}
use Rattle.sr_check.proofs.Each.{Each}
use Rattle.sr_check_decl.specs.Declaring.{op_item_name, op_type, ops_declared}
use Rattle.sr_check_decl.specs.Variables.{declare}
use Rattle.sr_check_expr.specs.declared.facts.Facts.{Facts}
use Rattle.sr_check_expr.specs.declared.info.Info.{Info}
use Rattle.sr_check_expr.specs.declared.info.Info.TheVariants as info
use Rattle.sr_check_expr.specs.Infos.{info_at}
use Rattle.sr_names.specs.declared.spot.Spot.{Spot}
use Rattle.sr_names.specs.Spots.{same_spot, spot_of}
use Rattle.sr_names.proofs.Marking.{entry-other}
use Rattle.sr_tree.specs.declared.declaration.OpItem.{OpItem}
use Rattle.sr_types.specs.declared.ty.Ty.{Ty}
use Rattle.sr_value.specs.declared.place.Span.{Span}
use Rattle.sr_front.proofs.Known.KeptNames.{Anywhere, Closed}
use Rattle.sr_front.proofs.Lists.Put.{put_holds}
use Rattle.sr_front.proofs.Known.TypeSpots.{Elsewhere}

abbrev pub is_operation : Option Info → Bool
is_operation (Some (info.Operation ty component is_local)) = true
is_operation _ = false

module _ (spot : Spot) where
  -- an operation is known at the spot
  abbrev pub Lasts : Facts → Type 0
  Lasts facts = is_operation (info_at facts.infos spot) ≡ true

  abbrev pub Away : List Span → Type 0
  Away = Each (Elsewhere spot)

  -- another spot
  abbrev pub Other : Spot → Type 0
  Other at = same_spot spot at ≡ false

  lasts_with : (facts : Facts) (at : Spot) (one : Info) → Other at → Lasts facts → Lasts (declare facts at one)
  lasts_with facts at one apart h = ap is_operation (entry-other facts.infos at one spot apart) ∙ h

  -- another operation may be declared there
  lasts_operation : (facts : Facts) (at : Spot) (ty : Ty) (component : Spot) (is_local : Bool) → Lasts facts → Lasts (declare facts at (info.Operation ty component is_local))
  lasts_operation facts at ty component is_local h = put_holds facts at (info.Operation ty component is_local) (λ other found. is_operation found ≡ true) refl spot (λ apart. h)

  -- it is kept by all that is declared elsewhere
  pub lasting : Closed Lasts Other Anywhere
  lasting = record {
    entered = λ facts signature h. h;
    put = λ facts at typed apart h. lasts_with facts at (info.Value typed) apart h;
    operation = λ facts at ty component is_local fits h. lasts_operation facts at ty component is_local h;
  }

  pub lasts_ops_in : (ops : List OpItem) (facts : Facts) → Lasts facts → Lasts (ops_declared true ops facts)
  lasts_ops_in [] facts h = h
  lasts_ops_in (op ∷ ops) facts h = lasts_ops_in ops _ (lasts_operation facts (spot_of (op_item_name op).span) (op_type facts op) facts.here.component.spot true h)
