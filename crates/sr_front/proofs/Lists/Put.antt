-- What is known at each spot after something is declared at one.
use Rattle.std.proofs.Common.{◌≡◌, ◌⊎◌, false, Option, Some, sym, subst, inl, inr}
use Rattle.std.proofs.lemmas.Option.{same_Some}
use Rattle.sr_check_expr.specs.declared.facts.Facts.{Facts}
use Rattle.sr_check_expr.specs.declared.info.Info.{Info}
use Rattle.sr_check_decl.specs.Variables.{declare}
use Rattle.sr_check_expr.specs.Infos.{info_at}
use Rattle.sr_names.proofs.Marking.{entry-other, entry-same, same_spot-cases}
use Rattle.sr_names.specs.declared.spot.Spot.{Spot}
use Rattle.sr_names.specs.Spots.{same_spot}

module _ (facts : Facts) (at : Spot) (one : Info) where
  -- what holds of what is declared there, and of what was known at the other spots
  pub put_holds : (P : Spot → Option Info → Type 0) → P at (Some one) → (spot : Spot) → (same_spot spot at ≡ false → P spot (info_at facts.infos spot))
      → P spot (info_at (declare facts at one).infos spot)
  put_holds P here spot before = by (same_spot-cases spot at)
    where
      by : (spot ≡ at) ⊎ (same_spot spot at ≡ false) → P spot (info_at (declare facts at one).infos spot)
      by (inl same) = subst (λ other. P other (info_at (declare facts at one).infos other)) (sym same) (subst (P at) (sym (entry-same facts.infos at one)) here)
      by (inr apart) = subst (P spot) (sym (entry-other facts.infos at one spot apart)) (before apart)

  -- and of what was known, where something is known
  pub put_known : (P : Spot → Info → Type 0) → P at one → (spot : Spot) (known : Info) → info_at (declare facts at one).infos spot ≡ Some known
      → (info_at facts.infos spot ≡ Some known → P spot known) → P spot known
  put_known P here spot known is before = put_holds (λ other found. found ≡ Some known → P other known) (λ e. subst (P at) (same_Some one known e) here) spot (λ apart. before) is
