-- What is known after the quantifiers of a process is known in its body, in which their names are formals.
use Rattle.std.proofs.Common.{◌≡◌, ◌⊎◌, inl, inr, false, List, [], ◌∷◌, flat_map, Some, sym, ap, ◌∙◌, refl}
use Rattle.std.specs.Option.{option_map}
use Rattle.std.proofs.lemmas.Bool.{false≢true}
use Rattle.sr_names.specs.declared.spot.Spot.{Spot}
use Rattle.sr_names.specs.Spots.{same_spot, spot_of}
use Rattle.sr_names.proofs.LinkLemmas.{same_spot-refl}
use Rattle.sr_names.proofs.Marking.{entry-other, entry-same, same_spot-cases}
use Rattle.sr_order.specs.Names.{quantifier_names}
use Rattle.sr_tree.specs.declared.statement.Quantifier.{Quantifier}
use Rattle.sr_types.specs.declared.ty.Ty.TheVariants as ty
use Rattle.sr_types.specs.declared.typed.Static.TheVariants.{Unknown}
use Rattle.sr_types.specs.Outcomes.{computed}
use Rattle.sr_check_expr.specs.declared.facts.Facts.{Facts}
use Rattle.sr_check_expr.specs.declared.info.Info.{Info}
use Rattle.sr_check_expr.specs.declared.info.Info.TheVariants as info
use Rattle.sr_check_expr.specs.Infos.{info_at}
use Rattle.sr_check_decl.specs.Variables.{declare, variable}
use Rattle.sr_check.specs.Components.{quantifiers_formal}
use Rattle.sr_check.specs.Quantifying.{quantified, quantifiers_known}
use Rattle.sr_check.proofs.Each.{Each}
use Rattle.sr_front.proofs.Known.InfosStay.{Fresh, Reads, Stays, fresh_right, stays_itself, stays_through}
use Rattle.sr_front.proofs.Known.KeptNames.{keeps_formal_quantifiers}
use Rattle.sr_front.proofs.Known.Leading.{leads_on, leads_through}
use Rattle.sr_front.proofs.Lists.Placed.{Placed}
use Rattle.sr_front.proofs.Constants.Placeless.{placeless_info}
use Rattle.sr_front.proofs.Lists.Put.{put_known}
use Rattle.sr_front.proofs.Mentioned.ReadsCode.{reads_quantifiers}

abbrev spot_name : Quantifier → Spot
spot_name quantifier = spot_of quantifier.name.span

-- what is known at a spot is an int
abbrev IsInt : Facts → Spot → Type 0
IsInt facts spot = (one : Info) → info_at facts.infos spot ≡ Some one → placeless_info one ≡ info.Value (computed ty.Int Unknown)

ints_kept : (spot : Spot) (quantifiers : List Quantifier) (facts : Facts) → IsInt facts spot → IsInt (quantifiers_known facts quantifiers) spot
ints_kept spot [] facts int = int
ints_kept spot (quantifier ∷ more) facts int =
    ints_kept spot more (quantified facts quantifier.name)
    (λ one is. put_known facts (spot_name quantifier) (info.Value (computed ty.Int Unknown)) (λ at it. placeless_info it ≡ info.Value (computed ty.Int Unknown)) refl spot one is (int one))

all_kept : (all quantifiers : List Quantifier) (facts : Facts) → Each (λ quantifier. IsInt facts (spot_name quantifier)) all → Each (λ quantifier. IsInt (quantifiers_known facts quantifiers) (spot_name quantifier)) all
all_kept [] quantifiers facts ints = tt
all_kept (quantifier ∷ all) quantifiers facts ints = (ints_kept (spot_name quantifier) quantifiers facts ints.0, all_kept all quantifiers facts ints.1)

same_itself : (spot : Spot) → same_spot spot spot ≡ false → ⊥
same_itself spot apart = false≢true (sym apart ∙ same_spot-refl spot)

-- where nothing is known at their names before, they are ints after
ints_at : (quantifiers : List Quantifier) (facts : Facts) → Fresh (flat_map quantifier_names quantifiers) facts → Each (λ quantifier. IsInt facts (spot_name quantifier)) quantifiers
ints_at [] facts fresh = tt
ints_at (quantifier ∷ more) facts fresh = (
  λ one is. absurd (same_itself (spot_name quantifier) (fresh (spot_name quantifier) one is).0),
  ints_at more facts (fresh_right (quantifier_names quantifier) (flat_map quantifier_names more) facts fresh),
)

-- the names become formals, which are places
formals_stay : (base : Facts) (quantifiers : List Quantifier) (now : Facts) → Each (λ quantifier. IsInt base (spot_name quantifier)) quantifiers → Stays base now → Stays base (quantifiers_formal quantifiers now)
formals_stay base [] now ints stays = stays
formals_stay base (quantifier ∷ more) now ints stays =
    formals_stay base more (declare now (spot_name quantifier) (variable ty.Int)) ints.1 (λ spot one is. by spot one is (same_spot-cases spot (spot_name quantifier)))
  where
    by : (spot : Spot) (one : Info) → info_at base.infos spot ≡ Some one → (spot ≡ spot_name quantifier) ⊎ (same_spot spot (spot_name quantifier) ≡ false)
        → option_map placeless_info (info_at (declare now (spot_name quantifier) (variable ty.Int)).infos spot) ≡ Some (placeless_info one)
    by spot one is (inl same) =
        ap (λ s. option_map placeless_info (info_at (declare now (spot_name quantifier) (variable ty.Int)).infos s)) same
        ∙ ap (option_map placeless_info) (entry-same now.infos (spot_name quantifier) (variable ty.Int))
        ∙ ap Some (sym (ints.0 one (ap (info_at base.infos) (sym same) ∙ is)))
    by spot one is (inr apart) = ap (option_map placeless_info) (entry-other now.infos (spot_name quantifier) (variable ty.Int) spot apart) ∙ stays spot one is

reads_formals : (quantifiers : List Quantifier) (facts : Facts) → Reads (flat_map quantifier_names quantifiers) facts (quantifiers_formal quantifiers facts)
reads_formals quantifiers facts Q Free steady free h = keeps_formal_quantifiers Q Free Free steady.closed quantifiers facts free h

pub reads_process : (quantifiers : List Quantifier) (facts : Facts) → Reads (flat_map quantifier_names quantifiers) facts (quantifiers_formal quantifiers (quantifiers_known facts quantifiers))
reads_process quantifiers facts Q Free steady free h = reads_formals quantifiers (quantifiers_known facts quantifiers) Q Free steady free (reads_quantifiers quantifiers facts Q Free steady free h)

module _ (Free : Spot → Type 0) (final : Facts) where
  -- where the quantifiers of a process stand
  pub placed_quantifiers : (quantifiers : List Quantifier) (facts : Facts) → Placed Free final (flat_map quantifier_names quantifiers) facts (quantifiers_formal quantifiers (quantifiers_known facts quantifiers))
      → Placed Free final (flat_map quantifier_names quantifiers) facts (quantifiers_known facts quantifiers)
  placed_quantifiers quantifiers facts placed =
      let known = quantifiers_known facts quantifiers in
      let names = flat_map quantifier_names quantifiers in
      let formal = quantifiers_formal quantifiers known in
      let ints = all_kept quantifiers quantifiers facts (ints_at quantifiers facts placed.settled.fresh) in
      let stays : Stays known final = stays_through known formal final (formals_stay known quantifiers known ints (stays_itself known)) placed.end.stays in
      record {
        free = placed.free;
        settled = record { apart = placed.settled.apart; fresh = placed.settled.fresh; stays = stays };
        start = placed.start;
        end = record { stays = stays; leads = leads_through known formal final (leads_on names known formal (reads_formals quantifiers known)) placed.end.leads };
      }
