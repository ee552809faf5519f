-- What is known at a spot stays as it is where nothing that is read has its name there.
use Rattle.std.proofs.Common.{◌≡◌, false, List, [], ◌∷◌, ◌++◌, map, Option, Some, None, refl, ap, ◌∙◌}
use Rattle.std.proofs.lemmas.Option.{none-some}
use Rattle.std.specs.List.{AllByRecursion, IsDistinct}
use Rattle.std.specs.Option.{option_map}
use Rattle.sr_value.specs.declared.place.Span.{Span}
use Rattle.sr_names.specs.declared.meaning.Decl.{Decl}
use Rattle.sr_names.specs.declared.spot.Spot.{Spot}
use Rattle.sr_names.specs.Spots.{same_spot, spot_of}
use Rattle.sr_names.proofs.Marking.{entry-other}
use Rattle.sr_check_expr.specs.declared.facts.Facts.{Facts}
use Rattle.sr_check_expr.specs.declared.info.Info.{Info}
use Rattle.sr_check_expr.specs.declared.info.Info.TheVariants as info
use Rattle.sr_check_expr.specs.Infos.{info_at}
use Rattle.sr_check_decl.specs.Declaring.{standing}
use Rattle.sr_check_decl.specs.Variables.{declare}
use Rattle.sr_check.proofs.Each.{Each, each-left, each-right}
use Rattle.sr_front.proofs.Known.KeptBy.{Names}
use Rattle.sr_front.proofs.Known.KeptNames.{Closed}
use Rattle.sr_front.proofs.Known.Lasting.{Away, Other}
use Rattle.sr_front.proofs.Constants.Placeless.{placeless_info}
use Rattle.sr_front.proofs.Lists.Put.{put_known}

-- kept by declarations, whichever component they stand in
pub record Steady (Q : Facts → Type 0) (Free Fit : Spot → Type 0) : Type 0 where
  pub closed : Closed Q Free Fit
  pub standing : (facts : Facts) (component : Decl) → Q facts → Q (standing facts component)

-- ---- what is known at one spot, be it nothing

module _ (spot : Spot) (found : Option Info) where
  abbrev pub IsAt : Facts → Type 0
  IsAt facts = info_at facts.infos spot ≡ found

  at_with : (facts : Facts) (other : Spot) (one : Info) → Other spot other → IsAt facts → IsAt (declare facts other one)
  at_with facts other one apart h = entry-other facts.infos other one spot apart ∙ h

  pub at_steady : Steady IsAt (Other spot) (Other spot)
  at_steady = record {
    closed = record {
      entered = λ facts signature h. h;
      put = λ facts other typed apart h. at_with facts other (info.Value typed) apart h;
      operation = λ facts other ty component is_local apart h. at_with facts other (info.Operation ty component is_local) apart h;
    };
    standing = λ facts component h. h;
  }

-- ---- where something is known

module _ (Spots : Spot → Type 0) where
  -- something is known at these spots alone
  abbrev pub KnownIn : Facts → Type 0
  KnownIn facts = (spot : Spot) (one : Info) → info_at facts.infos spot ≡ Some one → Spots spot

  pub in_with : (facts : Facts) (at : Spot) (one : Info) → Spots at → KnownIn facts → KnownIn (declare facts at one)
  in_with facts at one new h spot known is = put_known facts at one (λ other it. Spots other) new spot known is (h spot known)

  pub in_steady : Steady KnownIn Spots Spots
  in_steady = record {
    closed = record {
      entered = λ facts signature h. h;
      put = λ facts at typed new h. in_with facts at (info.Value typed) new h;
      operation = λ facts at ty component is_local new h. in_with facts at (info.Operation ty component is_local) new h;
    };
    standing = λ facts component h. h;
  }

-- ---- what is read with names

-- all that declarations at these names keep is kept from the facts before to the facts after
abbrev pub Reads : List Span → Facts → Facts → Type 1
Reads names before after = (Q : Facts → Type 0) (Free : Spot → Type 0) → Steady Q Free Free → Names Free names → Q before → Q after

-- nothing is known where these names stand
abbrev pub Fresh : List Span → Facts → Type 0
Fresh names facts = KnownIn (λ spot. Away spot names) facts

-- what is known stays as it is, but for what is a place
abbrev pub Stays : Facts → Facts → Type 0
Stays before after = (spot : Spot) (one : Info) → info_at before.infos spot ≡ Some one → option_map placeless_info (info_at after.infos spot) ≡ Some (placeless_info one)

-- none of the first names stands where one of the others does
abbrev pub AllAway : List Span → List Span → Type 0
AllAway names others = Each (λ span. Away (spot_of span) others) names

pub stays_itself : (facts : Facts) → Stays facts facts
stays_itself facts spot one is = ap (option_map placeless_info) is

pub stays_through : (first second third : Facts) → Stays first second → Stays second third → Stays first third
stays_through first second third a b spot one is = by (info_at second.infos spot) refl (a spot one is)
  where
    by : (found : Option Info) → info_at second.infos spot ≡ found → option_map placeless_info found ≡ Some (placeless_info one) → option_map placeless_info (info_at third.infos spot) ≡ Some (placeless_info one)
    by None at same = absurd (none-some (placeless_info one) same)
    by (Some other) at same = b spot other at ∙ same

module _ (names : List Span) (before after : Facts) (reads : Reads names before after) where
  -- elsewhere the same is known
  pub same_elsewhere : (spot : Spot) → Away spot names → info_at after.infos spot ≡ info_at before.infos spot
  same_elsewhere spot away = reads (IsAt spot (info_at before.infos spot)) (Other spot) (at_steady spot (info_at before.infos spot)) away refl

  -- what is known before is known after
  pub known_stays : Fresh names before → Stays before after
  known_stays fresh spot one is = ap (option_map placeless_info) (same_elsewhere spot (fresh spot one is) ∙ is)

  -- where other names stand nothing is known after, as nothing is before
  pub fresh_after : (others : List Span) → AllAway names others → Fresh others before → Fresh others after
  fresh_after others apart fresh = reads (KnownIn (λ spot. Away spot others)) (λ spot. Away spot others) (in_steady (λ spot. Away spot others)) apart fresh

pub fresh_left : (xs ys : List Span) (facts : Facts) → Fresh (xs ++ ys) facts → Fresh xs facts
fresh_left xs ys facts fresh spot one is = each-left (λ span. Other spot (spot_of span)) xs ys (fresh spot one is)

pub fresh_right : (xs ys : List Span) (facts : Facts) → Fresh (xs ++ ys) facts → Fresh ys facts
fresh_right xs ys facts fresh spot one is = each-right (λ span. Other spot (spot_of span)) xs ys (fresh spot one is)

pub reads_nothing : (facts : Facts) → Reads [] facts facts
reads_nothing facts Q Free steady free h = h

pub reads_both : (xs ys : List Span) (first second third : Facts) → Reads xs first second → Reads ys second third → Reads (xs ++ ys) first third
reads_both xs ys first second third a b Q Free steady free h =
    b Q Free steady (each-right (λ span. Free (spot_of span)) xs ys free) (a Q Free steady (each-left (λ span. Free (spot_of span)) xs ys free) h)

-- ---- names that stand at different spots

abbrev Apart : List Span → Type 0
Apart names = IsDistinct same_spot (map spot_of names)

abbrev After : Span → List Span → Type 0
After span names = AllByRecursion (λ other. same_spot (spot_of span) other ≡ false) (map spot_of names)

after_left : (span : Span) (xs ys : List Span) → After span (xs ++ ys) → After span xs
after_left span [] ys after = tt
after_left span (x ∷ xs) ys after = (after.0, after_left span xs ys after.1)

after_right : (span : Span) (xs ys : List Span) → After span (xs ++ ys) → Away (spot_of span) ys
after_right span [] [] after = tt
after_right span [] (y ∷ ys) after = (after.0, after_right span [] ys after.1)
after_right span (x ∷ xs) ys after = after_right span xs ys after.1

apart_left : (xs ys : List Span) → Apart (xs ++ ys) → Apart xs
unfolding IsDistinct
apart_left [] ys apart = tt
apart_left (x ∷ xs) ys apart = (after_left x xs ys apart.0, apart_left xs ys apart.1)

apart_right : (xs ys : List Span) → Apart (xs ++ ys) → Apart ys
unfolding IsDistinct
apart_right [] ys apart = apart
apart_right (x ∷ xs) ys apart = apart_right xs ys apart.1

all_away : (xs ys : List Span) → Apart (xs ++ ys) → AllAway xs ys
unfolding IsDistinct
all_away [] ys apart = tt
all_away (x ∷ xs) ys apart = (after_right x xs ys apart.0, all_away xs ys apart.1)

-- ---- what is known at a place is known in the end

module _ (final : Facts) where
  -- names are read that stand where nothing is known, and what is known after them is known in the end
  pub record Settled (names : List Span) (before after : Facts) : Type 0 where
    pub apart : IsDistinct same_spot (map spot_of names)
    pub fresh : Fresh names before
    pub stays : Stays after final

  -- then what is known before them is known in the end
  pub settled_here : (names : List Span) (before after : Facts) → Reads names before after → Settled names before after → Stays before final
  settled_here names before after reads settled = stays_through before after final (known_stays names before after reads settled.fresh) settled.stays

  module _ (xs ys : List Span) (before between after : Facts) (first : Reads xs before between) (second : Reads ys between after) (settled : Settled (xs ++ ys) before after) where
    pub settled_second : Settled ys between after
    settled_second = record {
      apart = apart_right xs ys settled.apart;
      fresh = fresh_after xs before between first ys (all_away xs ys settled.apart) (fresh_right xs ys before settled.fresh);
      stays = settled.stays;
    }

    pub settled_first : Settled xs before between
    settled_first = record {
      apart = apart_left xs ys settled.apart;
      fresh = fresh_left xs ys before settled.fresh;
      stays = settled_here ys between after second settled_second;
    }
