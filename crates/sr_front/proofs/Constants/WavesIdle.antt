-- What waits for its type gets none that is static: what is known before the waves stays known as it is, and all else is a value that isn't static.
use Rattle.std.proofs.Common.{◌≡◌, inl, inr, ℕ, suc, zero, Bool, true, false, not, ◌&&◌, List, [], ◌∷◌, length, Option, Some, None, is_some, if◌then◌else◌, refl, sym, ap, subst, ◌∙◌}
use Rattle.std.specs.List.{filter}
use Rattle.std.proofs.lemmas.Bool.{false≢true}
use Rattle.std.proofs.lemmas.Option.{none-some}
use Rattle.sr_check_decl.specs.Declaring.{program_declared, standing}
use Rattle.sr_check_decl.specs.Inferring.{all_settled, can_settle, given_up, given_up_if, is_settled, program_inferred, program_known, settled, waiting_info, wave, waves}
use Rattle.sr_check_decl.specs.NamesIn.{is_ready}
use Rattle.sr_check_decl.specs.Variables.{declare}
use Rattle.sr_check_decl.specs.Waiting.{Waiting, files_waiting}
use Rattle.sr_check_expr.specs.declared.facts.Facts.{Facts}
use Rattle.sr_check_expr.specs.declared.info.Info.{Info}
use Rattle.sr_check_expr.specs.declared.info.Info.TheVariants as info
use Rattle.sr_check_expr.specs.Infos.{info_at}
use Rattle.sr_front.proofs.Lists.Put.{put_holds}
use Rattle.sr_names.specs.declared.meaning.Decl.{Decl}
use Rattle.sr_names.specs.declared.spot.Spot.{Spot}
use Rattle.sr_names.specs.Noted.{Meanings}
use Rattle.sr_names.specs.Specs.{Specs}
use Rattle.sr_scope.specs.Uses.{IsIn}
use Rattle.sr_tree.specs.declared.component.File.{File}
use Rattle.sr_types.specs.declared.typed.Static.TheVariants.{Unknown}

-- a value that isn't static
abbrev pub IsUnknown : Info → Type 0
IsUnknown (info.Value typed) = typed.value ≡ Unknown
IsUnknown one = ⊥

-- at most that
abbrev pub IsWaiting : Option Info → Type 0
IsWaiting None = Unit {0}
IsWaiting (Some one) = IsUnknown one

module _ (first : Facts) where
  -- as after waves: what is known at first is known as it is, and all else isn't static
  pub record Waved (facts : Facts) : Type 0 where
    pub uses : facts.uses ≡ first.uses
    pub signatures : facts.signatures ≡ first.signatures
    pub kept : (spot : Spot) (one : Info) → info_at first.infos spot ≡ Some one → info_at facts.infos spot ≡ Some one
    pub others : (spot : Spot) → info_at first.infos spot ≡ None → IsWaiting (info_at facts.infos spot)

  pub waved_first : Waved first
  waved_first = record { uses = refl; signatures = refl; kept = λ spot one is. is; others = λ spot none. subst IsWaiting (sym none) tt }

  waved_with : (facts : Facts) (at : Spot) (one : Info) → info_at first.infos at ≡ None → IsUnknown one → Waved facts → Waved (declare facts at one)
  waved_with facts at one none unknown waved = record {
    uses = waved.uses;
    signatures = waved.signatures;
    kept = λ spot known is.
        put_holds facts at one (λ other found. info_at first.infos other ≡ Some known → found ≡ Some known) (λ there. absurd (none-some known (sym none ∙ there))) spot (λ apart there. waved.kept spot known there) is;
    others = λ spot nothing. put_holds facts at one (λ other. IsWaiting) unknown spot (λ apart. waved.others spot nothing);
  }

  pub waved_standing : (facts : Facts) (component : Decl) → Waved facts → Waved (standing facts component)
  waved_standing facts component waved = record { uses = waved.uses; signatures = waved.signatures; kept = waved.kept; others = waved.others }

  -- what waits for its type gets a value that isn't static
  abbrev pub GetsUnknown : List Waiting → Type 0
  GetsUnknown all = (facts : Facts) → Waved facts → (waiting : Waiting) → IsIn waiting all → info_at first.infos waiting.spot ≡ None → IsUnknown (waiting_info (standing facts waiting.component) waiting)

  module _ (all : List Waiting) (gets : GetsUnknown all) where
    -- all of these wait, and nothing is known of them at first
    abbrev AreNew : List Waiting → Type 0
    AreNew some = (waiting : Waiting) → IsIn waiting some → (IsIn waiting all) × (info_at first.infos waiting.spot ≡ None)

    waved_settled : (some : List Waiting) (facts : Facts) → AreNew some → Waved facts → Waved (all_settled some facts)
    waved_settled [] facts new waved = waved
    waved_settled (waiting ∷ some) facts new waved =
        let here = new waiting (inl refl) in
        waved_settled some (settled facts waiting) (λ other k. new other (inr k))
        (waved_with facts waiting.spot (waiting_info (standing facts waiting.component) waiting) here.1 (gets facts waved waiting here.0 here.1) waved)

    -- nothing is known at first of what can be settled
    new_at : (facts : Facts) (waiting : Waiting) → Waved facts → is_settled facts waiting ≡ false → info_at first.infos waiting.spot ≡ None
    new_at facts waiting waved unsettled = by (info_at first.infos waiting.spot) refl
      where
        by : (found : Option Info) → info_at first.infos waiting.spot ≡ found → info_at first.infos waiting.spot ≡ None
        by None is = is
        by (Some one) is = absurd (false≢true (sym unsettled ∙ ap is_some (waved.kept waiting.spot one is)))

    can_be : (facts : Facts) (waiting : Waiting) → can_settle facts waiting ≡ true → is_settled facts waiting ≡ false
    can_be facts waiting = by (is_settled facts waiting)
      where
        by : (b : Bool) → (not b && is_ready facts waiting.value) ≡ true → b ≡ false
        by true h = absurd (false≢true h)
        by false h = refl

    new_among : (facts : Facts) → Waved facts → (some : List Waiting) → ((waiting : Waiting) → IsIn waiting some → IsIn waiting all) → AreNew (filter (can_settle facts) some)
    new_among facts waved [] among waiting k = absurd k
    new_among facts waved (one ∷ some) among waiting k = by (can_settle facts one) refl k (new_among facts waved some (λ other h. among other (inr h)) waiting)
      where
        by : (b : Bool) → can_settle facts one ≡ b → IsIn waiting (if b then one ∷ filter (can_settle facts) some else filter (can_settle facts) some)
            → (IsIn waiting (filter (can_settle facts) some) → (IsIn waiting all) × (info_at first.infos waiting.spot ≡ None)) → (IsIn waiting all) × (info_at first.infos waiting.spot ≡ None)
        by true can (inl e) more = (
          subst (λ it. IsIn it all) e (among one (inl refl)),
          subst (λ (it : Waiting). info_at first.infos it.spot ≡ None) e (new_at facts one waved (can_be facts one can)),
        )
        by true can (inr h) more = more h
        by false cannot h more = more h

    waved_waves : (n : ℕ) (facts : Facts) → Waved facts → Waved (waves n all facts)
    waved_waves zero facts waved = waved
    waved_waves (suc n) facts waved = waved_waves n (wave all facts) (waved_settled (filter (can_settle facts) all) facts (new_among facts waved all (λ waiting k. k)) waved)

    waved_given_up : (some : List Waiting) (facts : Facts) → Waved facts → Waved (given_up some facts)
    waved_given_up [] facts waved = waved
    waved_given_up (waiting ∷ some) facts waved = waved_given_up some (given_up_if (is_settled facts waiting) facts waiting) (by (is_settled facts waiting) refl)
      where
        by : (b : Bool) → is_settled facts waiting ≡ b → Waved (given_up_if b facts waiting)
        by true is = waved
        by false is = waved_with facts waiting.spot _ (new_at facts waiting waved is) refl waved

-- so what is known after all waves of a program
pub waved_known : (uses : Meanings) (specs : Specs) (files : List File) → GetsUnknown (program_declared uses specs files) (files_waiting files) → Waved (program_declared uses specs files) (program_known uses specs files)
waved_known uses specs files gets =
    let first = program_declared uses specs files in
    let all = files_waiting files in
    waved_given_up first all gets all (program_inferred uses specs files) (waved_waves first all gets (length all) first (waved_first first))
