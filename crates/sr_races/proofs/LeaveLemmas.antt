-- What the next item of a walk leaves.
use Rattle.std.proofs.Common.{◌≡◌, ◌+◌, ℕ, Bool, true, false, refl, ap, sym, ◌∙◌, subst}
use Rattle.std.proofs.lemmas.Option.{slice_get_within}
use Rattle.std.specs.Prelude.{◌==◌, ◌&&◌, not, OnOk, Option, Some, None, Result, Ok, Err, slice_get}
use Rattle.sr_ask.specs.Items.{actor_of, number_of}
use Rattle.sr_ask.specs.declared.ask.Ask.{Ask}
use Rattle.sr_ask.specs.declared.item.Item.{Item}
use Rattle.sr_ask.specs.declared.item.Item.TheVariants.{Step, Quiesce, Tick}
use Rattle.sr_clock_rows.specs.Rows.{AddsRow, IsGreatestRow}
use Rattle.sr_clock_rows.specs.declared.clocks.Clocks.{Clocks}
use Rattle.sr_world.specs.Runs.{Goes, Illegal, Next, Over}
use Rattle.sr_world.specs.Worlds.{World}
use Rattle.sr_races.specs.Items.{Run, actor_at, asked_at, asked_by, number_at, stands_after}
use Rattle.sr_races.specs.Kept.{HasRows}
use Rattle.sr_races.specs.Links.{begins_final, ends_all, is_stop}
use Rattle.sr_races.specs.Origins.{AreOrigins, duty_at, duty_in, listed, origins_in, readied_in}
use Rattle.sr_races.specs.Walks.{HasGrown, IsAlone, IsAloneMade, IsRowFrom, IsStepMade}
use Rattle.sr_races.specs.declared.before.Before.{Before}
use Rattle.sr_races.specs.declared.origins.Origins.{Origins}
use Rattle.sr_races.proofs.OriginLemmas.{closing-kept, kept-closing, kept-origin, origin-kept}
use Rattle.sr_races.proofs.StandLemmas.{got-map}
use Rattle.sr_races.proofs.WalkLemmas.{ending-rows, step-rows}

pub on-any : {B E P : Type 0} (r : Result B E) → P → OnOk r P
on-any (Ok b) h = h
on-any (Err e) h = tt

pub both-ok : {B E P Q R : Type 0} (r : Result B E) → (P → Q → R) → OnOk r P → OnOk r Q → OnOk r R
both-ok (Ok b) f p q = f p q
both-ok (Err e) f p q = tt

-- ---- a step

module _ (r : Run) (place p name : ℕ) (ask : Ask) (before : Before) (answered : ℕ) (later : World) (made : IsStepMade r place p name ask before answered later) where
  pub left-actor : actor_at r place ≡ p
  left-actor = got-map actor_of r.items place (Step p name) made.item

  pub left-number : number_at r place ≡ name
  left-number = got-map number_of r.items place (Step p name) made.item

  pub left-ends : ends_all r place ≡ (not (name == 0) && is_stop ask.request)
  left-ends = ap (λ item. begins_final item (asked_at r place)) made.item ∙ ap (begins_final (Some (Step p name))) made.asked

  pub left-rows : (origins : Origins) (old new : Clocks) → HasRows r place old → AreOrigins r place origins → HasGrown p old new → (ends : Bool) → ends_all r place ≡ ends
      → IsRowFrom ends (origins_in origins p ask.request answered before.global) p old new → HasRows r (place + 1) new
  left-rows origins old new has tables grown true ends row =
      ending-rows r place old new has (subst (λ n. AddsRow n old new) (sym left-actor) grown.adds) grown.sound row made.within ends
  left-rows origins old new has tables grown false ends row =
      step-rows r place old new has (subst (λ n. AddsRow n old new) (sym left-actor) grown.adds) grown.sound (origins_in origins p ask.request answered before.global)
      (subst (λ n. IsGreatestRow (origins_in origins p ask.request answered before.global) n old new) (sym left-actor) row)
      (origin-kept r place origins tables made.state made.at made.within p name made.item ask made.asked made.some made.legal ends answered before.global made.answer made.global)
      (kept-origin r place origins tables made.state made.at made.within p name made.item ask made.asked made.some made.legal ends answered before.global made.answer made.global)

-- ---- an item of no process

module _ (r : Run) (place : ℕ) where
  no-ask : (item : Option Item) → slice_get r.items place ≡ item → ((now : Next) → asked_by r.core r.limit now item ≡ None) → asked_at r place ≡ None
  no-ask item is none = ap (λ o. asked_by r.core r.limit (stands_after r place) o) is ∙ none (stands_after r place)

  no-duty-at : asked_at r place ≡ None → duty_at r place ≡ 0
  no-duty-at none = ap (duty_in (stands_after r place) (slice_get r.items place)) none ∙ by (stands_after r place) (slice_get r.items place)
    where
      by : (now : Next) (item : Option Item) → duty_in now item None ≡ 0
      by (Goes state) None = refl
      by (Goes state) (Some (Step p name)) = refl
      by (Goes state) (Some (Quiesce name)) = refl
      by (Goes state) (Some (Tick to)) = refl
      by (Over ending state) item = refl
      by Illegal item = refl

  pub alone-made : (item : Item) (number : ℕ) (ends : Bool) → IsAlone item number ends → slice_get r.items place ≡ Some item → IsAloneMade r place number ends
  alone-made (Step actor name) number ends alone is = absurd alone
  alone-made (Quiesce name) number ends alone is = record {
    within = slice_get_within r.items place (Quiesce name) is;
    nobody = got-map actor_of r.items place (Quiesce name) is;
    number = got-map number_of r.items place (Quiesce name) is ∙ sym alone.0;
    asked = nothing;
    ending = ap (λ item. begins_final item (asked_at r place)) is ∙ sym alone.1;
    duty = no-duty-at nothing;
    readied = ap (λ item. readied_in (stands_after r place) item (stands_after r (place + 1))) is ∙ none (stands_after r place) (stands_after r (place + 1));
  }
    where
      nothing : asked_at r place ≡ None
      nothing = no-ask (Some (Quiesce name)) is (λ now. by now)
        where
          by : (now : Next) → asked_by r.core r.limit now (Some (Quiesce name)) ≡ None
          by (Goes state) = refl
          by (Over ending state) = refl
          by Illegal = refl

      none : (now then : Next) → readied_in now (Some (Quiesce name)) then ≡ 0
      none (Goes state) then = refl
      none (Over ending state) then = refl
      none Illegal then = refl
  alone-made (Tick to) number ends alone is = record {
    within = slice_get_within r.items place (Tick to) is;
    nobody = got-map actor_of r.items place (Tick to) is;
    number = got-map number_of r.items place (Tick to) is ∙ sym alone.0;
    asked = nothing;
    ending = ap (λ item. begins_final item (asked_at r place)) is ∙ sym alone.1;
    duty = no-duty-at nothing;
    readied = ap (λ item. readied_in (stands_after r place) item (stands_after r (place + 1))) is ∙ none (stands_after r place) (stands_after r (place + 1));
  }
    where
      nothing : asked_at r place ≡ None
      nothing = no-ask (Some (Tick to)) is (λ now. by now)
        where
          by : (now : Next) → asked_by r.core r.limit now (Some (Tick to)) ≡ None
          by (Goes state) = refl
          by (Over ending state) = refl
          by Illegal = refl

      none : (now then : Next) → readied_in now (Some (Tick to)) then ≡ 0
      none (Goes state) then = refl
      none (Over ending state) then = refl
      none Illegal then = refl

  pub alone-rows : (name : ℕ) (origins : Origins) (old new : Clocks) (ends : Bool) → IsAloneMade r place name ends → HasRows r place old → AreOrigins r place origins → HasGrown 0 old new
      → IsRowFrom ends (listed origins.closing) 0 old new → HasRows r (place + 1) new
  alone-rows name origins old new true made has tables grown row =
      ending-rows r place old new has (subst (λ n. AddsRow n old new) (sym made.nobody) grown.adds) grown.sound row made.within made.ending
  alone-rows name origins old new false made has tables grown row =
      step-rows r place old new has (subst (λ n. AddsRow n old new) (sym made.nobody) grown.adds) grown.sound (listed origins.closing)
      (subst (λ n. IsGreatestRow (listed origins.closing) n old new) (sym made.nobody) row)
      (closing-kept r place origins tables made.within made.nobody made.asked made.ending) (kept-closing r place origins tables made.within made.nobody made.asked made.ending)
