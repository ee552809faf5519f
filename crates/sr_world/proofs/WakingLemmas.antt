-- A request that can't be done still can't, while what it waits for stays.
use Rattle.std.proofs.Common.{◌≡◌, ℕ, Bool, true, false, not, List, Option, None, Some, is_some, refl, ap, sym, ◌∙◌}
use Rattle.std.specs.Prelude.{find, nat_lt, slice_get}
use Rattle.sr_ask.specs.declared.ask.Ask.{Ask}
use Rattle.sr_ask.specs.declared.request.Request.{Request}
use Rattle.sr_ask.specs.declared.request.Request.TheVariants as request
use Rattle.sr_calls.specs.Calls.{answers_one, items_of}
use Rattle.sr_core.specs.declared.component.Core.{Core}
use Rattle.sr_core.specs.declared.site.Site.{Site}
use Rattle.sr_select.specs.Choices.{choice}
use Rattle.sr_select.specs.Laws.{Chosen, Services_it, Runs_else, Waits, Faults, chosen_in}
use Rattle.sr_select.specs.declared.choice.Choice.{Choice}
use Rattle.sr_select.specs.declared.choice.Choice.TheVariants as chosen
use Rattle.sr_select.proofs.LawProofs.{one-class-decides}
use Rattle.sr_value.specs.declared.capability.Cap.{Cap}
use Rattle.sr_value.specs.declared.value.Value.{Value}
use Rattle.sr_world.specs.Deciding.{can_choose, can_create, can_do, can_ensure, can_select, can_select_at, can_select_in}
use Rattle.sr_world.specs.Does.{Outcome, IsDone, IsMade, IsNot, IsEnd, IsOpen, comes_to, is_possible}
use Rattle.sr_world.specs.Laws.{OneClassDecides}
use Rattle.sr_world.specs.Selecting.{choice_of, me_of, reading_of}
use Rattle.sr_world.specs.Steps.{does}
use Rattle.sr_world.specs.Waking.{SameFor, SameForSite, SameForSelect, SameInstances, SameReplies}
use Rattle.sr_world.specs.Worlds.{World}
use Rattle.sr_world.proofs.ReadyLemmas.{can_is}

-- ---- instances

module _ (core : Core) (old new : World) (same : SameInstances old new) where
  same_ensure : (global : ℕ) (vm : Cap) → can_ensure core old global vm ≡ can_ensure core new global vm
  same_ensure global vm = ap (λ instances. can_ensure core (record old { places = record old.places { instances = instances } }) global vm) same

  same_create : (resource : ℕ) (vm : Cap) → can_create core old resource vm ≡ can_create core new resource vm
  same_create resource vm = ap (λ instances. can_create core (record old { places = record old.places { instances = instances } }) resource vm) same

-- ---- replies

same_take : (actor : ℕ) (ids : List ℕ) (old new : World) → SameReplies actor old new
    → is_some (find (answers_one ids) (items_of old.replies actor)) ≡ is_some (find (answers_one ids) (items_of new.replies actor))
same_take actor ids old new same = ap (λ replies. is_some (find (answers_one ids) replies)) same

-- ---- choices

-- whether a choice can be done
can_of : Site → Chosen → Bool
can_of site (Services_it invocation arm) = is_some invocation
can_of site Runs_else = true
can_of site Waits = false
can_of site (Faults fault arm) = is_some (slice_get site.arms arm)

can_chosen : (world : World) (site : Site) (made : Choice) → can_choose world site made ≡ can_of site (chosen_in world.pending made)
unfolding can_of
can_chosen world site (chosen.Service place arm) = refl
can_chosen world site chosen.Else = refl
can_chosen world site chosen.Nothing = refl
can_chosen world site (chosen.Bad fault arm) = refl

pub one_class_decides : OneClassDecides
one_class_decides core process env site world other same =
    one-class-decides (reading_of core world process) (reading_of core other process) site (me_of world process) env world.pending other.pending same.class same.has_operations same.invocations same.watched same.has_names same.guards
    ∙ ap (λ me. chosen_in other.pending (choice (reading_of core other process) site me env other.pending)) same.process

module _ (core : Core) (actor : ℕ) (env : List Value) (old new : World) where
  same_at : (site : Site) → SameForSite core actor env site old new → can_select_at core old actor env site ≡ can_select_at core new actor env site
  same_at site same =
      can_chosen old site (choice_of core old actor env site)
      ∙ ap (can_of site) (one_class_decides core actor env site old new same)
      ∙ sym (can_chosen new site (choice_of core new actor env site))

  same_select : (number : ℕ) → SameForSelect core actor number env old new → can_select core old actor number env ≡ can_select core new actor number env
  same_select number same = by (slice_get core.sites number) refl
    where
      by : (o : Option Site) → slice_get core.sites number ≡ o → can_select_in core old actor env o ≡ can_select_in core new actor env o
      by None is = refl
      by (Some site) is = same_at site (same site is)

-- ---- all requests

module _ (core : Core) (actor : ℕ) (old new : World) where
  same_can : (r : Request) → SameFor core actor r old new → can_do core old actor r ≡ can_do core new actor r
  same_can (request.Declare block var shape) same = refl
  same_can (request.Load block var path) same = refl
  same_can (request.Store block var path value) same = refl
  same_can (request.Invoke target args wants) same = refl
  same_can (request.Select site env) same = same_select core actor env old new site same
  same_can (request.Take ids) same = same_take actor ids old new same
  same_can (request.Reply held back results) same = refl
  same_can (request.Forward held back target args) same = refl
  same_can (request.Count op) same = refl
  same_can (request.Write bytes) same = refl
  same_can (request.Read kind) same = refl
  same_can (request.EnsureGlobal global vm) same = same_ensure core old new same global vm
  same_can (request.Create resource args vm) same = same_create core old new same resource vm
  same_can request.MakeVm same = refl
  same_can (request.Destroy target) same = refl
  same_can (request.Finish answered back results) same = refl
  same_can (request.Stop status) same = refl
  same_can (request.Fail fault) same = refl
  same_can request.Age same = refl
  same_can (request.Wake until) same = ap (λ moment. not (nat_lt moment until)) same

pub is_not : (outcome : Outcome) → is_possible outcome ≡ false → outcome ≡ IsNot
is_not IsDone h = cc
is_not IsMade h = cc
is_not IsNot h = refl
is_not (IsEnd ending) h = cc
is_not IsOpen h = cc

pub still_not : (core : Core) (old new : World) (actor : ℕ) (ask : Ask) (name other : ℕ) → SameFor core actor ask.request old new
    → comes_to (does core old actor ask name) ≡ IsNot → comes_to (does core new actor ask other) ≡ IsNot
still_not core old new actor ask name other same is =
    is_not (comes_to (does core new actor ask other))
    (can_is core ask.place other new actor ask.role ask.request
    ∙ sym (same_can core actor old new ask.request same)
    ∙ sym (can_is core ask.place name old actor ask.role ask.request)
    ∙ ap is_possible is)
