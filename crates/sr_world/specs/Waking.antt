-- What lets a request go on that can't be done now: while none of it happens, it still can't.
use Rattle.std.specs.Prelude.{◌≡◌, ℕ, Bool, true, List, Some, filter, slice_get}
use Rattle.std.specs.List.{list_all}
use Rattle.sr_ask.specs.declared.request.Request.{Request}
use Rattle.sr_ask.specs.declared.request.Request.TheVariants as request
use Rattle.sr_calls.specs.Calls.{items_of}
use Rattle.sr_core.specs.declared.component.Core.{Core}
use Rattle.sr_core.specs.declared.site.Site.{Site}
use Rattle.sr_select.specs.Choices.{owner_in}
use Rattle.sr_select.specs.Laws.{is_in_class}
use Rattle.sr_select.specs.Worlds.{SameWatched, Watched, reads_only}
use Rattle.sr_value.specs.declared.value.Value.{Value}
use Rattle.sr_world.specs.Selecting.{me_of, reading_of}
use Rattle.sr_world.specs.Worlds.{World}

-- a `Take` waits for a reply to its process
abbrev pub SameReplies : ℕ → World → World → Type 0
SameReplies actor old new = items_of old.replies actor ≡ items_of new.replies actor

-- `EnsureGlobal` and `Create` wait for an instance that is made or changes its state
abbrev pub SameInstances : World → World → Type 0
SameInstances old new = old.places.instances ≡ new.places.instances

-- a `Wake` waits for its moment
abbrev pub SameMoment : World → World → Type 0
SameMoment old new = old.moment ≡ new.moment

-- A `Select` waits for an invocation of an operation of its statement, and for a change of what its guards name: here no
-- invocation of a class that has these operations comes or goes, and the watched variables and counts stay.
pub record SameForSite (core : Core) (actor : ℕ) (env : List Value) (site : Site) (old new : World) : Type 0 where
  pub process : me_of old actor ≡ me_of new actor
  pub class : ℕ → Bool
  pub has_operations : list_all (λ arm. class arm.op) site.arms ≡ true
  pub invocations : filter (is_in_class (owner_in site.scope (me_of old actor)) class) old.pending ≡ filter (is_in_class (owner_in site.scope (me_of old actor)) class) new.pending
  pub watched : Watched
  pub has_names : reads_only watched site ≡ true
  pub guards : SameWatched watched site (me_of old actor) env (reading_of core old actor) (reading_of core new actor)

abbrev pub SameForSelect : Core → ℕ → ℕ → List Value → World → World → Type 0
SameForSelect core actor number env old new = (site : Site) → slice_get core.sites number ≡ Some site → SameForSite core actor env site old new

-- what a request of a process waits for stays; one that waits for nothing else isn't a request of the program
abbrev pub SameFor : Core → ℕ → Request → World → World → Type 0
SameFor core actor (request.Take ids) old new = SameReplies actor old new
SameFor core actor (request.EnsureGlobal global vm) old new = SameInstances old new
SameFor core actor (request.Create resource args vm) old new = SameInstances old new
SameFor core actor (request.Wake until) old new = SameMoment old new
SameFor core actor (request.Select site env) old new = SameForSelect core actor site env old new
SameFor core actor _ old new = Unit {0}
