-- What a request reads of the world for its choice.
use Rattle.std.specs.Prelude.{ℕ, List, [], Option, Some, None, slice_get}
use Rattle.sr_ask.specs.declared.entry.Seen.{Seen}
use Rattle.sr_ask.specs.declared.request.Request.{Request}
use Rattle.sr_ask.specs.declared.request.Request.TheVariants as request
use Rattle.sr_core.specs.declared.component.Core.{Core}
use Rattle.sr_core.specs.declared.site.Site.{Site}
use Rattle.sr_select.specs.Choices.{choice_seen}
use Rattle.sr_value.specs.declared.value.Value.{Value}
use Rattle.sr_world.specs.Selecting.{me_of, reading_of}
use Rattle.sr_world.specs.Worlds.{World}

-- the variables and counts that the guards of a statement read, in order
abbrev pub seen_at : Core → World → ℕ → List Value → Site → List Seen
seen_at core world process env site = choice_seen (reading_of core world process) site (me_of world process) env world.pending

abbrev pub seen_if : Core → World → ℕ → List Value → Option Site → List Seen
seen_if core world process env None = []
seen_if core world process env (Some site) = seen_at core world process env site

-- a request that chooses nothing reads nothing for a choice
abbrev pub seen_by : Core → World → ℕ → Request → List Seen
seen_by core world process (request.Select site env) = seen_if core world process env (slice_get core.sites site)
seen_by core world process _ = []
