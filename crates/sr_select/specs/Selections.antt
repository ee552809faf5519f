-- What a statement chooses from, as the choice sees it.
use Rattle.std.specs.Prelude.{ℕ, List, Option}
use Rattle.std.specs.List.{enumerate_from}
use Rattle.sr_ask.specs.declared.entry.Seen.{Seen}
use Rattle.sr_core.specs.declared.site.Arm.{Arm}
use Rattle.sr_queue.specs.declared.pending.Pending.{Pending}
use Rattle.sr_select.specs.declared.choice.Choice.{Choice}
use Rattle.sr_select.specs.declared.selection.Selection.{Selection}
use Rattle.sr_select.specs.Choices.{Pair, choice_among, pairs, pairs_of, seen_among, seen_serviced, serviced}
use Rattle.sr_select.specs.Readings.{Reading}
use Rattle.sr_select.specs.Sights.{seeing}

-- the pairs of one invocation, and all
abbrev pub pairs_at : Selection → ℕ → Pending → List Pair
pairs_at selection place pending = pairs_of selection.owner (enumerate_from 0 selection.arms.now) (place, pending)

abbrev pub pairs_in : Selection → List Pair
pairs_in selection = pairs selection.owner (enumerate_from 0 selection.arms.now) (enumerate_from 0 selection.queue.now.items)

-- the choice among pairs and what it reads
abbrev pub choice_from : Reading → Selection → List Pair → Option Choice
choice_from reading selection tried = choice_among (seeing reading selection.scene) selection.owner selection.queue.now.items tried

abbrev pub seen_from : Reading → Selection → List Pair → List Seen
seen_from reading selection tried = seen_among (seeing reading selection.scene) selection.owner selection.queue.now.items tried

-- which invocation an arm services, and what that reads
abbrev pub serviced_by : Reading → Selection → ℕ → ℕ → Arm → Choice
serviced_by reading selection place number arm = serviced (seeing reading selection.scene) selection.owner selection.queue.now.items place number arm arm.by

abbrev pub seen_by : Reading → Selection → ℕ → Arm → List Seen
seen_by reading selection place arm = seen_serviced (seeing reading selection.scene) selection.owner selection.queue.now.items place arm arm.by
