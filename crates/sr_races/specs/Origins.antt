-- From which items links may still come: the last item that has a number of some kind.
use Rattle.std.specs.Prelude.{◌+◌, ◌&&◌, ℕ, Bool, true, false, not, List, [], ◌∷◌, ◌++◌, slice_get, Option, Some, None, if◌then◌else◌}
use Rattle.sr_ask.specs.declared.ask.Ask.{Ask}
use Rattle.sr_ask.specs.declared.item.Item.{Item}
use Rattle.sr_ask.specs.declared.item.Item.TheVariants.{Step}
use Rattle.sr_ask.specs.declared.request.Request.{Request}
use Rattle.sr_clock_rows.specs.Lasts.{AreLasts, IsLastIf, last_in}
use Rattle.sr_world.specs.Callers.{duty_by, waits_as}
use Rattle.sr_world.specs.Invoking.{instance_of_process}
use Rattle.sr_world.specs.Runs.{Next, Goes}
use Rattle.sr_world.specs.Worlds.{World}
use Rattle.sr_races.specs.Items.{Run, actor_at, asked_at, number_at, stands_after}
use Rattle.sr_races.specs.Links.{ends_all, instance_ready, is_take}
use Rattle.sr_world.specs.Deciding.{is_select}
use Rattle.sr_races.specs.declared.origins.Origins.{Origins}

-- ---- whom an item answers

abbrev pub owed : Option (ℕ × ℕ) → ℕ
owed None = 0
owed (Some duty) = duty.1

abbrev pub duty_in : Next → Option Item → Option Ask → ℕ
duty_in (Goes state) (Some (Step process name)) (Some ask) = owed (waits_as (duty_by state.world process name ask.request))
duty_in now item ask = 0

-- the number of the call that an item answers, or whose duty it hands on or makes; 0 where there is none
abbrev pub duty_at : Run → ℕ → ℕ
duty_at r i = duty_in (stands_after r i) (slice_get r.items i) (asked_at r i)

-- ---- which instance becomes ready

abbrev pub becomes_ready : ℕ → World → World → Bool
becomes_ready instance before after = not (instance_ready instance before) && instance_ready instance after

abbrev pub readied_by : ℕ → World → World → ℕ
readied_by instance before after = if becomes_ready instance before after then instance else 0

abbrev pub readied_in : Next → Option Item → Next → ℕ
readied_in (Goes old) (Some (Step process name)) (Goes new) = readied_by (instance_of_process old.world process) old.world new.world
readied_in old item new = 0

-- the instance of an item's process where it becomes ready with the item, or 0
abbrev pub readied_at : Run → ℕ → ℕ
readied_at r i = readied_in (stands_after r i) (slice_get r.items i) (stands_after r (i + 1))

-- ---- which item ends all

abbrev pub one_if : Bool → ℕ
one_if true = 1
one_if false = 0

abbrev pub ending_at : Run → ℕ → ℕ
ending_at r i = one_if (ends_all r i)

-- the last that ended all, once there is one item more
abbrev pub closing_if : Bool → ℕ → Option ℕ → Option ℕ
closing_if true item closing = Some item
closing_if false item closing = closing

-- the last items of the first, so many
pub record AreOrigins (r : Run) (count : ℕ) (origins : Origins) : Type 0 where
  pub lasts : AreLasts (actor_at r) count origins.lasts
  pub makers : AreLasts (number_at r) count origins.makers
  pub answerers : AreLasts (duty_at r) count origins.answerers
  pub readiers : AreLasts (readied_at r) count origins.readiers
  pub closing : IsLastIf (ending_at r) count 1 origins.closing

-- ---- from which items a step is linked

abbrev pub listed : Option ℕ → List ℕ
listed None = []
listed (Some item) = item ∷ []

-- the item that made a process which makes its first item
abbrev pub made_if : Option ℕ → Option ℕ → Option ℕ
made_if None maker = maker
made_if (Some last) maker = None

abbrev pub only_if : Bool → Option ℕ → Option ℕ
only_if true item = item
only_if false item = None

-- the last that ended all, the last of the process, and the one that made it, the invocation, the reply or the instance
abbrev pub origins_in : Origins → ℕ → Request → ℕ → ℕ → List ℕ
origins_in origins process request answered global =
    listed origins.closing ++ (listed (last_in origins.lasts process)
    ++ (listed (made_if (last_in origins.lasts process) (last_in origins.makers process))
    ++ (listed (only_if (is_select request) (last_in origins.makers answered))
    ++ (listed (only_if (is_take request) (last_in origins.answerers answered)) ++ listed (last_in origins.readiers global)))))

-- ---- the item after which a step comes

abbrev pub first_some : Option ℕ → Option ℕ → Option ℕ
first_some None second = second
first_some (Some item) second = Some item

-- the item that made the invocation which it services, the reply which it takes, or the instance ready for which it asks
abbrev pub after_in : Origins → Request → ℕ → ℕ → Option ℕ
after_in origins request answered global =
    first_some (only_if (is_select request) (last_in origins.makers answered))
    (first_some (only_if (is_take request) (last_in origins.answerers answered)) (last_in origins.readiers global))
