-- How far the walk along a run has come that is traced.
use Rattle.std.specs.Prelude.{◌≡◌, ◌<◌, ◌≤◌, ◌⊎◌, ℕ, Bool, true, false, List, length, Option, Some, None}
use Rattle.sr_ask.specs.declared.answer.Answer.{Answer}
use Rattle.sr_ask.specs.declared.ask.Ask.{Ask}
use Rattle.sr_ask.specs.declared.ask.Asks.{Asks}
use Rattle.sr_clock_rows.specs.Lasts.{last_in}
use Rattle.sr_replay.specs.Replaying.{IsAt}
use Rattle.sr_trace.specs.Asking.{act_of, subject_of}
use Rattle.sr_trace.specs.declared.traced.Act.{Act}
use Rattle.sr_trace.specs.declared.traced.Runs.{Runs}
use Rattle.sr_trace.specs.declared.traced.Runs.TheVariants as runs
use Rattle.sr_trace.specs.declared.traced.Subject.TheVariants as subject
use Rattle.sr_trace.specs.declared.traced.Traced.{Traced}
use Rattle.sr_world.specs.Runs.{is_legal}
use Rattle.sr_races.specs.Items.{Run, stands_after}
use Rattle.sr_races.specs.Origins.{AreOrigins, after_in, made_if}
use Rattle.sr_races.specs.Traces.{AreTraced, named_at}
use Rattle.sr_races.specs.declared.origins.Origins.{Origins}
use Rattle.sr_races.specs.declared.trail.Trail.{Trail}

-- the row of a step, by the last items of each kind
abbrev pub step_row : Origins → List Traced → ℕ → ℕ → Runs → Ask → ℕ → ℕ → Traced
step_row origins rows place process runs ask answered global = record {
  item = place;
  process = process;
  runs = runs;
  act = act_of ask.request;
  subject = subject_of ask.request (named_at rows (after_in origins ask.request answered global));
  begun_by = made_if (last_in origins.lasts process) (last_in origins.makers process);
  after = after_in origins ask.request answered global;
  place = Some ask.place;
}

-- the row of an item of no process
abbrev pub alone_row : ℕ → Act → Traced
alone_row place act = record {
  item = place;
  process = 0;
  runs = runs.Machine;
  act = act;
  subject = subject.Nothing;
  begun_by = None;
  after = None;
  place = None;
}

pub record IsTrailed {A : Type 0} (after : A → List Answer → Asks) (r : Run) (count : ℕ) (trail : Trail A) : Type 0 where
  pub within : count ≤ length r.items
  pub at : IsAt after r.core r.limit (stands_after r count) trail.replayer
  pub origins : AreOrigins r count trail.origins
  pub rows : AreTraced r count trail.rows

-- the next item was made, where there is such an item
abbrev pub TrailsOn : {A : Type 0} → (A → List Answer → Asks) → Run → ℕ → Bool → Trail A → Type 0
TrailsOn after r count false trail = is_legal (stands_after r count) ≡ false
TrailsOn after r count true trail = IsTrailed after r count trail

-- the next item was made, and a run may have so many
abbrev pub TrailsTo : {A : Type 0} → (A → List Answer → Asks) → ℕ → Run → ℕ → Bool → Trail A → Type 0
TrailsTo after steps r count false trail = (steps < count) ⊎ (is_legal (stands_after r count) ≡ false)
TrailsTo after steps r count true trail = IsTrailed after r count trail
