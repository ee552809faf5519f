-- Devices in memory, whose calls fail by a list.
use Rattle.std.specs.Prelude.{◌≡◌, ℕ, ◌+◌, ◌-◌, ◌^◌, min, List, drop, Contains, Option, Some, None, if◌then◌else◌}
use Rattle.sr_ports.specs.Files.{Readings}
use Rattle.sr_ports.specs.declared.clock.ClockCall.{ClockCall}
use Rattle.sr_ports.specs.declared.memory_clock.MemClock.{MemClock}
use Rattle.sr_ports.specs.declared.schedule.Schedule.{Schedule}
use Rattle.sr_ports.specs.declared.memory_files.MemFiles.{MemFiles}
use Rattle.sr_ports.specs.declared.memory_streams.MemSource.{MemSource}
use Rattle.sr_ports.specs.declared.memory_streams.MemSink.{MemSink}

-- the number of the next call, from 1; it stands still at the end of its type
abbrev pub next_call : Schedule → ℕ
next_call schedule = min (schedule.calls + 1) (2 ^ 64 - 1)

-- the next call is one of those that are to fail
abbrev pub NextFails : Schedule → Type 0
NextFails schedule = Contains schedule.failing (next_call schedule)

-- one call was made, and the list of those that fail stayed
pub record MakesCall (old new : Schedule) : Type 0 where
  pub counted : new.calls ≡ next_call old
  pub kept : new.failing ≡ old.failing

-- no call was made yet, and these are to fail
pub record HasNoCalls (schedule : Schedule) (failing : List ℕ) : Type 0 where
  pub none : schedule.calls ≡ 0
  pub no_faults : schedule.faults ≡ 0
  pub none_failed : schedule.failed ≡ 0
  pub listed : schedule.failing ≡ failing

-- how many of so many bytes fit beside those that are held
abbrev pub fitting : Option ℕ → ℕ → ℕ → ℕ
fitting None held count = count
fitting (Some room) held count = min count (room - held)

-- what a device in memory holds or has left, the most bytes of one call, its calls, and how many of them failed

abbrev pub files_held : MemFiles → List (List ℕ × List ℕ)
files_held files = files.files

abbrev pub files_calls : MemFiles → Schedule
files_calls files = files.schedule

abbrev pub files_readings : MemFiles → Readings
files_readings files = record { reads = files.schedule.calls; failed = files.schedule.failed }

abbrev pub files_faults : MemFiles → ℕ
files_faults files = files.schedule.faults

abbrev pub source_left : MemSource → List ℕ
source_left source = drop source.at source.bytes

abbrev pub source_most : MemSource → ℕ
source_most source = source.most

abbrev pub source_calls : MemSource → Schedule
source_calls source = source.schedule

abbrev pub source_faults : MemSource → ℕ
source_faults source = source.schedule.faults

abbrev pub sink_held : MemSink → List ℕ
sink_held sink = sink.bytes

abbrev pub sink_most : MemSink → ℕ
sink_most sink = sink.most

-- how many bytes it holds at most
abbrev pub sink_room : MemSink → Option ℕ
sink_room sink = sink.room

abbrev pub sink_calls : MemSink → Schedule
sink_calls sink = sink.schedule

abbrev pub sink_faults : MemSink → ℕ
sink_faults sink = sink.schedule.faults

-- the calls of a clock, until they are too many
abbrev pub clock_calls : MemClock → Option (List ClockCall)
clock_calls clock = if clock.told then Some clock.calls.items else None

-- what it tells next, and how much passes then
abbrev pub clock_moment : MemClock → ℕ
clock_moment clock = clock.moment

abbrev pub clock_step : MemClock → ℕ
clock_step clock = clock.step
