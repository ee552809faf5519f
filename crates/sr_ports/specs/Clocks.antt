-- What the calls of a clock tell.
use Rattle.std.specs.Prelude.{◌≡◌, ◌++◌, ◌∷◌, [], ◌+◌, ◌-◌, ◌^◌, ℕ, List, min, Option, Some, None, IsSomeAnd}
use Rattle.sr_ports.specs.declared.clock.ClockCall.{ClockCall}

-- A call was made. Where the calls are told after it, they were told before it, and are one more.
abbrev pub AddsCall : ClockCall → Option (List ClockCall) → Option (List ClockCall) → Type 0
AddsCall call before None = Unit {0}
AddsCall call before (Some calls) = IsSomeAnd before (λ earlier. calls ≡ earlier ++ call ∷ [])

-- a number of milliseconds after so many more; it stands still at the end of its type
abbrev pub after_more : ℕ → ℕ → ℕ
after_more moment more = min (moment + more) (2 ^ 32 - 1)
