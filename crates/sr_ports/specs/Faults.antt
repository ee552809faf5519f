-- When a device may say that it failed.
use Rattle.std.specs.Prelude.{◌≡◌, ℕ, ◌+◌, ◌-◌, ◌^◌, ◌≤◌, min, Result, Ok, Err}
use Rattle.sr_ports.specs.declared.fault.PortFail.{PortFail}
use Rattle.sr_ports.specs.declared.fault.PortFail.TheVariants.{Failed, NoMemory}
use Rattle.sr_ports.specs.declared.fault.TakeFailed.{TakeFailed}

-- the count of faults rose between two moments, by one or more; at the end of its type, 2^64 - 1, it stands still
pub record Rose (before now : ℕ) : Type 0 where
  pub later : before ≤ now
  pub rose : min (before + 1) (2 ^ 64 - 1) ≤ now

-- a call says `Failed` only where it raised the count, and leaves the count under every other answer
abbrev pub Counts : {T : Type 0} → ℕ → ℕ → Result T PortFail → Type 0
Counts before now (Ok value) = now ≡ before
Counts before now (Err Failed) = Rose before now
Counts before now (Err NoMemory) = now ≡ before

-- the same of a call that takes no memory
abbrev pub TakeCounts : ℕ → ℕ → Result ℕ TakeFailed → Type 0
TakeCounts before now (Ok count) = now ≡ before
TakeCounts before now (Err failed) = Rose before now
