-- What a take and a put do to the bytes that a source has left and a sink holds, where these are told.
use Rattle.std.specs.Prelude.{◌≡◌, ℕ, ◌<◌, ◌≤◌, ◌↔◌, List, [], length, take, Option, Result, Ok, Err, IfSome}
use Rattle.std.specs.Io.KnownBytes.{append_known, prepend_known}
use Rattle.sr_ports.specs.declared.fault.PortFail.{PortFail}
use Rattle.sr_ports.specs.declared.fault.TakeFailed.{TakeFailed}

-- a take moved the next bytes left into the front of `room`; a failed one took none
abbrev pub Takes : Option (List ℕ) → Option (List ℕ) → Result ℕ TakeFailed → List ℕ → Type 0
Takes left now (Ok count) room = (count ≤ length room) × (left ≡ prepend_known (take count room) now)
Takes left now (Err failed) room = now ≡ left

-- a take gives no byte exactly where no byte is left
abbrev pub EndsWhereEmpty : Option (List ℕ) → Result ℕ TakeFailed → Type 0
EndsWhereEmpty left (Ok count) = IfSome left (λ bytes. (count ≡ 0) ↔ (bytes ≡ []))
EndsWhereEmpty left (Err failed) = Unit {0}

-- a put appended the first bytes of `piece`, one or more; under every other answer it appended none
abbrev pub Puts : Option (List ℕ) → Option (List ℕ) → Result ℕ PortFail → List ℕ → Type 0
Puts held now (Ok count) piece = (0 < count) × (count ≤ length piece) × (now ≡ append_known held (take count piece))
Puts held now (Err fail) piece = now ≡ held

-- some first bytes of a text were appended, and not all of them
pub record PutInPart (held now : Option (List ℕ)) (bytes : List ℕ) : Type 0 where
  pub count : ℕ
  pub short : count < length bytes
  pub appended : now ≡ append_known held (take count bytes)
