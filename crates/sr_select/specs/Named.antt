-- The invocations of the operations of a statement's open arms.
use Rattle.std.specs.Prelude.{ℕ, Bool, not, ◌&&◌, List, drop, Option, None, Some, nat_lt, if◌then◌else◌}
use Rattle.std.specs.List.{list_any, position_from}
use Rattle.sr_value.specs.declared.capability.Owner.{Owner}
use Rattle.sr_core.specs.declared.site.Arm.{Arm}
use Rattle.sr_queue.specs.declared.pending.Pending.{Pending}
use Rattle.sr_queue.specs.Queues.{is_of}
use Rattle.sr_select.specs.declared.closed.Closed.{Closed}
use Rattle.sr_select.specs.Closing.{is_closed}

-- the lesser of two places, where there are any
abbrev pub earlier : Option ℕ → Option ℕ → Option ℕ
earlier None other = other
earlier (Some one) None = Some one
earlier (Some one) (Some other) = Some (if nat_lt other one then other else one)

abbrev pub is_of_open : Owner → Closed → Pending → ℕ × Arm → Bool
is_of_open owner closed p (number, arm) = not (is_closed closed number) && is_of owner arm.op p

-- an open arm is of the invocation's operation
abbrev pub is_named_open : Owner → Closed → List (ℕ × Arm) → Pending → Bool
is_named_open owner closed arms p = list_any (is_of_open owner closed p) arms

-- the place of the first invocation at or after a place whose operation an open arm names
abbrev pub next_open : Owner → Closed → List (ℕ × Arm) → ℕ → List Pending → Option ℕ
next_open owner closed arms from items = position_from (is_named_open owner closed arms) from (drop from items)
