-- Pending invocations by arrival.
use Rattle.std.specs.Prelude.{ℕ, Bool, ◌&&◌, ◌==◌, List, count_by}
use Rattle.sr_value.specs.declared.capability.Owner.{Owner}
use Rattle.sr_value.specs.Operators.{owner_eq}
use Rattle.sr_queue.specs.declared.pending.Pending.{Pending}

-- the pending invocations of a world stand in one list by arrival, the oldest first; room is how many more it takes without memory
pub record Queued : Type 0 where
  pub items : List Pending
  pub room : ℕ

-- an invocation is of an operation of an owner: two owners may have an operation of one number
abbrev pub is_of : Owner → ℕ → Pending → Bool
is_of owner op p = (p.op == op) && owner_eq p.owner owner

-- `?op` is the number of pending invocations of the operation with this owner
abbrev pub waiting : Owner → ℕ → List Pending → ℕ
waiting owner op items = count_by (is_of owner op) items
