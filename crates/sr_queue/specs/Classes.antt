-- The operations of owners, to which pending invocations belong.
use Rattle.std.specs.Prelude.{ℕ, Bool, ◌&&◌, ◌==◌, true, false, List, drop, Option}
use Rattle.std.specs.Bool.{beq}
use Rattle.std.specs.List.{position_from}
use Rattle.sr_value.specs.declared.capability.Owner.{Owner}
use Rattle.sr_value.specs.declared.capability.Owner.TheVariants.{Inst, Proc as of_process}
use Rattle.sr_queue.specs.declared.class.Class.{Class}
use Rattle.sr_queue.specs.declared.pending.Pending.{Pending}
use Rattle.sr_queue.specs.Queues.{is_of}

-- an operation of an owner
abbrev pub class_of : Owner → ℕ → Class
class_of (Inst owner) op = record { of_process = false; owner = owner; op = op }
class_of (of_process owner) op = record { of_process = true; owner = owner; op = op }

-- the operation that an invocation is of
abbrev pub class_in : Pending → Class
class_in p = class_of p.owner p.op

abbrev pub same_class : Class → Class → Bool
same_class a b = beq a.of_process b.of_process && ((a.owner == b.owner) && (a.op == b.op))

-- the place of the first of a class at or after a place
abbrev pub next_among : Class → ℕ → List Class → Option ℕ
next_among class from classes = position_from (same_class class) from (drop from classes)

-- the place of the first invocation of an operation at or after a place
abbrev pub next_waiting : Owner → ℕ → ℕ → List Pending → Option ℕ
next_waiting owner op from items = position_from (is_of owner op) from (drop from items)
