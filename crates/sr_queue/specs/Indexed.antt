-- The index of a queue.
use Rattle.std.specs.Prelude.{◌≡◌, List, map, Option, None, Some}
use Rattle.sr_queue.specs.declared.class.Class.{Class}
use Rattle.sr_queue.specs.declared.pending.Pending.{Pending}
use Rattle.sr_queue.specs.Classes.{class_in}

-- where a queue has an index, it is of all that is pending
abbrev pub IsIndexed : List Pending → Option (List Class) → Type 0
IsIndexed items None = Unit {0}
IsIndexed items (Some classes) = classes ≡ map class_in items
