-- What the search for the least key finds.
use Rattle.std.specs.Prelude.{◌≡◌, ℕ, List, ◌++◌, Option, Some, None, Result, Ok, Err}
use Rattle.sr_value.specs.declared.capability.Owner.{Owner}
use Rattle.sr_value.specs.declared.fault.ValueFail.{ValueFail}
use Rattle.sr_value.specs.declared.fault.ValueFail.TheVariants.{Fault as a_fault, NoMemory as out_of_memory}
use Rattle.sr_ask.specs.declared.entry.Seen.{Seen}
use Rattle.sr_core.specs.declared.expression.Expr.{Expr}
use Rattle.sr_core.specs.declared.site.Arm.{Arm}
use Rattle.sr_queue.specs.declared.pending.Pending.{Pending}
use Rattle.sr_select.specs.declared.least.Keyed.{Keyed}
use Rattle.sr_select.specs.Choices.{Seeing, invocations_from, key_fault, keys_of, least, seen_keys}

-- the first fault, or else the least; and what was read until then
abbrev pub FindsLeast : Seeing → Owner → Arm → Expr → ℕ → List Pending → Result (Option Keyed) ValueFail → List Seen → List Seen → Type 0
FindsLeast sees owner arm by from items (Ok best) old new =
    (key_fault sees arm by (invocations_from owner arm from items) ≡ None)
    × (least (keys_of sees arm by (invocations_from owner arm from items)) ≡ best)
    × (new ≡ old ++ seen_keys sees arm by (invocations_from owner arm from items))
FindsLeast sees owner arm by from items (Err (a_fault found)) old new =
    (key_fault sees arm by (invocations_from owner arm from items) ≡ Some found)
    × (new ≡ old ++ seen_keys sees arm by (invocations_from owner arm from items))
FindsLeast sees owner arm by from items (Err out_of_memory) old new = Unit {0}
