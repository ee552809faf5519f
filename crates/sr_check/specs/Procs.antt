-- What a contract sees of the procs of a component: by the operation that each serves, where it begins.
use Rattle.std.specs.Prelude.{List, Option}
use Rattle.std.specs.Map.{lookup}
use Rattle.indexmap.specs.IndexMap.{insert_entry}
use Rattle.sr_value.specs.declared.place.Span.{Span}
use Rattle.sr_names.specs.declared.spot.Spot.{Spot}
use Rattle.sr_names.specs.Spots.{same_spot}

abbrev pub Procs : Type 0
Procs = List (Spot × Span)

-- where the proc of an operation begins
abbrev pub proc_of : Procs → Spot → Option Span
proc_of procs operation = lookup (same_spot operation) procs

abbrev pub with_proc : Procs → Spot → Span → Procs
with_proc procs operation span = insert_entry same_spot procs operation span
