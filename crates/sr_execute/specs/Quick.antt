-- What an instruction does that is carried out quickly.
use Rattle.std.specs.Prelude.{◌≡◌, Result, Ok, Err}
use Rattle.sr_value.specs.declared.memory.NoMemory.{NoMemory}
use Rattle.sr_execute.specs.Executes.{Began, Went, Fails}
use Rattle.sr_execute.specs.declared.frame.Frame.{Frame}
use Rattle.sr_execute.specs.declared.quick.Carried.{Carried}
use Rattle.sr_execute.specs.declared.quick.Carried.TheVariants.{Goes, Faults, Left}

-- it did what was meant, or left all as it was; or memory ran out
abbrev pub DoesOrLeaves : Result Carried NoMemory → Frame → Frame → Began → Type 0
DoesOrLeaves (Ok (Goes to)) old new meant = meant ≡ Went to new
DoesOrLeaves (Ok (Faults fault)) old new meant = meant ≡ Fails fault
DoesOrLeaves (Ok Left) old new meant = new ≡ old
DoesOrLeaves (Err out) old new meant = Unit {0}
