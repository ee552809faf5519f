-- What guards read of the world.
use Rattle.std.specs.Prelude.{ℕ, List, Result}
use Rattle.sr_value.specs.declared.fault.Fault.{Fault}
use Rattle.sr_value.specs.declared.shape.Sel.{Sel}
use Rattle.sr_value.specs.declared.value.Value.{Value}

-- The value at the end of a path in a shared variable of a block, or the fault of the load; how many invocations
-- of an operation are pending; and the names of the literals of each enumeration.
pub record Reading : Type 0 where
  pub load : ℕ → ℕ → List Sel → Result Value Fault
  pub count : ℕ → ℕ
  pub names : List (List (List ℕ))
