-- The tables in which the variables of blocks are kept.
use Rattle.std.specs.Prelude.{ℕ, List, [], ◌∷◌, map as each}
use Rattle.std.specs.FinMap as map
use Rattle.sr_store.specs.Variables.{ByNumber, Stored, Variables, with_block}
use Rattle.sr_store.specs.declared.variable.Variable.{Variable}

-- the variables of one block, and how many more take no memory
pub record Kept : Type 0 where
  pub variables : ByNumber Variable
  pub room : ℕ

abbrev pub variables_on : List (ℕ × Kept) → Variables
variables_on [] = map.empty
variables_on (e ∷ es) = with_block (variables_on es) e.0 e.1.variables

abbrev pub stored_on : List (ℕ × Kept) → Stored
stored_on blocks = record { variables = variables_on blocks; room = map.from_entries (each (λ e. (e.0, e.1.room)) blocks) }
