-- Whose operations and variables are meant, in a process.
use Rattle.std.specs.Prelude.{ℕ, unwrap_or, slice_get}
use Rattle.sr_value.specs.declared.capability.Owner.{Owner}
use Rattle.sr_value.specs.declared.capability.Owner.TheVariants.{Inst, Proc as of_process}
use Rattle.sr_ask.specs.Here.{Here}
use Rattle.sr_ask.specs.declared.environment.Spot.{Spot}
use Rattle.sr_ask.specs.declared.environment.Spot.TheVariants.{Own as an_own, Shared as a_shared}
use Rattle.sr_ask.specs.declared.request.ReadKind.{ReadKind}
use Rattle.sr_ask.specs.declared.request.ReadKind.TheVariants.{Int as read_int, Bool as read_bool, Char as read_char, Str as read_str}
use Rattle.sr_core.specs.declared.expression.Readable.{Readable}
use Rattle.sr_core.specs.declared.expression.Readable.TheVariants.{Int as an_int, Bool as a_bool, Char as a_char, Str as a_str}
use Rattle.sr_core.specs.declared.owner.Home.{Home}
use Rattle.sr_core.specs.declared.owner.Home.TheVariants.{Mine as my_home, Imported as imported_home}
use Rattle.sr_core.specs.declared.owner.OperationOwner.{OperationOwner}
use Rattle.sr_core.specs.declared.owner.OperationOwner.TheVariants.{Mine, Imported, Process}
use Rattle.sr_core.specs.declared.owner.Root.{Root}
use Rattle.sr_core.specs.declared.owner.Root.TheVariants.{Own as own_root, Shared as shared_root}
use Rattle.sr_core.specs.declared.statement.Scope.{Scope}
use Rattle.sr_core.specs.declared.statement.Scope.TheVariants.{Own as own_scope, Shared as shared_scope}

-- the instance of an imported global
abbrev pub home_at : ℕ → Here → ℕ
home_at at here = unwrap_or (slice_get here.start.homes at) 0

-- an operation's capability names its owner
abbrev pub owner_in : OperationOwner → Here → Owner
owner_in Mine here = Inst here.start.instance
owner_in (Imported at) here = Inst (home_at at here)
owner_in Process here = of_process here.start.process

-- the instance whose shared variables are meant
abbrev pub block_in : Home → Here → ℕ
block_in my_home here = here.start.instance
block_in (imported_home at) here = home_at at here

-- the variable of a place
abbrev pub root_in : Root → Here → Spot
root_in (own_root var) here = an_own var
root_in (shared_root home var) here = a_shared (block_in home here) var

-- the variable of a declaration
abbrev pub variable_in : Scope → ℕ → Here → Spot
variable_in own_scope var here = an_own var
variable_in shared_scope var here = a_shared here.start.instance var

-- how an item is asked for
abbrev pub kind_asked : Readable → ReadKind
kind_asked an_int = read_int
kind_asked a_bool = read_bool
kind_asked a_char = read_char
kind_asked a_str = read_str
