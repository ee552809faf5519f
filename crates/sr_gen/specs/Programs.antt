-- What the code of a whole program asks.
use Rattle.std.specs.Prelude.{◌≡◌, ℕ, List, [], length, Option, Some, None, option_map, slice_get}
use Rattle.std.specs.Option.{option_and_then}
use Rattle.sr_ask.specs.declared.ask.Role.{Role}
use Rattle.sr_ask.specs.declared.ask.Role.TheVariants.{Boot, Initial, Proc as proc_role, Final}
use Rattle.sr_ask.specs.declared.environment.Gives.{Gives}
use Rattle.sr_ask.specs.declared.environment.Gives.TheVariants.{Values, Instance}
use Rattle.sr_core.specs.declared.component.Body.{Body}
use Rattle.sr_core.specs.declared.component.Core.{Core}
use Rattle.sr_code.specs.Acts.{point}
use Rattle.sr_code.specs.Runs.{Machine, go}
use Rattle.sr_code.specs.Stretches.{Extends, Follows, Has}
use Rattle.sr_code.specs.declared.code.Coded.{Coded}
use Rattle.sr_code.specs.declared.code.Entry.{Entry}
use Rattle.sr_code.specs.declared.operands.Operands.{Operands}
use Rattle.sr_meaning.specs.Processes.{component_for, line_of_component, owns_of, proc_gives, role_meaning}
use Rattle.sr_gen_expr.specs.Emitting.{tree_here}

-- the code of a kind of process, as the tree has it
abbrev pub body_at : Role → Core → ℕ → Option Body
body_at Boot core number = None
body_at Initial core number = option_map (λ component. component.initial) (slice_get core.components number)
body_at proc_role core number = option_map (λ proc. proc.body) (slice_get core.procs number)
body_at Final core number = option_and_then (λ component. component.final_code) (slice_get core.components number)

-- what such a process gives to the one that waits for it
abbrev pub gives_at : Role → Core → ℕ → Gives
gives_at Boot core number = Values []
gives_at Initial core number = Instance
gives_at proc_role core number = proc_gives (slice_get core.procs number)
gives_at Final core number = Values []

-- An entry of the code of a program: such a process begins as it should, and its code does its work and then ends.
pub record Enters (core : Core) (role : Role) (number : ℕ) (entry : Entry) (items : List Coded) : Type 0 where
  pub line : entry.place ≡ line_of_component (slice_get core.components (component_for role core number))
  pub owns : entry.owns ≡ owns_of (body_at role core number)
  pub gives : entry.gives ≡ gives_at role core number
  pub runs : (m : Machine) → m.core ≡ core → m.start.role ≡ role → m.start.code ≡ number → Has items 0 (length items) m.code → (on : Operands)
      → Follows (go m (point entry.address on)) (role_meaning role (tree_here m entry.place)) (λ _. go m (point 0 on))

-- the same of each entry of a row
pub record EntersEach (core : Core) (role : Role) (entries : List Entry) (items : List Coded) : Type 0 where
  pub each : (number : ℕ) (entry : Entry) → slice_get entries number ≡ Some entry → Enters core role number entry items

-- The code between `old` and `new` has the code of the first `count` processes of a kind, whose entries these are.
pub record LaysOut (core : Core) (role : Role) (count : ℕ) (entries : List Entry) (old new : List Coded) : Type 0 where
  pub grows : Extends old new
  pub each : EntersEach core role entries new
  pub all : length entries ≡ count
