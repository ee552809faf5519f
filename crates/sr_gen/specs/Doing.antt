-- What the code of statements asks, and where it goes on.
use Rattle.std.specs.Prelude.{◌≡◌, ℕ, ℤ, ◌≤◌, ◌<◌, Bool, true, false, List, length, slice_get, slice_set, unwrap_or, Option, Some, None}
use Rattle.sr_value.specs.declared.capability.Cap.{Cap}
use Rattle.sr_value.specs.declared.place.Place.{Place}
use Rattle.sr_value.specs.declared.shape.Shape.{Shape}
use Rattle.sr_ask.specs.Behaviors.{Stage, give, ◌>>=◌}
use Rattle.sr_ask.specs.Invocations.{values_sent, places_back}
use Rattle.sr_ask.specs.Replies.{Completion, set_service}
use Rattle.sr_ask.specs.declared.environment.Located.{Located}
use Rattle.sr_ask.specs.declared.environment.Sent.{Sent}
use Rattle.sr_ask.specs.declared.environment.Service.{Service}
use Rattle.sr_ask.specs.declared.forms.Pick.{Pick}
use Rattle.sr_core.specs.declared.component.Core.{Core}
use Rattle.sr_core.specs.declared.expression.Argument.{Argument}
use Rattle.sr_core.specs.declared.expression.Expr.{Expr}
use Rattle.sr_core.specs.declared.site.Arm.{Arm}
use Rattle.sr_core.specs.declared.site.Site.{Site}
use Rattle.sr_core.specs.declared.statement.Statement.{Statement}
use Rattle.sr_code.specs.Acts.{after_completion, after_pick, point}
use Rattle.sr_code.specs.Operands.{put_call, put_completed, put_numbers, put_pick, put_place, put_service}
use Rattle.sr_code.specs.Runs.{Machine, go, then_asks}
use Rattle.sr_code.specs.Stretches.{Extends, Follows, Has}
use Rattle.sr_code.specs.declared.code.Coded.{Coded}
use Rattle.sr_code.specs.declared.instruction.Instruction.{Instruction}
use Rattle.sr_code.specs.declared.operands.Operands.{Operands}
use Rattle.sr_meaning.specs.declared.ending.Ending.{Ending}
use Rattle.sr_meaning.specs.declared.ending.Ending.TheVariants.{Through, Left, Turned}
use Rattle.sr_meaning.specs.Expressions.{Meaning, give_back}
use Rattle.sr_meaning.specs.Statements.{CoPart, arguments, block_of, cap_expr, complete, left, no_site, reply_meaning, service_meaning, set_turn, store_value}
use Rattle.sr_gen_expr.specs.Emitting.{tree_here}
use Rattle.sr_gen.specs.declared.ways.Ways.{Ways}

-- ---- endings

-- where a statement goes on: after it, or where a loop, a turn or a service ends
abbrev pub way : Ways → ℕ → Ending → ℕ
way ways through Through = through
way ways through Left = ways.left
way ways through Turned = ways.turned
way ways through Ending.Returned = ways.returned

-- none of these ways goes up
pub record Onward (ways : Ways) (to : ℕ) : Type 0 where
  pub left : ways.left ≤ to
  pub turned : ways.turned ≤ to
  pub returned : ways.returned ≤ to

-- The code between `old` and `new` asks what is meant, and goes on as it ends, with the operands as they were: in
-- any program of this core that has the code there, at every stage, whatever operands there are.
pub record Acts (ways : Ways) (core : Core) (line : Place) (meaning : Meaning Ending) (old new : List Coded) : Type 0 where
  pub grows : Extends old new
  pub runs : Onward ways (length old) → (m : Machine) → m.core ≡ core → Has new (length old) (length new) m.code → (on : Operands)
      → Follows (go m (point (length new) on)) (meaning (tree_here m line)) (λ ending. go m (point (way ways (length old) ending) on))

-- after guards: on where none held, else as the block ended
abbrev pub tried : Ways → ℕ → ℕ → Option Ending → ℕ
tried ways through past None = past
tried ways through past (Some ending) = way ways through ending

-- The same for guarded blocks: where one ends through, the code goes on at `through`.
pub record Tries (ways : Ways) (through : ℕ) (core : Core) (line : Place) (meaning : Meaning (Option Ending)) (old new : List Coded) : Type 0 where
  pub grows : Extends old new
  pub runs : Onward ways (length old) → through ≤ length old → (m : Machine) → m.core ≡ core → Has new (length old) (length new) m.code → (on : Operands)
      → Follows (go m (point (length new) on)) (meaning (tree_here m line)) (λ end. go m (point (tried ways through (length old) end) on))

-- after a condition: on where it holds, else at `past`
abbrev pub checked : Bool → ℕ → ℕ → ℕ
checked true past on = on
checked false past on = past

-- The same for conditions.
pub record Checks (past : ℕ) (core : Core) (line : Place) (meaning : Meaning Bool) (old new : List Coded) : Type 0 where
  pub grows : Extends old new
  pub runs : past ≤ length old → (m : Machine) → m.core ≡ core → Has new (length old) (length new) m.code → (on : Operands)
      → Follows (go m (point (length new) on)) (meaning (tree_here m line)) (λ truth. go m (point (checked truth past (length old)) on))

-- ---- loops

-- the ways of the blocks of a `do`: its next turn is at `again`, and what follows it at `to`
abbrev pub loop_ways : Ways → ℕ → ℕ → Ways
loop_ways ways to again = record { left = to; turned = again; returned = ways.returned }

-- after a turn of a `do`
abbrev pub turn_way : Ways → ℕ → ℕ → Option Ending → ℕ
turn_way ways to again None = again
turn_way ways to again (Some ending) = way ways to (left ending)

-- The same for a turn of a `do` that no guard holds for.
pub record Rests (ways : Ways) (to again : ℕ) (core : Core) (line : Place) (meaning : Meaning (Option Ending)) (old new : List Coded) : Type 0 where
  pub grows : Extends old new
  pub runs : Onward (loop_ways ways to again) (length old) → (m : Machine) → m.core ≡ core → Has new (length old) (length new) m.code → (on : Operands)
      → Follows (go m (point (length new) on)) (meaning (tree_here m line)) (λ end. go m (point (turn_way ways to again end) on))

-- the ways of what is inside a `fa`, which ends at `to`
abbrev pub fa_ways : Ways → ℕ → Ways
fa_ways ways to = record { left = to; turned = ways.turned; returned = ways.returned }

-- one way for every ending
abbrev pub one_way : ℕ → Ways
one_way to = record { left = to; turned = to; returned = to }

-- the ways of what is inside a quantifier, a service or a `co`, by address
abbrev pub pad_ways : ℕ → ℕ → ℕ → Ways
pad_ways left again returned = record { left = left; turned = again; returned = returned }

-- Code that drops the values of a quantifier and goes on at `to`.
pub record Drops (to : ℕ) (old new : List Coded) : Type 0 where
  pub grows : Extends old new
  pub runs : to ≤ length old → (m : Machine) → Has new (length old) (length new) m.code → (numbers : List ℤ) (on : Operands) (stage : Stage)
      → go m (point (length new) (put_numbers numbers on)) stage ≡ go m (point to on) stage

-- One instruction is written over.
pub record Patches (line : Place) (instruction : Instruction) (at : ℕ) (old new : List Coded) : Type 0 where
  pub is : new ≡ slice_set old at (record { place = line; instruction = instruction })

-- ---- services

-- a site of the program; one without number has no arms
abbrev pub site_in : Core → ℕ → Site
site_in core site = unwrap_or (slice_get core.sites site) no_site

-- The end of a service: it replies, the service around comes back, and the code goes on at `to`.
pub record Closes (to : ℕ) (core : Core) (line : Place) (old new : List Coded) : Type 0 where
  pub grows : Extends old new
  pub runs : to ≤ length old → (m : Machine) → Has new (length old) (length new) m.code → (outer : Service) (on : Operands)
      → Follows (go m (point (length new) (put_service outer on))) (reply_meaning (tree_here m line) >>= λ _. set_service outer) (λ _. go m (point to on))

-- The service of an invocation that was chosen: its arm's block, and then on at `to`.
pub record Serves (ways : Ways) (to : ℕ) (core : Core) (line : Place) (arm : Arm) (block : List (Meaning Ending)) (old new : List Coded) : Type 0 where
  pub grows : Extends old new
  pub runs : Onward ways (length old) → to ≤ length old → (m : Machine) → m.core ≡ core → Has new (length old) (length new) m.code → (pick : Pick) (on : Operands)
      → Follows (go m (point (length new) (put_pick pick on))) (service_meaning pick (Some arm) (Some block) (tree_here m line)) (λ ending. go m (point (way ways to ending) on))

-- The same for each of the first arms of an `in`, whose addresses these are.
pub record ServesEach (ways : Ways) (to : ℕ) (core : Core) (line : Place) (arms : List Arm) (blocks : List (List (Meaning Ending))) (addresses : List ℕ) (old new : List Coded) : Type 0 where
  pub grows : Extends old new
  pub runs : Onward ways (length old) → to ≤ length old → (m : Machine) → m.core ≡ core → Has new (length old) (length new) m.code → (pick : Pick) (on : Operands) → pick.arm < length addresses
      → Follows (go m (after_pick (slice_get addresses pick.arm) pick to on)) (service_meaning pick (slice_get arms pick.arm) (slice_get blocks pick.arm) (tree_here m line))
      (λ ending. go m (point (way ways to ending) on))

-- ---- co

-- The stores of a reply of a `co` that was taken.
pub record Stores (core : Core) (line : Place) (returns : Option Shape) (old new : List Coded) : Type 0 where
  pub grows : Extends old new
  pub runs : (m : Machine) → Has new (length old) (length new) m.code → (completion : Completion) (on : Operands)
      → Follows (go m (point (length new) (put_completed (record { out = completion.out; results = completion.results }) on)))
      (give_back completion.out.backs returns completion.results (tree_here m line) >>= λ value. store_value completion.out.place value (tree_here m line))
      (λ _. go m (point (length old) on))

-- A reply to an invocation of an arm of a `co` that was taken: its stores, the arm's block, and then on at `again`.
pub record Completes (ways : Ways) (again : ℕ) (core : Core) (line : Place) (part : CoPart) (old new : List Coded) : Type 0 where
  pub grows : Extends old new
  pub runs : Onward ways (length old) → again ≤ length old → (m : Machine) → m.core ≡ core → Has new (length old) (length new) m.code → (completion : Completion) (on : Operands)
      → Follows (go m (point (length new) (put_completed (record { out = completion.out; results = completion.results }) on)))
      (set_turn part.quantifiers completion.out.turn >>= λ _.
      give_back completion.out.backs part.call.returns completion.results (tree_here m line) >>= λ value.
      store_value completion.out.place value (tree_here m line) >>= λ _.
      part.body (tree_here m line))
      (λ ending. go m (point (way ways again ending) on))

-- The same for each of the first arms, whose addresses these are.
pub record CompletesEach (ways : Ways) (again : ℕ) (core : Core) (line : Place) (parts : List CoPart) (addresses : List ℕ) (old new : List Coded) : Type 0 where
  pub grows : Extends old new
  pub runs : Onward ways (length old) → again ≤ length old → (m : Machine) → m.core ≡ core → Has new (length old) (length new) m.code → (completion : Completion) (on : Operands) → completion.out.arm < length addresses
      → Follows (λ stage. then_asks (after_completion (slice_get addresses completion.out.arm) completion again on stage) (go m))
      (complete completion (slice_get parts completion.out.arm) (tree_here m line)) (λ ending. go m (point (way ways again ending) on))

-- ---- invocations

-- a call that is ready: its target, and what its arguments send
abbrev pub put_ready : Cap × List Sent → Operands → Operands
put_ready ready on = put_call (record { target = ready.0; values = values_sent ready.1; places = places_back ready.1 }) on

-- the place of a value that comes back, where there is one
abbrev pub put_placed : Option Located → Operands → Operands
put_placed None on = on
put_placed (Some place) on = put_place place on

abbrev pub ready_meaning : Expr → List Argument → Meaning (Cap × List Sent)
ready_meaning target args here = cap_expr target here >>= λ cap. arguments args here >>= λ sent. give (cap, sent)

-- ---- processes

-- a block after which the process ends, however the block ends
abbrev pub last_block : List Statement → Meaning (Unit {0})
last_block statements here = block_of statements here >>= λ _. give tt

-- Code that does the work of a process, which ends then.
pub record Ends (core : Core) (line : Place) (work : Meaning (Unit {0})) (old new : List Coded) : Type 0 where
  pub grows : Extends old new
  pub runs : (m : Machine) → m.core ≡ core → Has new (length old) (length new) m.code → (on : Operands)
      → Follows (go m (point (length new) on)) (work (tree_here m line)) (λ _. go m (point 0 on))
