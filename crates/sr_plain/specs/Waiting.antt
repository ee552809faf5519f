-- Who is asked in turn, and where the others wait.
use Rattle.std.specs.Prelude.{◌≡◌, ◌+◌, ◌<◌, ◌≤◌, ◌==◌, ◌&&◌, ◌||◌, ◌⊎◌, ℕ, Bool, not, true, false, List, Option, Some, None, Result, Ok, Err, slice_get}
use Rattle.std.specs.BTreeSet.{BTreeSet, btree_set_len, contains}
use Rattle.std.specs.HashMap.{HashMap, UpdatesBy, get}
use Rattle.std.specs.List.{list_all, list_any, sum_by}
use Rattle.std.specs.Ordering.{nat_cmp}
use Rattle.sr_ask.specs.declared.request.Request.{Request}
use Rattle.sr_ask.specs.declared.request.Request.TheVariants as request
use Rattle.sr_core.specs.declared.component.Core.{Core}
use Rattle.sr_core.specs.declared.component.Operation.{Operation}
use Rattle.sr_core.specs.declared.owner.Me.{Me}
use Rattle.sr_core.specs.declared.site.Arm.{Arm}
use Rattle.sr_core.specs.declared.site.Named.{Named}
use Rattle.sr_core.specs.declared.site.Site.{Site}
use Rattle.sr_queue.specs.Classes.{class_of, same_class}
use Rattle.sr_queue.specs.declared.class.Class.{Class as Served_class}
use Rattle.sr_select.specs.Guards.{guard_block, home_seen}
use Rattle.sr_select.specs.Laws.{is_plain}
use Rattle.sr_select.specs.Worlds.{Watched as Watching, reads_only}
use Rattle.sr_value.specs.Operators.{owner_eq}
use Rattle.sr_value.specs.declared.capability.Owner.{Owner}
use Rattle.sr_value.specs.declared.fault.Fault.{Fault}
use Rattle.sr_value.specs.declared.value.Value.{Value}
use Rattle.sr_plain.specs.Changes.{owner_at}
use Rattle.sr_plain.specs.Readiness.{holds, ready_len}
use Rattle.sr_plain.specs.declared.change.Change.{Change}
use Rattle.sr_plain.specs.declared.change.Change.TheVariants.{Nothing, Watched, Variable, Class, Gone, Everything}
use Rattle.sr_plain.specs.declared.change.Woken.{Woken}
use Rattle.sr_plain.specs.declared.variable.Variable.{Variable as Cell}
use Rattle.sr_plain.specs.declared.crowd.Opened.{Opened}
use Rattle.sr_plain.specs.declared.ready.Ready.{Ready}
use Rattle.sr_plain.specs.declared.waiters.Place.{Place}
use Rattle.sr_plain.specs.declared.waiters.Place.TheVariants as places
use Rattle.sr_plain.specs.declared.waiters.Waiters.{Waiters}
use Rattle.sr_plain.specs.declared.waiters.Waiting.{Waiting}
use Rattle.sr_plain.specs.declared.waiters.Waiting.TheVariants.{Nobody, One, Many}

-- ---- places

-- where a process waits for invocations of an operation
abbrev pub key_of : Owner → ℕ → Place
key_of owner op = places.Served (class_of owner op)

-- where a process waits for what a shared variable holds
abbrev pub variable_of : ℕ → ℕ → Place
variable_of block var = places.Stored (record { block = block; var = var })

-- where a process waits for invocations of an operation, and for nothing else
abbrev pub idle_of : Owner → ℕ → Place
idle_of owner op = places.Idle (class_of owner op)

abbrev pub same_variable : Cell → Cell → Bool
same_variable a b = (a.block == b.block) && (a.var == b.var)

abbrev pub is_ready : Waiters → ℕ → Bool
is_ready waiters process = holds waiters.ready process

abbrev pub is_among : Option Waiting → ℕ → Bool
is_among None process = false
is_among (Some Nobody) process = false
is_among (Some (One first)) process = first == process
is_among (Some (Many processes)) process = contains nat_cmp processes process

-- whether an operation may have got invocations since a process waits there
abbrev pub is_open_at : List Opened → Served_class → ℕ → Bool
is_open_at opened class process = list_any (λ (o : Opened). same_class o.class class && contains nat_cmp o.processes process) opened

abbrev pub is_open : List Opened → ℕ → Bool
is_open opened process = list_any (λ (o : Opened). contains nat_cmp o.processes process) opened

abbrev pub is_closed : Waiters → Served_class → ℕ → Bool
is_closed waiters class process = is_among (get same_class waiters.idle class) process

abbrev pub waits : Waiters → Place → ℕ → Bool
waits waiters places.Watched process = contains nat_cmp waiters.watched process
waits waiters (places.Served class) process = is_among (get same_class waiters.classes class) process
waits waiters (places.Stored variable) process = is_among (get same_variable waiters.variables variable) process
waits waiters (places.Idle class) process = is_closed waiters class process || is_open_at waiters.opened class process

-- who is asked in turn
abbrev pub may_go : Waiters → ℕ → Bool
may_go waiters process = is_ready waiters process || is_open waiters.opened process

-- how many wait at open operations, where one that stands at several counts for each
abbrev pub crowds_len : List Opened → ℕ
crowds_len opened = sum_by (λ (o : Opened). btree_set_len o.processes) opened

-- one more than are asked in turn
abbrev pub turns_len : Waiters → ℕ
turns_len waiters = ready_len waiters.ready + crowds_len waiters.opened

-- ---- where a process waits, by what it asks

-- a variable of no block is never read
abbrev pub at_block : (Place → Bool) → ℕ → Result ℕ Fault → Bool
at_block at var (Ok block) = at (variable_of block var)
at_block at var (Err fault) = true

-- whose invocations `?op` counts goes by the scope of the operation
abbrev pub at_operation : (Place → Bool) → Me → ℕ → Option Operation → Bool
at_operation at me op None = true
at_operation at me op (Some operation) = at (key_of (owner_at operation.scope me) op)

-- what of the world a process waits for, of all that guards may name
abbrev pub watching : Core → Me → (Place → Bool) → List Named → List Value → Watching
watching core me at names env = record {
  variable = λ home var. at_block at var (guard_block me (home_seen names env) home);
  operation = λ op. at_operation at me op (slice_get core.operations op);
}

-- a process waits at each arm of a statement, and for all that its guards name
pub record WaitsForAll (core : Core) (me : Me) (at : Place → Bool) (env : List Value) (site : Site) : Type 0 where
  pub arms : (number : ℕ) (arm : Arm) → slice_get site.arms number ≡ Some arm → at (key_of (owner_at site.scope me) arm.op) ≡ true
  pub names : reads_only (watching core me at site.names env) site ≡ true

-- or it waits for any change
abbrev pub WaitsAtSite : Core → Me → (Place → Bool) → List Value → Site → Type 0
WaitsAtSite core me at env site = (at places.Watched ≡ true) ⊎ WaitsForAll core me at env site

-- a statement without guards and `else`
abbrev pub is_simple : Site → Bool
is_simple site = list_all is_plain site.arms && not site.has_else

-- A `Take` is woken by the reply, and a `Wake` by the moment.
abbrev pub WaitsFor : Core → Me → (Place → Bool) → Request → Type 0
WaitsFor core me at (request.Take ids) = Unit {0}
WaitsFor core me at (request.Wake until) = Unit {0}
WaitsFor core me at (request.Select site env) = (s : Site) → slice_get core.sites site ≡ Some s → WaitsAtSite core me at env s
WaitsFor core me at _ = at places.Watched ≡ true

-- a process asks for no more than an invocation of an operation of its statement
pub record Selects (core : Core) (asked : Request) : Type 0 where
  pub number : ℕ
  pub env : List Value
  pub site : Site
  pub is : asked ≡ request.Select number env
  pub found : slice_get core.sites number ≡ Some site
  pub simple : is_simple site ≡ true

-- and waits for them
pub record WaitsIdle (core : Core) (me : Me) (at : Place → Bool) (asked : Request) : Type 0 where
  pub selects : Selects core asked
  pub arms : (number : ℕ) (arm : Arm) → slice_get selects.site.arms number ≡ Some arm → at (idle_of (owner_at selects.site.scope me) arm.op) ≡ true

-- an arm of its statement is of this operation
pub record HasArm (core : Core) (me : Me) (asked : Request) (class : Served_class) : Type 0 where
  pub selects : Selects core asked
  pub number : ℕ
  pub arm : Arm
  pub is_arm : slice_get selects.site.arms number ≡ Some arm
  pub is_class : class ≡ class_of (owner_at selects.site.scope me) arm.op

-- ---- who is woken

abbrev pub wakes : Change → (Place → Bool) → Bool
wakes Nothing at = false
wakes Watched at = at places.Watched
wakes (Variable block var) at = at places.Watched || at (variable_of block var)
wakes (Class owner op) at = at places.Watched || at (key_of owner op)
wakes (Gone owner op) at = at places.Watched || at (key_of owner op)
wakes Everything at = true

-- which operations may have got an invocation
abbrev pub opens : Change → Owner → ℕ → Bool
opens (Class whose n) owner op = n == op && owner_eq whose owner
opens Everything owner op = true
opens _ owner op = false

abbrev pub is_opened : Option Woken → Owner → ℕ → Bool
is_opened None owner op = false
is_opened (Some woken) owner op = opens woken.change owner op

abbrev pub wakes_by : Waiters → Woken → ℕ → Bool
wakes_by waiters woken process = wakes woken.change (λ key. waits waiters key process) || (woken.caller == process || woken.made == process)

abbrev pub is_woken : Waiters → Option Woken → ℕ → Bool
is_woken waiters None process = false
is_woken waiters (Some woken) process = wakes_by waiters woken process

-- ---- what is done to those who wait

-- who isn't ready wasn't, and waits where it waited
pub record GoOn (old new : Waiters) : Type 0 where
  pub ready : (process : ℕ) → is_ready new process ≡ false → is_ready old process ≡ false
  pub waiting : (key : Place) (process : ℕ) → is_ready new process ≡ false → waits old key process ≡ true → waits new key process ≡ true

-- some more are in a set
pub record IsJoined (processes old new : BTreeSet ℕ) : Type 0 where
  pub ready : (process : ℕ) → contains nat_cmp new process ≡ false → contains nat_cmp old process ≡ false
  pub joined : (process : ℕ) → contains nat_cmp new process ≡ false → contains nat_cmp processes process ≡ false

-- who waited is in a set
pub record HaveJoined (waiting : Waiting) (old new : BTreeSet ℕ) : Type 0 where
  pub ready : (process : ℕ) → contains nat_cmp new process ≡ false → contains nat_cmp old process ≡ false
  pub joined : (process : ℕ) → contains nat_cmp new process ≡ false → is_among (Some waiting) process ≡ false

-- one more waits there
pub record WaitsAlso (process : ℕ) (old new : Waiting) : Type 0 where
  pub itself : is_among (Some new) process ≡ true
  pub others : (other : ℕ) → is_among (Some old) other ≡ true → is_among (Some new) other ≡ true

-- one more waits under a key
pub record WaitsUnder {K S : Type 0} (eq : K → K → Bool) (key : K) (process : ℕ) (old new : HashMap K Waiting S) : Type 0 where
  pub waiting : Waiting
  pub updates : UpdatesBy eq (eq key) old new (Some waiting)
  pub itself : is_among (Some waiting) process ≡ true
  pub others : (other : ℕ) → is_among (get eq old key) other ≡ true → is_among (Some waiting) other ≡ true

-- who waited under a key waits there no more
pub record AreTakenUnder {K S : Type 0} (eq : K → K → Bool) (key : K) (old new : HashMap K Waiting S) (taken : Waiting) : Type 0 where
  pub waiting : (process : ℕ) → is_among (Some taken) process ≡ is_among (get eq old key) process
  pub nobody : (process : ℕ) → is_among (get eq new key) process ≡ false
  pub others : (other : K) → eq key other ≡ false → get eq new other ≡ get eq old other

-- who waited under a key is ready
pub record AreWokenUnder {K S : Type 0} (eq : K → K → Bool) (key : K) (old new : HashMap K Waiting S) (ready readied : Ready) : Type 0 where
  pub unready : (process : ℕ) → holds readied process ≡ false → holds ready process ≡ false
  pub woken : (process : ℕ) → holds readied process ≡ false → is_among (get eq old key) process ≡ false
  pub others : (other : K) → eq key other ≡ false → get eq new other ≡ get eq old other

-- who waited there is ready
pub record IsWokenAt (key : Place) (old new : Waiters) : Type 0 where
  pub go_on : GoOn old new
  pub idle : new.idle ≡ old.idle
  pub woken : (process : ℕ) → is_ready new process ≡ false → waits old key process ≡ false

-- one of many is asked by itself
pub record IsPromoted (process : ℕ) (old new : Waiters) : Type 0 where
  pub ready : is_ready new process ≡ true
  pub unready : (other : ℕ) → is_ready new other ≡ false → is_ready old other ≡ false
  pub others : (key : Place) (other : ℕ) → (process == other) ≡ false → waits old key other ≡ true → waits new key other ≡ true
  pub idle : new.idle ≡ old.idle
  pub less : turns_len new ≤ turns_len old

-- each of them is ready, or asked in turn as one of many
pub record HaveOpened (class : Served_class) (waiting : Waiting) (old new : Waiters) : Type 0 where
  pub unready : (process : ℕ) → is_ready new process ≡ false → is_ready old process ≡ false
  pub watched : new.watched ≡ old.watched
  pub classes : new.classes ≡ old.classes
  pub variables : new.variables ≡ old.variables
  pub idle : new.idle ≡ old.idle
  pub stays : (other : Served_class) (process : ℕ) → is_open_at old.opened other process ≡ true → is_open_at new.opened other process ≡ true
  pub covers : (process : ℕ) → is_ready new process ≡ false → is_among (Some waiting) process ≡ true → is_open_at new.opened class process ≡ true

-- whoever waits for these invocations is asked in turn
pub record IsOpenedAt (class : Served_class) (old new : Waiters) : Type 0 where
  pub go_on : GoOn old new
  pub closed : (other : Served_class) (process : ℕ) → is_closed new other process ≡ true → (is_closed old other process ≡ true) × (same_class class other ≡ false)

pub record IsMadeReady (process : ℕ) (old new : Waiters) : Type 0 where
  pub go_on : GoOn old new
  pub idle : new.idle ≡ old.idle
  pub apart : (other : ℕ) → is_ready new other ≡ false → (process == other) ≡ false

-- some more wait idly for an operation, and all else is as before
pub record UpdatesIdle (class : Served_class) (old new : Waiters) : Type 0 where
  pub ready : new.ready ≡ old.ready
  pub watched : new.watched ≡ old.watched
  pub classes : new.classes ≡ old.classes
  pub variables : new.variables ≡ old.variables
  pub opened : new.opened ≡ old.opened
  pub stay : (wanted : Served_class) (other : ℕ) → is_closed old wanted other ≡ true → is_closed new wanted other ≡ true
  pub closed : (wanted : Served_class) (other : ℕ) → same_class class wanted ≡ false → is_closed new wanted other ≡ true → is_closed old wanted other ≡ true

-- a process waits there too
pub record WaitsThere (key : Place) (process : ℕ) (old new : Waiters) : Type 0 where
  pub ready : new.ready ≡ old.ready
  pub itself : waits new key process ≡ true
  pub others : (k : Place) (other : ℕ) → waits old k other ≡ true → waits new k other ≡ true
  pub closed : (class : Served_class) (other : ℕ) → is_closed new class other ≡ true → (is_closed old class other ≡ true) ⊎ (key ≡ places.Idle class)
  pub less : turns_len new ≤ turns_len old

-- those of an operation are put back that were asked in turn
pub record IsPutBack (class : Served_class) (processes : BTreeSet ℕ) (old new : Waiters) : Type 0 where
  pub idle : UpdatesIdle class old new
  pub themselves : (other : ℕ) → contains nat_cmp processes other ≡ true → is_closed new class other ≡ true

-- those of an operation aren't asked in turn any more
pub record IsShut (class : Served_class) (old new : Waiters) : Type 0 where
  pub ready : new.ready ≡ old.ready
  pub others : (k : Place) (other : ℕ) → waits old k other ≡ true → waits new k other ≡ true
  pub closed : (wanted : Served_class) (other : ℕ) → same_class class wanted ≡ false → is_closed new wanted other ≡ true → is_closed old wanted other ≡ true
  pub less : turns_len new ≤ turns_len old

-- a process waits for what lets its request go on
pub record IsWaiting (core : Core) (me : Me) (asked : Request) (old new : Waiters) : Type 0 where
  pub ready : new.ready ≡ old.ready
  pub itself : WaitsFor core me (λ key. waits new key me.process) asked ⊎ WaitsIdle core me (λ key. waits new key me.process) asked
  pub others : (k : Place) (other : ℕ) → waits old k other ≡ true → waits new k other ≡ true
  pub closed : (class : Served_class) (other : ℕ) → is_closed new class other ≡ true → (is_closed old class other ≡ true) ⊎ HasArm core me asked class
  pub less : turns_len new ≤ turns_len old

pub record IsTakenOut (process : ℕ) (old new : Waiters) : Type 0 where
  pub others : (other : ℕ) → (process == other) ≡ false → is_ready new other ≡ is_ready old other
  pub watched : new.watched ≡ old.watched
  pub classes : new.classes ≡ old.classes
  pub variables : new.variables ≡ old.variables
  pub idle : new.idle ≡ old.idle
  pub opened : new.opened ≡ old.opened

-- those who wait for this operation stand at this place; or among them this process; or nobody is left of them
pub record HoldsClass (crowds : List Opened) (class : Served_class) (place : ℕ) : Type 0 where
  pub crowd : Opened
  pub here : slice_get crowds place ≡ Some crowd
  pub same : same_class crowd.class class ≡ true

pub record HoldsProcess (crowds : List Opened) (process place : ℕ) : Type 0 where
  pub crowd : Opened
  pub here : slice_get crowds place ≡ Some crowd
  pub holds : contains nat_cmp crowd.processes process ≡ true

pub record HoldsNobody (crowds : List Opened) (place : ℕ) : Type 0 where
  pub crowd : Opened
  pub here : slice_get crowds place ≡ Some crowd
  pub nobody : btree_set_len crowd.processes ≡ 0

-- a crowd without one of its processes
pub record LeavesCrowd (process : ℕ) (old new : Opened) : Type 0 where
  pub class : new.class ≡ old.class
  pub others : (q : ℕ) → (process == q) ≡ false → contains nat_cmp new.processes q ≡ contains nat_cmp old.processes q
  pub less : btree_set_len new.processes + 1 ≡ btree_set_len old.processes

-- whoever stood at an open operation stands there
pub record StaysOpen (old new : List Opened) : Type 0 where
  pub stays : (class : Served_class) (process : ℕ) → is_open_at old class process ≡ true → is_open_at new class process ≡ true
  pub less : crowds_len new ≤ crowds_len old

-- all others stand where they stood
pub record HasLeft (process : ℕ) (old new : List Opened) : Type 0 where
  pub others : (class : Served_class) (q : ℕ) → (process == q) ≡ false → is_open_at old class q ≡ true → is_open_at new class q ≡ true
  pub less : crowds_len new + 1 ≤ crowds_len old

-- ---- who is next

abbrev pub IsFirst : (ℕ → Bool) → Option ℕ → Type 0
IsFirst test None = (other : ℕ) → test other ≡ false
IsFirst test (Some process) = (test process ≡ true) × ((other : ℕ) → other < process → test other ≡ false)

-- the first that may be asked of those after the last actor, or else of all
pub record IsNextAfter (waiters : Waiters) (last process : ℕ) : Type 0 where
  pub goes : may_go waiters process ≡ true
  pub between : (other : ℕ) → last < other → other < process → may_go waiters other ≡ false
  pub later : process ≤ last → (other : ℕ) → last < other → may_go waiters other ≡ false
  pub sooner : process ≤ last → (other : ℕ) → other < process → may_go waiters other ≡ false

abbrev pub IsNext : Waiters → ℕ → Option ℕ → Type 0
IsNext waiters last None = (process : ℕ) → may_go waiters process ≡ false
IsNext waiters last (Some process) = IsNextAfter waiters last process

-- the first that may be asked, with a number above `low` and up to `high`
pub record IsFirstWithin (waiters : Waiters) (low high process : ℕ) : Type 0 where
  pub above : low < process
  pub within : process ≤ high
  pub goes : may_go waiters process ≡ true
  pub between : (other : ℕ) → low < other → other < process → may_go waiters other ≡ false

abbrev pub IsFirstUpTo : Waiters → ℕ → ℕ → Option ℕ → Type 0
IsFirstUpTo waiters low high None = (other : ℕ) → low < other → other ≤ high → may_go waiters other ≡ false
IsFirstUpTo waiters low high (Some process) = IsFirstWithin waiters low high process

-- the same of a pass that has made so many items; it asks nobody where there is no room for one more
abbrev pub IsNextToAsk : Waiters → ℕ → ℕ → ℕ → ℕ → Option ℕ → Type 0
IsNextToAsk waiters low high room made None = made < room → IsFirstUpTo waiters low high None
IsNextToAsk waiters low high room made (Some process) = (made < room) × IsFirstUpTo waiters low high (Some process)
