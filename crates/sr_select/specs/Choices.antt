-- Which pending invocation an `in` statement services.
--
-- The owner's pending invocations are taken in order of arrival. For each, the arms of its operation are tried in the
-- order of the text, and the first pair whose `and` isn't false fixes the arm. Without `by` that invocation is
-- serviced. With `by` it is the one of the least key among those of the arm's operation, from that invocation on,
-- whose `and` isn't false; the oldest of equals. The first fault met in this order is the run's.
use Rattle.std.specs.Prelude.{ℕ, ◌+◌, ℤ, pos, Bool, true, false, List, [], ◌∷◌, ◌++◌, drop, filter, find, flat_map, filter_map, Option, Some, None, is_some, Result, Ok, Err, if◌then◌else◌, int_lt}
use Rattle.std.specs.List.{enumerate_from}
use Rattle.sr_value.specs.declared.capability.Owner.{Owner}
use Rattle.sr_value.specs.declared.capability.Owner.TheVariants.{Inst, Proc as of_process}
use Rattle.sr_value.specs.declared.fault.Fault.{Fault}
use Rattle.sr_value.specs.declared.fault.Fault.TheVariants.{Range}
use Rattle.sr_value.specs.declared.value.Value.{Value, out-Value}
use Rattle.sr_value.specs.declared.value.Value.TheOpen.{Value-F}
use Rattle.sr_ask.specs.declared.entry.Seen.{Seen}
use Rattle.sr_core.specs.Formals.{first_of}
use Rattle.sr_core.specs.declared.expression.Expr.{Expr}
use Rattle.sr_core.specs.declared.owner.Me.{Me}
use Rattle.sr_core.specs.declared.site.Arm.{Arm}
use Rattle.sr_core.specs.declared.site.Site.{Site}
use Rattle.sr_core.specs.declared.statement.Scope.{Scope}
use Rattle.sr_core.specs.declared.statement.Scope.TheVariants.{Own as own_scope, Shared as shared_scope}
use Rattle.sr_queue.specs.declared.pending.Pending.{Pending}
use Rattle.sr_queue.specs.Queues.{is_of}
use Rattle.sr_select.specs.declared.choice.Choice.{Choice}
use Rattle.sr_select.specs.declared.choice.Choice.TheVariants.{Service, Else, Nothing, Bad}
use Rattle.sr_select.specs.declared.least.Keyed.{Keyed}
use Rattle.sr_select.specs.Guards.{Guard, Guarding, guarding, guard_value, truth_of_guard}
use Rattle.sr_select.specs.Looks.{Looked, give, settle, ◌>>>◌, result_of, seen_of}
use Rattle.sr_select.specs.Readings.{Reading}

-- whose invocations a statement services
abbrev pub owner_in : Scope → Me → Owner
owner_in own_scope me = of_process me.process
owner_in shared_scope me = Inst me.instance

-- ---- pairs

-- a pending invocation and its place, and an arm of its operation and its number
pub record Pair : Type 0 where
  pub place : ℕ
  pub invocation : Pending
  pub number : ℕ
  pub arm : Arm

-- the invocation and the arm, where the arm is of its operation
abbrev pub paired : Owner → ℕ × Pending → ℕ × Arm → Option Pair
paired owner (place, invocation) (number, arm) =
    if is_of owner arm.op invocation then Some (record { place = place; invocation = invocation; number = number; arm = arm }) else None

-- an invocation with each arm of its operation, in the order of the text
abbrev pub pairs_of : Owner → List (ℕ × Arm) → ℕ × Pending → List Pair
pairs_of owner arms invocation = filter_map (paired owner invocation) arms

-- all pairs, in order of arrival and of the text
abbrev pub pairs : Owner → List (ℕ × Arm) → List (ℕ × Pending) → List Pair
pairs owner arms invocations = flat_map (pairs_of owner arms) invocations

-- ---- the arm

-- what the guards of an arm see of an invocation with these arguments
abbrev pub Seeing : Type 0
Seeing = Arm → List Value → Guarding

-- whether an arm's `and` is absent or true for an invocation
abbrev pub passes_with : Seeing → Arm → List Value → Looked Bool
passes_with sees arm args = truth_of_guard arm.guard (sees arm args) []

abbrev pub passes : Seeing → Pair → Looked Bool
passes sees pair = passes_with sees pair.arm pair.invocation.args

-- true, or a fault
abbrev pub is_not_false : Result Bool Fault → Bool
is_not_false (Ok truth) = truth
is_not_false (Err found) = true

abbrev pub decides : Seeing → Pair → Bool
decides sees pair = is_not_false (result_of (passes sees pair))

-- the pair that fixes the arm
abbrev pub deciding : Seeing → List Pair → Option Pair
deciding sees tried = find (decides sees) tried

-- the elements up to the first that passes a test, with it
abbrev pub through_first : {A : Type 0} → (A → Bool) → List A → List A
through_first test [] = []
through_first test (x ∷ xs) = x ∷ (if test x then [] else through_first test xs)

-- what was read until the arm was fixed
abbrev pub seen_deciding : Seeing → List Pair → List Seen
seen_deciding sees tried = flat_map (λ pair. seen_of (passes sees pair)) (through_first (decides sees) tried)

-- ---- keys

-- what `by` compares: an int, or the number of a char or of a literal
abbrev pub layer_key : {A : Type 0} → Value-F A → Result ℤ Fault
layer_key (Value-F.Int number) = Ok number
layer_key (Value-F.Char byte) = Ok (pos byte)
layer_key (Value-F.Enum ty at) = Ok (pos at)
layer_key _ = Err Range

abbrev pub key_of : Value → Result ℤ Fault
key_of value = layer_key (out-Value value)

-- the key where `and` is absent or true; none where it is false
abbrev pub key_where : Expr → Bool → Guard (Option ℤ)
key_where by true at = guard_value by at >>> λ value. settle (key_of value) >>> λ key. give (Some key)
key_where by false at = give None

abbrev pub key_in : Option Expr → Expr → Guard (Option ℤ)
key_in guard by at = truth_of_guard guard at >>> λ truth. key_where by truth at

-- the key of an invocation
abbrev pub key_with : Seeing → Arm → Expr → List Value → Looked (Option ℤ)
key_with sees arm by args = key_in arm.guard by (sees arm args) []

-- ---- the least

-- the less of an older one and a younger; the older of equals
abbrev pub lesser : Keyed → Option Keyed → Keyed
lesser older None = older
lesser older (Some younger) = if int_lt younger.key older.key then younger else older

-- the one of the least key; the oldest of equals
abbrev pub least : List Keyed → Option Keyed
least [] = None
least (older ∷ younger) = Some (lesser older (least younger))

-- an invocation with its key, where it has one
abbrev pub keyed : ℕ → Result (Option ℤ) Fault → Option Keyed
keyed place (Ok (Some key)) = Some (record { place = place; key = key })
keyed place (Ok None) = None
keyed place (Err found) = None

abbrev pub fault_in : {A : Type 0} → Result A Fault → Option Fault
fault_in (Ok a) = None
fault_in (Err found) = Some found

-- the invocations of an arm's operation from a place on, in order of arrival
abbrev pub invocations_from : Owner → Arm → ℕ → List Pending → List (ℕ × Pending)
invocations_from owner arm place items = filter (λ invocation. is_of owner arm.op invocation.1) (enumerate_from place (drop place items))

-- their keys, without those whose `and` is false
abbrev pub keys_of : Seeing → Arm → Expr → List (ℕ × Pending) → List Keyed
keys_of sees arm by invocations = filter_map (λ invocation. keyed invocation.0 (result_of (key_with sees arm by invocation.1.args))) invocations

-- the first fault met in finding them
abbrev pub key_fault : Seeing → Arm → Expr → List (ℕ × Pending) → Option Fault
key_fault sees arm by invocations = first_of (filter_map (λ invocation. fault_in (result_of (key_with sees arm by invocation.1.args))) invocations)

-- what was read until all were found, or up to the first fault
abbrev pub seen_keys : Seeing → Arm → Expr → List (ℕ × Pending) → List Seen
seen_keys sees arm by invocations =
    flat_map (λ invocation. seen_of (key_with sees arm by invocation.1.args))
    (through_first (λ invocation. is_some (fault_in (result_of (key_with sees arm by invocation.1.args)))) invocations)

-- ---- the choice

-- the first fault, or else the one of the least key
abbrev pub by_key : ℕ → ℕ → Option Fault → Option Keyed → Choice
by_key place number (Some found) best = Bad found number
by_key place number None (Some best) = Service best.place number
by_key place number None None = Service place number

-- which invocation an arm services that was fixed at a place
abbrev pub serviced : Seeing → Owner → List Pending → ℕ → ℕ → Arm → Option Expr → Choice
serviced sees owner items place number arm None = Service place number
serviced sees owner items place number arm (Some by) =
    by_key place number (key_fault sees arm by (invocations_from owner arm place items)) (least (keys_of sees arm by (invocations_from owner arm place items)))

abbrev pub seen_serviced : Seeing → Owner → List Pending → ℕ → Arm → Option Expr → List Seen
seen_serviced sees owner items place arm None = []
seen_serviced sees owner items place arm (Some by) = seen_keys sees arm by (invocations_from owner arm place items)

-- the choice of a pair that fixes the arm
abbrev pub fixed : Seeing → Owner → List Pending → Pair → Result Bool Fault → Choice
fixed sees owner items pair (Ok truth) = serviced sees owner items pair.place pair.number pair.arm pair.arm.by
fixed sees owner items pair (Err found) = Bad found pair.number

abbrev pub seen_fixed : Seeing → Owner → List Pending → Pair → Result Bool Fault → List Seen
seen_fixed sees owner items pair (Ok truth) = seen_serviced sees owner items pair.place pair.arm pair.arm.by
seen_fixed sees owner items pair (Err found) = []

abbrev pub fixed_by : Seeing → Owner → List Pending → Option Pair → Option Choice
fixed_by sees owner items None = None
fixed_by sees owner items (Some pair) = Some (fixed sees owner items pair (result_of (passes sees pair)))

abbrev pub seen_fixed_by : Seeing → Owner → List Pending → Option Pair → List Seen
seen_fixed_by sees owner items None = []
seen_fixed_by sees owner items (Some pair) = seen_fixed sees owner items pair (result_of (passes sees pair))

-- the choice among pairs, where one fixes the arm, and what it reads
abbrev pub choice_among : Seeing → Owner → List Pending → List Pair → Option Choice
choice_among sees owner items tried = fixed_by sees owner items (deciding sees tried)

abbrev pub seen_among : Seeing → Owner → List Pending → List Pair → List Seen
seen_among sees owner items tried = seen_deciding sees tried ++ seen_fixed_by sees owner items (deciding sees tried)

abbrev pub otherwise : Bool → Option Choice → Choice
otherwise has_else (Some chosen) = chosen
otherwise true None = Else
otherwise false None = Nothing

-- what the guards of a statement see
abbrev pub sees_of : Reading → Site → Me → List Value → Seeing
sees_of reading site me env = guarding reading me site.names env

abbrev pub all_pairs : Site → Owner → List Pending → List Pair
all_pairs site owner items = pairs owner (enumerate_from 0 site.arms) (enumerate_from 0 items)

-- what the statement does
abbrev pub choice : Reading → Site → Me → List Value → List Pending → Choice
choice reading site me env items =
    otherwise site.has_else (choice_among (sees_of reading site me env) (owner_in site.scope me) items (all_pairs site (owner_in site.scope me) items))

-- the cells and counts that the choice reads, in order
abbrev pub choice_seen : Reading → Site → Me → List Value → List Pending → List Seen
choice_seen reading site me env items =
    seen_among (sees_of reading site me env) (owner_in site.scope me) items (all_pairs site (owner_in site.scope me) items)
