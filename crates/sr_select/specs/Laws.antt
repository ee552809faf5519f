-- Facts about choices that the laws speak of.
use Rattle.std.specs.Prelude.{◌≡◌, ℕ, ◌&&◌, Bool, true, List, Option, Some, is_none, slice_get, option_map}
use Rattle.std.specs.List.{list_any}
use Rattle.sr_value.specs.declared.capability.Owner.{Owner}
use Rattle.sr_value.specs.declared.fault.Fault.{Fault}
use Rattle.sr_value.specs.Operators.{owner_eq}
use Rattle.sr_core.specs.declared.owner.Me.{Me}
use Rattle.sr_core.specs.declared.site.Arm.{Arm}
use Rattle.sr_core.specs.declared.site.Site.{Site}
use Rattle.sr_core.specs.Formals.{first_of}
use Rattle.sr_queue.specs.declared.pending.Pending.{Pending}
use Rattle.sr_queue.specs.Queues.{is_of}
use Rattle.sr_select.specs.declared.choice.Choice.{Choice}
use Rattle.sr_select.specs.declared.choice.Choice.TheVariants.{Service, Else, Nothing, Bad}
use Rattle.sr_select.specs.Choices.{all_pairs, owner_in}

-- no `and` and no `by`
abbrev pub is_plain : Arm → Bool
is_plain arm = is_none arm.guard && is_none arm.by

-- the oldest invocation of the statement's owner and operations, with the first arm of its operation
abbrev pub oldest : Site → Me → List Pending → Option Choice
oldest site me items = option_map (λ pair. Service pair.place pair.number) (first_of (all_pairs site (owner_in site.scope me) items))

-- The invocation at a place is pending and of the statement's owner, and the arm of this number is of its operation.
pub record Services (site : Site) (me : Me) (items : List Pending) (place number : ℕ) : Type 0 where
  pub invocation : Pending
  pub arm : Arm
  pub is_pending : slice_get items place ≡ Some invocation
  pub is_arm : slice_get site.arms number ≡ Some arm
  pub is_of_both : is_of (owner_in site.scope me) arm.op invocation ≡ true

-- an arm of the statement is of the invocation's operation
abbrev pub is_named : Owner → List Arm → Pending → Bool
is_named owner arms p = list_any (λ arm. is_of owner arm.op p) arms

-- an invocation of an operation of a class of an owner; a class is told by its operations
abbrev pub is_in_class : Owner → (ℕ → Bool) → Pending → Bool
is_in_class owner class p = class p.op && owner_eq p.owner owner

-- what a statement does: the invocation itself that it services, and not its place in the queue
pub data Chosen : Type 0 where
  Services_it : Option Pending → ℕ → Chosen
  Runs_else : Chosen
  Waits : Chosen
  Faults : Fault → ℕ → Chosen

abbrev pub chosen_in : List Pending → Choice → Chosen
chosen_in items (Service place number) = Services_it (slice_get items place) number
chosen_in items Else = Runs_else
chosen_in items Nothing = Waits
chosen_in items (Bad found number) = Faults found number
