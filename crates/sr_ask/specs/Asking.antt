-- Which answers a request takes, and what the process gets from them.
use Rattle.std.specs.Prelude.{ℕ, ℤ, pos, negsuc, Bool, true, false, List, ◌==◌, Option, Some, None, Result, Ok, Err, nat_lt, nat_le, if◌then◌else◌}
use Rattle.std.specs.List.{list_any}
use Rattle.sr_value.specs.declared.fault.Fault.{Fault}
use Rattle.sr_value.specs.declared.fault.Fault.TheVariants.{Overflow}
use Rattle.sr_value.specs.declared.value.Value.{Value}
use Rattle.sr_ask.specs.declared.answer.Answer.{Answer}
use Rattle.sr_ask.specs.declared.answer.Answer.TheVariants.{Done, Got, Made, Ready, Picked, Else, Took, Number, Bad, End}
use Rattle.sr_ask.specs.declared.forms.InputItem.{InputItem}
use Rattle.sr_ask.specs.declared.forms.InputItem.TheVariants.{NotOfKind, NoMore}
use Rattle.sr_ask.specs.declared.forms.Selection.{Selection}
use Rattle.sr_ask.specs.declared.forms.Selection.TheVariants.{Service, Otherwise}
use Rattle.sr_ask.specs.declared.forms.Taken.{Taken}

-- no answer lets the process go on
abbrev pub none_takes : {A : Type 0} → Answer → Option A
none_takes answer = None

-- `Done`
abbrev pub done : Answer → Option (Unit {0})
done Done = Some tt
done _ = None

-- `Got`, with the value
abbrev pub got : Answer → Option Value
got (Got value) = Some value
got _ = None

-- `Made`, with the number of what was made
abbrev pub made : Answer → Option ℕ
made (Made name) = Some name
made _ = None

-- `Ready`
abbrev pub ready : Answer → Option (Unit {0})
ready Ready = Some tt
ready _ = None

-- `Number`
abbrev pub number : Answer → Option ℤ
number (Number n) = Some n
number _ = None

-- `Number` as an answer to `Age`, which isn't below 0
abbrev pub as_moment : ℤ → Option ℤ
as_moment (pos n) = Some (pos n)
as_moment (negsuc n) = None

abbrev pub moment : Answer → Option ℤ
moment (Number n) = as_moment n
moment _ = None

abbrev pub when : {A : Type 0} → Bool → A → Option A
when true a = Some a
when false a = None

-- `Took`, of one of the invocations that were asked for
abbrev pub took : List ℕ → Answer → Option Taken
took ids (Took id results) = when (list_any (λ i. i == id) ids) (record { id = id; results = results })
took ids _ = None

-- `Got`, `Bad` or `End`
abbrev pub read_item : Answer → Option InputItem
read_item (Got value) = Some (InputItem.Value value)
read_item Bad = Some NotOfKind
read_item End = Some NoMore
read_item _ = None

-- `Picked`, of one of so many arms; `Else`, where the statement has one
abbrev pub selected : ℕ → Bool → Answer → Option Selection
selected arms has_else (Picked id arm args back) = when (nat_lt arm arms) (Service (record { id = id; arm = arm; args = args; back = back }))
selected arms has_else Else = when has_else Otherwise
selected arms has_else _ = None

-- a moment over 2147483647 is E1
abbrev pub until_moment : ℤ → Result ℕ Fault
until_moment (pos n) = if nat_le n 2147483647 then Ok n else Err Overflow
until_moment (negsuc n) = Err Overflow
