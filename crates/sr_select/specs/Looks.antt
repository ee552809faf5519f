-- Looking at the world: what it comes to, and the cells and counts that were read so far, in order.
use Rattle.std.specs.Prelude.{◌≡◌, List, [], ◌++◌, Result, Ok, Err}
use Rattle.sr_value.specs.declared.fault.Fault.{Fault}
use Rattle.sr_value.specs.declared.fault.ValueFail.{ValueFail}
use Rattle.sr_value.specs.declared.fault.ValueFail.TheVariants.{Fault as a_fault, NoMemory as out_of_memory}
use Rattle.sr_ask.specs.declared.entry.Seen.{Seen}

-- a result, or a fault, with all that was read so far
pub data Looked (A : Type 0) : Type 0 where
  Found : A → List Seen → Looked A
  Faulted : Fault → List Seen → Looked A

-- a look goes on from what was read before it
abbrev pub Looking : Type 0 → Type 0
Looking A = List Seen → Looked A

-- no look at all
abbrev pub give : {A : Type 0} → A → Looking A
give a seen = Found a seen

abbrev pub fault : {A : Type 0} → Fault → Looking A
fault found seen = Faulted found seen

-- what is known without a look
abbrev pub settle : {A : Type 0} → Result A Fault → Looking A
settle (Ok a) seen = Found a seen
settle (Err found) seen = Faulted found seen

abbrev pub then_look : {A B : Type 0} → Looked A → (A → Looking B) → Looked B
then_look (Found a seen) next = next a seen
then_look (Faulted found seen) next = Faulted found seen

-- one look and then another; after a fault nothing more is looked at
infixl 10 ◌>>>◌
abbrev pub ◌>>>◌ : {A B : Type 0} → Looking A → (A → Looking B) → Looking B
(first >>> next) seen = then_look (first seen) next

-- what a look comes to, and what was read until then
abbrev pub result_of : {A : Type 0} → Looked A → Result A Fault
result_of (Found a seen) = Ok a
result_of (Faulted found seen) = Err found

abbrev pub seen_of : {A : Type 0} → Looked A → List Seen
seen_of (Found a seen) = seen
seen_of (Faulted found seen) = seen

-- a call found what is meant and has written down all that was read, unless memory ran out
abbrev pub Sees : {A : Type 0} → Looked A → Result A ValueFail → List Seen → Type 0
Sees meant (Ok a) seen = meant ≡ Found a seen
Sees meant (Err (a_fault found)) seen = meant ≡ Faulted found seen
Sees meant (Err out_of_memory) seen = Unit {0}

-- the same of a look of its own: what it read stands after what was read before
abbrev pub Adds : {A : Type 0} → Looked A → Result A ValueFail → List Seen → List Seen → Type 0
Adds meant (Ok a) old new = (result_of meant ≡ Ok a) × (new ≡ old ++ seen_of meant)
Adds meant (Err (a_fault found)) old new = (result_of meant ≡ Err found) × (new ≡ old ++ seen_of meant)
Adds meant (Err out_of_memory) old new = Unit {0}
