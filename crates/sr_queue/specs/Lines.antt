-- The line of an operation: the numbers of its invocations, in order.
use Rattle.std.specs.Prelude.{◌≡◌, ℕ, ◌<◌, List, [], Option, None, Some, AllPairs, if◌then◌else◌}
use Rattle.std.specs.Map.{lookup}
use Rattle.std.specs.declared.collections.VecDeque.{VecDeque}
use Rattle.std.specs.declared.alloc.Global.{Global}
use Rattle.sr_queue.specs.declared.class.Class.{Class}
use Rattle.sr_queue.specs.Classes.{same_class}

abbrev pub numbers_of : Option (VecDeque ℕ Global) → List ℕ
numbers_of None = []
numbers_of (Some line) = line.items

-- the line of a class in the table of lines, which need have none for a class of which nothing is pending
abbrev pub line_in : List (Class × VecDeque ℕ Global) → Class → List ℕ
line_in lines class = numbers_of (lookup (same_class class) lines)

-- the line of a class is new, and all others stay
abbrev pub ChangesLine : List (Class × VecDeque ℕ Global) → List (Class × VecDeque ℕ Global) → Class → List ℕ → Type 0
ChangesLine lines lines' class numbers = (q : Class) → line_in lines' q ≡ (if same_class class q then numbers else line_in lines q)

-- later numbers are greater
abbrev pub IsRising : List ℕ → Type 0
IsRising numbers = AllPairs (λ a b. a < b) numbers
