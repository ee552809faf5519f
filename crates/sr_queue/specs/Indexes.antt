-- The tables by which the invocations of an operation are found.
use Rattle.std.specs.Prelude.{◌≡◌, ℕ, ◌<◌, List, [], ◌∷◌, All, AllPairs, if◌then◌else◌}
use Rattle.sr_queue.specs.declared.class.Class.{Class}
use Rattle.sr_queue.specs.declared.index.Numbered.{Numbered}
use Rattle.sr_queue.specs.Classes.{same_class}

-- later ones have greater numbers
abbrev pub IsAscending : List Numbered → Type 0
IsAscending es = AllPairs (λ earlier later. earlier.number < later.number) es

-- the numbers of those of a class, in order
abbrev pub numbers_in : Class → List Numbered → List ℕ
numbers_in class [] = []
numbers_in class (e ∷ es) = if same_class class e.class then e.number ∷ numbers_in class es else numbers_in class es

-- the numbers ascend, those to come are greater, and each line has the numbers of its class
pub record IsIndex (entries : List Numbered) (next : ℕ) (line : Class → List ℕ) : Type 0 where
  pub ascending : IsAscending entries
  pub below : All (λ e. e.number < next) entries
  pub lines : (class : Class) → line class ≡ numbers_in class entries
