-- Classes as a function from an operation to the first of its class, and how two of them become one.
use Rattle.std.specs.Prelude.{◌≡◌, ℕ, ◌<◌, ◌≤◌, ◌==◌, ◌||◌, min, if◌then◌else◌, List, [], ◌∷◌, fold, length, slice_index_or}

-- the classes of two operations are one
abbrev pub joined : (ℕ → ℕ) → ℕ → ℕ → (ℕ → ℕ)
joined of a b = λ op. if (of op == of a) || (of op == of b) then min (of a) (of b) else of op

-- the classes of all operations of a group are one
abbrev pub group_joined : (ℕ → ℕ) → List ℕ → (ℕ → ℕ)
group_joined of [] = of
group_joined of (first ∷ others) = fold (λ so_far other. joined so_far first other) of others

-- each operation has a class of its own, before any group
abbrev pub all_joined : List (List ℕ) → (ℕ → ℕ)
all_joined groups = fold group_joined (λ op. op) groups

-- each operation has a parent that isn't after it
abbrev pub IsForest : List ℕ → Type 0
IsForest parents = (op : ℕ) → op < length parents → slice_index_or parents op 0 ≤ op

-- the parents stand for these classes: each is in the class of its operation, and who is its own parent is the first
pub record Stands (of : ℕ → ℕ) (parents : List ℕ) : Type 0 where
  pub settled : (op : ℕ) → of (of op) ≡ of op
  pub same : (op : ℕ) → op < length parents → of (slice_index_or parents op 0) ≡ of op
  pub roots : (op : ℕ) → op < length parents → slice_index_or parents op 0 ≡ op → of op ≡ op

-- the parents stand on for the classes that they stood for
abbrev pub StandsOn : List ℕ → List ℕ → ((ℕ → ℕ) → (ℕ → ℕ)) → Type 0
StandsOn old new change = (of : ℕ → ℕ) → Stands of old → Stands (change of) new
