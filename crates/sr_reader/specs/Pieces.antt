-- Which pieces of a list, from its front, a grammar gives a tree.
use Rattle.std.specs.Prelude.{◌≡◌, ℕ, ◌≤◌, List, ◌∷◌, ◌++◌, length, take, drop}

-- a list that begins with these symbols and one more has a tree
pub record GoesOn {T A : Type 0} (Spells : A → List T → Type 0) (u : List T) (t : T) : Type 0 where
  pub tree : A
  pub more : List T
  pub spelled : Spells tree (u ++ t ∷ more)

-- the first symbols, this many, spell the tree, and with the next symbol they begin no list that has a tree: no longer
-- piece has one or is the beginning of a list that has one
pub record IsLongest {T A : Type 0} (Spells : A → List T → Type 0) (s : List T) (tree : A) (count : ℕ) : Type 0 where
  pub within : count ≤ length s
  pub spelled : Spells tree (take count s)
  pub ends : (t : T) (rest : List T) → drop count s ≡ t ∷ rest → GoesOn Spells (take count s) t → ⊥

-- no list that has a tree begins with the first symbols, so many
abbrev pub IsDead : {T A : Type 0} → (A → List T → Type 0) → List T → ℕ → Type 0
IsDead Spells s count = (tree : _) (more : List _) → Spells tree (take count s ++ more) → ⊥

-- one list has at most one tree
abbrev pub HasOneTree : {T A : Type 0} → (A → List T → Type 0) → Type 0
HasOneTree Spells = (a b : _) (u : List _) → Spells a u → Spells b u → a ≡ b
