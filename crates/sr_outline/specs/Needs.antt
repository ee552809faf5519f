-- What is true of the globals that a component needs, where no global imports itself through others.
use Rattle.std.specs.Prelude.{ℕ, Bool, true, not, ◌&&◌, IsTrue, List, [], ◌∷◌}
use Rattle.std.specs.List.{list_all}
use Rattle.sr_outline.specs.Outline.{imports_at, member, needs_of}

-- a component imports another, directly or through others
pub data Leads (imports : List (List ℕ)) : ℕ → ℕ → Type 0 where
  at_once : (from to : ℕ) → IsTrue (member to (imports_at imports from)) → Leads imports from to
  through : (from next to : ℕ) → IsTrue (member next (imports_at imports from)) → Leads imports next to → Leads imports from to

-- no component imports itself, directly or through others
abbrev pub NoCycle : List (List ℕ) → Type 0
NoCycle imports = (component : ℕ) → Leads imports component component → ⊥

-- all of these are among others
abbrev pub among : List ℕ → List ℕ → Bool
among numbers others = list_all (λ number. member number others) numbers

-- each global comes once, and stands after those that it imports
abbrev pub in_order : List (List ℕ) → List ℕ → List ℕ → Bool
in_order imports earlier [] = true
in_order imports earlier (global ∷ globals) =
    (not (member global earlier) && among (imports_at imports global) earlier) && in_order imports (global ∷ earlier) globals

-- What a component needs: globals that can be made in their order, among them all that it imports, each imported by
-- something.
pub record CanBeMade (imports : List (List ℕ)) (component : ℕ) (needs : List ℕ) : Type 0 where
  pub ordered : IsTrue (in_order imports [] needs)
  pub imported : IsTrue (among (imports_at imports component) needs)
  pub wanted : (global : ℕ) → IsTrue (member global needs) → (importer : ℕ) × IsTrue (member global (imports_at imports importer))

abbrev pub NeedsInOrder : Type 0
NeedsInOrder = (imports : List (List ℕ)) → NoCycle imports → (component : ℕ) → CanBeMade imports component (needs_of imports component)
