-- Which operations are in one class: the least equivalence that holds for any two operations of one `in`.
use Rattle.std.specs.Prelude.{◌≡◌, ◌↔◌, ℕ, ◌<◌, ◌≤◌, Bool, IsTrue, List, map, filter, length, nat_lt, slice_index_or}
use Rattle.std.specs.List.{Contains}
use Rattle.sr_core.specs.declared.component.Core.{Core}
use Rattle.sr_core.specs.declared.site.Arm.{Arm}

-- the operations that an `in` has arms for; a number that names none of so many operations joins nothing
abbrev pub named_by : ℕ → List Arm → List ℕ
named_by count arms = filter (λ op. nat_lt op count) (map (λ arm. arm.op) arms)

-- the operations that each `in` has arms for
abbrev pub groups_of : Core → List (List ℕ)
groups_of core = map (λ site. named_by (length core.operations) site.arms) core.sites

pub data SameClass (groups : List (List ℕ)) : ℕ → ℕ → Type 0 where
  together : {group : List ℕ} {a b : ℕ} → Contains groups group → Contains group a → Contains group b → SameClass groups a b
  itself : {a : ℕ} → SameClass groups a a
  turned : {a b : ℕ} → SameClass groups a b → SameClass groups b a
  through : {a b c : ℕ} → SameClass groups a b → SameClass groups b c → SameClass groups a c

abbrev pub class_of : List ℕ → ℕ → ℕ
class_of classes op = slice_index_or classes op 0

-- a list with the class of each operation; the number of a class is that of its first operation
pub record AreClasses (groups : List (List ℕ)) (count : ℕ) (classes : List ℕ) : Type 0 where
  pub each : length classes ≡ count
  pub same : (a b : ℕ) → a < count → b < count → (class_of classes a ≡ class_of classes b) ↔ SameClass groups a b
  pub one_of_them : (a : ℕ) → a < count → SameClass groups (class_of classes a) a
  pub first : (a b : ℕ) → a < count → b < count → SameClass groups a b → class_of classes a ≤ b

-- a test of two operations that is an equivalence, and holds for any two of one group
pub record Relates (groups : List (List ℕ)) (alike : ℕ → ℕ → Bool) : Type 0 where
  pub reflexive : (a : ℕ) → IsTrue (alike a a)
  pub symmetric : (a b : ℕ) → IsTrue (alike a b) → IsTrue (alike b a)
  pub transitive : (a b c : ℕ) → IsTrue (alike a b) → IsTrue (alike b c) → IsTrue (alike a c)
  pub groups_hold : (group : List ℕ) (a b : ℕ) → Contains groups group → Contains group a → Contains group b → IsTrue (alike a b)

-- of all these the classes are the least: two operations of one class are alike
abbrev pub AreLeast : List (List ℕ) → Type 0
AreLeast groups = (alike : ℕ → ℕ → Bool) → Relates groups alike → (a b : ℕ) → SameClass groups a b → IsTrue (alike a b)
