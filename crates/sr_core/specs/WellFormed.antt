-- What a well-formed core is: each number names something, each operation is serviced where its owner is, and nothing stands
-- where the language forbids it. The types of expressions aren't looked at.
use Rattle.std.specs.Prelude.{ℕ, ◌-◌, Bool, true, false, not, ◌&&◌, ◌||◌, List, [], ◌∷◌, length, ◌==◌, IsTrue}
use Rattle.std.specs.List.{list_all, list_any}
use Rattle.sr_core.specs.declared.component.Component.{Component}
use Rattle.sr_core.specs.declared.component.Core.{Core}
use Rattle.sr_core.specs.declared.component.Kind.{Kind}
use Rattle.sr_core.specs.declared.component.Kind.TheVariants.{Resource, Global}
use Rattle.sr_core.specs.Blocks.{all_waits_ok}
use Rattle.sr_core.specs.Leaving.{all_allowed_in}
use Rattle.sr_core.specs.Numbers.{all_numbers_ok}
use Rattle.sr_core.specs.Serving.{all_arms_ok, operations_ok, procs_ok}
use Rattle.sr_core.specs.Tests.{is_there, with_component}

-- ---- components

abbrev pub is_global : Kind → Bool
is_global Resource = false
is_global Global = true

abbrev pub member : ℕ → List ℕ → Bool
member n ns = list_any (λ m. m == n) ns

-- each needed global is a global, comes once, and stands after those that it imports
abbrev pub in_making_order : Core → List ℕ → List ℕ → Bool
in_making_order core earlier [] = true
in_making_order core earlier (global ∷ globals) =
    (not (member global earlier) && with_component core global (λ c. is_global c.kind && list_all (λ import. member import earlier) c.imports))
    && in_making_order core (global ∷ earlier) globals

abbrev pub component_ok : Core → Component → Bool
component_ok core component =
    (in_making_order core [] component.needs && list_all (λ import. member import component.needs) component.imports)
    && (not (is_global component.kind) || not (is_there component.final_code))

-- what a component needs can be made in order, all that it imports is among it, and no global has final code
abbrev pub components_ok : Core → Bool
components_ok core = list_all (component_ok core) core.components

-- main is a resource without formals
abbrev pub is_main : Component → Bool
is_main component = not (is_global component.kind) && (length component.formals == 0)

-- the last component is main; where there is none, none is
abbrev pub main_ok : Core → Bool
main_ok core = with_component core (length core.components - 1) is_main

-- A core that keeps all rules. Each part is a rule of its own.
pub record IsWellFormed (core : Core) : Type 0 where
  -- the last component is a resource without formals
  pub main : IsTrue (main_ok core)
  -- what a component needs can be made in order, and all that it imports is among it; no global has final code
  pub components : IsTrue (components_ok core)
  -- an operation is of a component, and its proc is there where it has one
  pub operations : IsTrue (operations_ok core)
  -- a proc serves one operation, which names it, and names each of its formals with its mode
  pub procs : IsTrue (procs_ok core 0 core.procs)
  -- the arms of an `in` service operations without procs, all of one owner, by guards without side effects
  pub sites : IsTrue (all_arms_ok core)
  -- each number in code names something
  pub numbers : IsTrue (all_numbers_ok core)
  -- nothing stands where it has nothing to leave or to answer
  pub allowed : IsTrue (all_allowed_in core)
  -- an `in` has a block for each arm of its site
  pub waits : IsTrue (all_waits_ok core)
