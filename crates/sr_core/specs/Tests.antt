-- What tests of a core are put together of.
use Rattle.std.specs.List.{list_all}
use Rattle.std.specs.Prelude.{ℕ, Bool, true, false, List, ◌∷◌, Option, Some, None, option_to_list, slice_get}
use Rattle.sr_core.specs.declared.component.Body.{Body}
use Rattle.sr_core.specs.declared.component.Component.{Component}
use Rattle.sr_core.specs.declared.component.Core.{Core}
use Rattle.sr_core.specs.declared.component.Operation.{Operation}

-- what isn't written passes
abbrev pub if_some : {A : Type 0} → (A → Bool) → Option A → Bool
if_some test None = true
if_some test (Some a) = test a

abbrev pub is_there : {A : Type 0} → Option A → Bool
is_there None = false
is_there (Some a) = true

abbrev pub same_there : {A B : Type 0} → Option A → Option B → Bool
same_there None None = true
same_there (Some a) (Some b) = true
same_there _ _ = false

abbrev pub all_true : List Bool → Bool
all_true = list_all (λ one. one)

-- an operation that isn't there passes no test
abbrev pub with_operation : Core → ℕ → (Operation → Bool) → Bool
with_operation core op test = if_there (slice_get core.operations op) where
  if_there : Option Operation → Bool
  if_there None = false
  if_there (Some operation) = test operation

-- nor does a component
abbrev pub with_component : Core → ℕ → (Component → Bool) → Bool
with_component core number test = if_there (slice_get core.components number) where
  if_there : Option Component → Bool
  if_there None = false
  if_there (Some component) = test component

-- all code of a component: its initial code and its final code
abbrev pub codes_of : Component → List Body
codes_of component = component.initial ∷ option_to_list component.final_code
