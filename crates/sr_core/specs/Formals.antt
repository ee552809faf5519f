-- The formals of an operation: what each is sent, and what goes back to the caller.
use Rattle.std.specs.Prelude.{ℕ, Bool, true, false, List, [], ◌∷◌, ◌++◌, map, filter, Option, Some, None}
use Rattle.sr_value.specs.declared.value.Value.{Value}
use Rattle.sr_core.specs.declared.formal.Formal.{Formal}
use Rattle.sr_core.specs.declared.formal.Mode.{Mode}
use Rattle.sr_core.specs.declared.formal.Mode.TheVariants.{Val, Var, Res}
use Rattle.sr_core.specs.declared.formal.Returned.{Returned}

abbrev pub first_of : {A : Type 0} → List A → Option A
first_of [] = None
first_of (x ∷ xs) = Some x

abbrev pub after_first : {A : Type 0} → List A → List A
after_first [] = []
after_first (x ∷ xs) = xs

-- what a formal is sent, and what the formals after it are sent; a `res` formal is sent nothing
abbrev pub sent_to : Mode → List Value → Option Value
sent_to Res args = None
sent_to mode args = first_of args

abbrev pub sent_after : Mode → List Value → List Value
sent_after Res args = args
sent_after mode args = after_first args

-- the results of an invocation: the `var` and `res` formals in order, and then the returned name
abbrev pub is_back : Formal → Bool
is_back formal = mode_back formal.mode where
  mode_back : Mode → Bool
  mode_back Val = false
  mode_back Var = true
  mode_back Res = true

abbrev pub returned_var : Option Returned → List ℕ
returned_var None = []
returned_var (Some name) = name.var ∷ []

abbrev pub result_vars : List Formal → Option Returned → List ℕ
result_vars formals name = map (λ formal. formal.var) (filter is_back formals) ++ returned_var name
