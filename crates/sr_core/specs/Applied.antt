-- The predefined functions of values, by the numbers of their arguments.
use Rattle.std.specs.Prelude.{ℕ, List, [], ◌∷◌, Result, Ok, Err}
use Rattle.sr_value.specs.declared.fault.Fault.{Fault}
use Rattle.sr_value.specs.declared.fault.Fault.TheVariants.{Range}
use Rattle.sr_value.specs.declared.predefined.Dimension.TheVariants.{First, Second}
use Rattle.sr_value.specs.declared.value.Value.{Value}
use Rattle.sr_value.specs.declared.value.Value.TheVariants.{Rec}
use Rattle.sr_value.specs.Predefined.{absolute_value, least_value, greatest_value, next_value, previous_value, lower_value, upper_value, length_value, number_value, char_value, string_value}
use Rattle.sr_core.specs.declared.expression.Function.{Function}
use Rattle.sr_core.specs.declared.expression.Function.TheVariants.{Abs, Min, Max, LowBound, LowBound2, HighBound, HighBound2, Length, Pred, Succ, ToInt, ToChar, ToText, Record}

-- another number of arguments is E6
abbrev pub to_one : (Value → Result Value Fault) → List Value → Result Value Fault
to_one f (x ∷ []) = f x
to_one f _ = Err Range

abbrev pub to_two : (Value → Value → Result Value Fault) → List Value → Result Value Fault
to_two f (x ∷ y ∷ []) = f x y
to_two f _ = Err Range

-- the value of a predefined function, or its fault
abbrev pub applied : List (List (List ℕ)) → Function → List Value → Result Value Fault
applied names Abs args = to_one absolute_value args
applied names Min args = to_two least_value args
applied names Max args = to_two greatest_value args
applied names LowBound args = to_one (λ a. lower_value a First) args
applied names LowBound2 args = to_one (λ a. lower_value a Second) args
applied names HighBound args = to_one (λ a. upper_value a First) args
applied names HighBound2 args = to_one (λ a. upper_value a Second) args
applied names Length args = to_one length_value args
applied names Pred args = to_one previous_value args
applied names (Succ literals) args = to_one (next_value literals) args
applied names ToInt args = to_one number_value args
applied names ToChar args = to_one char_value args
applied names ToText args = to_one (string_value names) args
applied names Record args = Ok (Rec args)
