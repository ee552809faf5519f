-- Guards that name no formal of their arm, and arms that are closed for the rest of a choice.
--
-- What such a guard comes to doesn't depend on the arguments: in one choice it has one value for all invocations of
-- its arm's operation. Where that is false, no invocation passes the arm, and the arm is closed.
use Rattle.std.specs.Prelude.{◌≡◌, ℕ, Bool, true, false, not, List, [], ◌∷◌, ◌++◌, Some, Ok, slice_get, ◌==◌}
use Rattle.std.specs.List.{list_any}
use Rattle.sr_value.specs.declared.value.Value.{Value}
use Rattle.sr_core.specs.declared.formal.Formal.{Formal}
use Rattle.sr_core.specs.declared.owner.Root.{Root}
use Rattle.sr_core.specs.declared.owner.Root.TheVariants.{Own as own_root, Shared as shared_root}
use Rattle.sr_core.specs.declared.site.Arm.{Arm}
use Rattle.sr_select.specs.declared.closed.Closed.{Closed}
use Rattle.sr_select.specs.declared.closed.Closed.TheVariants.{Never, Arms}
use Rattle.sr_select.specs.Choices.{Seeing, passes_with}
use Rattle.sr_select.specs.Looks.{result_of}
use Rattle.sr_select.specs.Tests.{maybe_all}

-- ---- guards

-- a formal has this name
abbrev pub is_formal : List Formal → ℕ → Bool
is_formal formals var = list_any (λ formal. formal.var == var) formals

abbrev pub is_outside : List Formal → Root → Bool
is_outside formals (own_root var) = not (is_formal formals var)
is_outside formals (shared_root home var) = true

-- the `and` of an arm names none of its formals; the returned name has its default, whatever the arguments
abbrev pub guard_names_none : Arm → Bool
guard_names_none arm = maybe_all (λ leaf. true) (is_outside arm.formals) arm.guard

-- ---- closed arms

-- arms are closed at all
abbrev pub closes : Closed → Bool
closes Never = false
closes (Arms numbers) = true

abbrev pub is_closed : Closed → ℕ → Bool
is_closed Never number = false
is_closed (Arms numbers) number = list_any (λ other. other == number) numbers

abbrev pub closing : ℕ → Closed → Closed
closing number Never = Never
closing number (Arms numbers) = Arms (numbers ++ number ∷ [])

-- no invocation passes a closed arm
pub record AreClosed (sees : Seeing) (arms : List Arm) (closed : Closed) : Type 0 where
  pub never : (number : ℕ) (arm : Arm) (args : List Value) → is_closed closed number ≡ true → slice_get arms number ≡ Some arm → result_of (passes_with sees arm args) ≡ Ok false
