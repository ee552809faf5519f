-- The types of the predefined functions. Of them `low` and `high` alone are static.
use Rattle.std.specs.Prelude.{◌&&◌}
use Rattle.sr_types.specs.declared.typed.Outcome.{Outcome}
use Rattle.sr_types.specs.declared.typed.Static.TheVariants.{Unknown}
use Rattle.sr_types.specs.declared.typed.Typed.{Typed}
use Rattle.sr_types.specs.Kinds.{may_be_int, may_be_str, may_have_dimension, may_have_ends, may_have_neighbours}
use Rattle.sr_types.specs.Outcomes.{computed, found, met_if, unknown_if}
use Rattle.sr_types.specs.declared.ty.Ty.{Ty}
use Rattle.sr_types.specs.declared.ty.Ty.TheVariants.{Int}
use Rattle.sr_value.specs.declared.predefined.Dimension.{Dimension}
use Rattle.sr_value.specs.declared.shape.Shape.{Shape}
use Rattle.sr_value.specs.Predefined.{lowest_value, highest_value}

-- `abs(i)` is of an int
abbrev pub number_rule : Typed → Outcome
number_rule number = unknown_if (may_be_int number.ty) Int

-- `min(i, j)` and `max(i, j)` are of two int
abbrev pub numbers_rule : Typed → Typed → Outcome
numbers_rule a b = unknown_if (may_be_int a.ty && may_be_int b.ty) Int

-- `low(T)` is of `int`, `bool`, `char` or an enum type
abbrev pub low_rule : Ty → Shape → Outcome
low_rule ty shape = met_if (may_have_ends ty) (computed ty (found (lowest_value shape)))

-- so is `high(T)`
abbrev pub high_rule : Ty → Shape → Outcome
high_rule ty shape = met_if (may_have_ends ty) (computed ty (found (highest_value shape)))

-- `lb` and `ub` are of an array, and a dimension that it has
abbrev pub bound_rule : Typed → Dimension → Outcome
bound_rule array dimension = unknown_if (may_have_dimension array.ty dimension) Int

-- `length(s)` is of a string
abbrev pub length_rule : Typed → Outcome
length_rule string = unknown_if (may_be_str string.ty) Int

-- `pred(x)` and `succ(x)` are of an int, char or enum, and of the same type
abbrev pub neighbour_rule : Typed → Outcome
neighbour_rule value = met_if (may_have_neighbours value.ty) (computed value.ty Unknown)
