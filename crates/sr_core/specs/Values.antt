-- What a process finds out about values by itself.
use Rattle.std.specs.Prelude.{ℕ, ℤ, pos, negsuc, suc, ◌+◌, ◌*◌, ◌/◌, ◌+ℤ◌, ◌-ℤ◌, Bool, true, false, List, [], ◌∷◌, ◌++◌, length, map, replicate, Option, Some, None, Result, Ok, Err, ◌==◌, nat_lt, if◌then◌else◌}
use Rattle.std.specs.List.{range_with_len}
use Rattle.sr_value.specs.declared.capability.Cap.{Cap}
use Rattle.sr_value.specs.declared.capability.Cap.TheVariants.{Null, Noop, Op}
use Rattle.sr_value.specs.declared.capability.Owner.TheVariants.{Inst}
use Rattle.sr_value.specs.declared.fault.Fault.{Fault}
use Rattle.sr_value.specs.declared.fault.Fault.TheVariants.{Shape as unequal, Range}
use Rattle.sr_value.specs.declared.shape.Dims.{Dims}
use Rattle.sr_value.specs.declared.shape.Dims.TheVariants.{One, Two}
use Rattle.sr_value.specs.declared.shape.Shape.{Shape, out-Shape}
use Rattle.sr_value.specs.declared.shape.Shape.TheOpen.{Shape-F}
use Rattle.sr_value.specs.declared.shape.Shape.TheVariants.{Arr as array_of_shape}
use Rattle.sr_value.specs.declared.value.Value.{Value, out-Value}
use Rattle.sr_value.specs.declared.value.Value.TheOpen.{Value-F}
use Rattle.sr_value.specs.declared.value.Value.TheVariants.{Arr, Capa}
use Rattle.sr_value.specs.Operands.{int_in, bool_in, cap_in}
use Rattle.sr_value.specs.Operators.{is_int}
use Rattle.sr_value.specs.Shapes.{extent}
use Rattle.sr_value.specs.Texts.{value_text}
use Rattle.sr_value.specs.Parts.{or_fault, with_ok}
use Rattle.sr_core.specs.declared.piece.Piece.{Piece}
use Rattle.sr_core.specs.declared.formal.FormalShape.{FormalShape}
use Rattle.sr_core.specs.declared.formal.FormalShape.TheVariants.{Fixed, Open, Open2}
use Rattle.sr_core.specs.declared.statement.Direction.{Direction}
use Rattle.sr_core.specs.declared.statement.Direction.TheVariants.{Up, Down}

-- ---- operands: a value of another type is E6

abbrev pub truth_of : Value → Result Bool Fault
truth_of value = or_fault Range (bool_in value)

abbrev pub number_of : Value → Result ℤ Fault
number_of value = or_fault Range (int_in value)

abbrev pub cap_of : Value → Result Cap Fault
cap_of value = or_fault Range (cap_in value)

-- `r.f`: the operation of the instance; `null` and `noop` stay themselves
abbrev pub member_of : ℕ → Cap → Result Value Fault
member_of op Null = Ok (Capa Null)
member_of op Noop = Ok (Capa Noop)
member_of op (Cap.Res instance) = Ok (Capa (Op (Inst instance) op))
member_of op _ = Err Range

-- ---- bracketed parts

-- `[n] e` with n below 0 is E6
abbrev pub count_of : ℤ → Result ℕ Fault
count_of (pos n) = Ok n
count_of (negsuc n) = Err Range

abbrev pub flat : {A : Type 0} → List (List A) → List A
flat [] = []
flat (xs ∷ rest) = xs ++ flat rest

abbrev pub layer_row : Value-F Value → Option (List Value)
layer_row (Value-F.Arr (One lo hi) items) = Some items
layer_row _ = None

-- the items of an array of one dimension
abbrev pub row_of : Value → Option (List Value)
row_of value = layer_row (out-Value value)

-- an array's bounds are ints
abbrev pub from_one : ℕ → Result ℤ Fault
from_one n = if nat_lt n 2147483648 then Ok (pos n) else Err Range

-- how many parts there are
abbrev pub count_all : List Piece → ℕ
count_all [] = 0
count_all (piece ∷ pieces) = piece.count + count_all pieces

abbrev pub items_of : List Piece → List Value
items_of [] = []
items_of (piece ∷ pieces) = replicate piece.count piece.value ++ items_of pieces

-- parts that aren't arrays: an array of one dimension, from 1
abbrev pub line_of : List Piece → Result Value Fault
line_of pieces = with_ok (from_one (count_all pieces)) (λ hi. Ok (Arr (One (pos 1) hi) (items_of pieces)))

-- the rows of the parts, which must be of one length: E4 otherwise
abbrev pub rows_of : ℕ → List Piece → Result (List Value) Fault
rows_of width [] = Ok []
rows_of width (piece ∷ pieces) =
    with_ok (or_fault unequal (row_of piece.value)) (λ row.
    if length row == width then with_ok (rows_of width pieces) (λ rest. Ok (flat (replicate piece.count row) ++ rest)) else Err unequal)

-- parts that are arrays of one dimension: an array of two, from 1
abbrev pub table_of : List Value → List Piece → Result Value Fault
table_of first pieces =
    with_ok (rows_of (length first) pieces) (λ items.
    with_ok (from_one (count_all pieces)) (λ hi.
    with_ok (from_one (length first)) (λ hi2.
    Ok (Arr (Two (pos 1) hi (pos 1) hi2) items))))

abbrev pub by_first : Option (List Value) → List Piece → Result Value Fault
by_first (Some row) pieces = table_of row pieces
by_first None pieces = line_of pieces

-- a bracketed list: the first part says which kind it is
abbrev pub array_of : List Piece → Result Value Fault
array_of [] = line_of []
array_of (piece ∷ pieces) = by_first (row_of piece.value) (piece ∷ pieces)

-- ---- quantifiers

-- how many values there are from 0 to `reach` by a step of `suc by`
abbrev pub steps_within : ℤ → ℕ → ℕ
steps_within (pos reach) by = suc (reach / suc by)
steps_within (negsuc n) by = 0

-- The values from `from` to `to`: each is a step further than the one before, and within the bound.
abbrev pub values_by : Direction → ℤ → ℤ → ℕ → List ℤ
values_by Up from to by = map (λ k. from +ℤ pos (k * suc by)) (range_with_len 0 (steps_within (to -ℤ from) by))
values_by Down from to by = map (λ k. from -ℤ pos (k * suc by)) (range_with_len 0 (steps_within (from -ℤ to) by))

-- a step below 1 is E6, also where there would be no value
abbrev pub values_of : Direction → ℤ → ℤ → ℤ → Result (List ℤ) Fault
values_of direction from to (pos (suc by)) = Ok (values_by direction from to by)
values_of direction from to _ = Err Range

-- ---- texts

abbrev pub texts_of : List (List (List ℕ)) → List Value → Result (List (List ℕ)) Fault
texts_of names [] = Ok []
texts_of names (value ∷ values) = with_ok (or_fault Range (value_text names value)) (λ text. with_ok (texts_of names values) (λ rest. Ok (text ∷ rest)))

-- a space between two texts
abbrev pub spaced : List (List ℕ) → List ℕ
spaced [] = []
spaced (text ∷ []) = text
spaced (text ∷ texts) = text ++ 32 ∷ spaced texts

-- `write` puts a space between two texts and a newline at the end; `writes` has neither
abbrev pub written : Bool → List (List ℕ) → List ℕ
written true texts = spaced texts ++ 10 ∷ []
written false texts = flat texts

-- ---- shapes

-- the type of a value, with the value's bounds
abbrev pub layer_bounded : Shape → Shape-F Shape → {A : Type 0} → Value-F A → Shape
layer_bounded shape (Shape-F.Arr dims item) (Value-F.Arr dims' items) = array_of_shape dims' item
layer_bounded shape _ _ = shape

abbrev pub bounded_by : Shape → Value → Shape
bounded_by shape value = layer_bounded shape (out-Shape shape) (out-Value value)

abbrev pub dims_extent : Dims → ℕ × ℕ
dims_extent (One lo hi) = (extent lo hi, 0)
dims_extent (Two lo hi lo2 hi2) = (extent lo hi, extent lo2 hi2)

abbrev pub layer_extent : {A : Type 0} → Value-F A → ℕ × ℕ
layer_extent (Value-F.Arr dims items) = dims_extent dims
layer_extent _ = (0, 0)

-- the lengths of an argument; none is 0
abbrev pub sent_extent : Option Value → ℕ × ℕ
sent_extent (Some value) = layer_extent (out-Value value)
sent_extent None = (0, 0)

-- the highest index of `[lo:*]`, and E6 where it is no int
abbrev pub int_bound : ℤ → Result ℤ Fault
int_bound hi = if is_int hi then Ok hi else Err Range

abbrev pub high_bound : ℤ → Option ℤ → ℕ → Result ℤ Fault
high_bound lo (Some hi) sent = Ok hi
high_bound lo None sent = int_bound ((lo +ℤ pos sent) -ℤ pos 1)

-- A formal's `*` follows the length of the argument.
abbrev pub formal_shape : FormalShape → Option Value → Result Shape Fault
formal_shape (Fixed shape) sent = Ok shape
formal_shape (Open lo item) sent = with_ok (high_bound lo None (sent_extent sent).0) (λ hi. Ok (array_of_shape (One lo hi) item))
formal_shape (Open2 lo hi lo2 hi2 item) sent =
    with_ok (high_bound lo hi (sent_extent sent).0) (λ last.
    with_ok (high_bound lo2 hi2 (sent_extent sent).1) (λ last2.
    Ok (array_of_shape (Two lo last lo2 last2) item)))
