-- At which spots accesses are noted, and at which those are looked for that may conflict with one. Two accesses that conflict
-- meet at a spot; others may meet there too.
use Rattle.std.specs.Prelude.{◌+◌, ◌*◌, ◌%◌, ◌^◌, ℕ, Bool, true, false, List, [], ◌∷◌, ◌++◌, map}
use Rattle.std.specs.Int.{cast_unsigned, w32}
use Rattle.sr_value.specs.declared.shape.Sel.{Sel}
use Rattle.sr_value.specs.declared.shape.Sel.TheVariants.{At, At2, Field}
use Rattle.sr_races.specs.Origins.{one_if}
use Rattle.sr_races.specs.declared.access.Access.{Access}

-- ---- keys

-- one number of two
unfoldable pub mixed : ℕ → ℕ → ℕ
mixed key number = ((key * 1000003) % 2 ^ 32 + number) % 2 ^ 32

unfoldable pub key_after : ℕ → Sel → ℕ
key_after key (At index) = mixed key (cast_unsigned w32 index)
key_after key (At2 index other) = mixed (mixed key (cast_unsigned w32 index)) (cast_unsigned w32 other)
key_after key (Field number) = mixed key number

-- the keys of the parts that a way leads through before its end
abbrev pub keys_on : ℕ → List Sel → List ℕ
keys_on key [] = []
keys_on key (sel ∷ path) = key ∷ keys_on (key_after key sel) path

-- the key of its end
abbrev pub last_key : ℕ → List Sel → ℕ
last_key key [] = key
last_key key (sel ∷ path) = last_key (key_after key sel) path

abbrev pub first_key : Access → ℕ
first_key access = mixed access.block access.var

-- ---- spots, of so many

-- A spot for what is read or written in a part, or there and in parts of that.
unfoldable pub spot_of : ℕ → Bool → Bool → ℕ → ℕ
spot_of count below writes key = mixed (mixed key (one_if below)) (one_if writes) % count

-- an access is noted below each part that its way leads through, below its own, and at its own
abbrev pub noted_at : ℕ → Access → List ℕ
noted_at count access =
    (map (spot_of count true access.writes) (keys_on (first_key access) access.path)
    ++ spot_of count true access.writes (last_key (first_key access) access.path) ∷ [])
    ++ spot_of count false access.writes (last_key (first_key access) access.path) ∷ []

-- those that read, or those that write, are looked for at each part that the way leads through, and below its own
abbrev pub looked_with : ℕ → Bool → Access → List ℕ
looked_with count writes access =
    map (spot_of count false writes) (keys_on (first_key access) access.path)
    ++ spot_of count true writes (last_key (first_key access) access.path) ∷ []

-- what only reads conflicts with those that write alone
abbrev pub read_at : ℕ → Bool → Access → List ℕ
read_at count true access = looked_with count false access
read_at count false access = []

abbrev pub looked_at : ℕ → Access → List ℕ
looked_at count access = looked_with count true access ++ read_at count access.writes access
