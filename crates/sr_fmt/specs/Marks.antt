-- Marks at bytes.
use Rattle.std.specs.Prelude.{◌≡◌, ◌<◌, ℕ, Bool, false, List, slice_index_or}
use Rattle.sr_value.specs.declared.place.Span.{Span}
use Rattle.sr_fmt.specs.Canonical.{begins_at}

-- whether the byte has a mark
abbrev pub marked : List Bool → ℕ → Bool
marked marks at = slice_index_or marks at false

-- of so many bytes those are marked at which one of the spans begins
abbrev pub AreMarked : ℕ → List Span → List Bool → Type 0
AreMarked len spans marks = (at : ℕ) → at < len → marked marks at ≡ begins_at spans at
