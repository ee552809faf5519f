-- Of the first items, so many, the last one that has a number. Items are counted from 0.
use Rattle.std.specs.Prelude.{◌≡◌, ◌≢◌, ◌<◌, ℕ, Option, Some, None, nat_eq}
use Rattle.std.specs.HashMap.{get}
use Rattle.sr_clock_rows.specs.declared.lasts.Lasts.{Lasts}

pub record IsLast (numbers : ℕ → ℕ) (count number i : ℕ) : Type 0 where
  pub earlier : i < count
  pub has : numbers i ≡ number
  pub none_later : (k : ℕ) → i < k → k < count → numbers k ≢ number

-- the last item that has the number, or there is none
abbrev pub IsLastIf : (ℕ → ℕ) → ℕ → ℕ → Option ℕ → Type 0
IsLastIf numbers count number None = (k : ℕ) → k < count → numbers k ≢ number
IsLastIf numbers count number (Some i) = IsLast numbers count number i

abbrev pub last_in : Lasts → ℕ → Option ℕ
last_in lasts number = get nat_eq lasts.items number

-- the last items are kept of each number but 0, where each item has a number or 0
pub record AreLasts (numbers : ℕ → ℕ) (count : ℕ) (lasts : Lasts) : Type 0 where
  pub each : (number : ℕ) → 0 < number → IsLastIf numbers count number (last_in lasts number)
  pub none : last_in lasts 0 ≡ None
