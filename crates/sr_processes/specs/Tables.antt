-- The table in which processes are found: a seat for each number, which is empty once the process has ended.
use Rattle.std.specs.Prelude.{◌≡◌, ℕ, List, [], ◌∷◌, Option, None, Some, IfSome, ◌==◌, if◌then◌else◌, length, nat_eq}
use Rattle.std.specs.List.{IsDistinct, filter_map}
use Rattle.std.specs.Map.{keys_of, values_of}
use Rattle.sr_ask.specs.declared.start.Start.{Start}

-- the processes that sit in seats
abbrev pub seated : List (Option Start) → List Start
seated seats = filter_map (λ seat. seat) seats

-- the processes of a table, in the order of its seats
abbrev pub starts_in : List (ℕ × Option Start) → List Start
starts_in entries = seated (values_of entries)

-- each process sits in the seat of its number
abbrev pub IsNumbered : List (ℕ × Option Start) → Type 0
IsNumbered [] = Unit {0}
IsNumbered (entry ∷ entries) = IfSome entry.1 (λ start. entry.0 ≡ start.process) × IsNumbered entries

-- and no number has two seats
pub record IsTable (entries : List (ℕ × Option Start)) : Type 0 where
  pub numbered : IsNumbered entries
  pub distinct : IsDistinct nat_eq (keys_of entries)

-- a table, and how many live
pub record IsCounted (entries : List (ℕ × Option Start)) (living : ℕ) : Type 0 where
  pub table : IsTable entries
  pub counted : living ≡ length (starts_in entries)

-- the number of the process in a seat, where it runs the code of an instance
abbrev pub number_in : ℕ → Option Start → Option ℕ
number_in instance None = None
number_in instance (Some start) = if instance == start.instance then Some start.process else None
