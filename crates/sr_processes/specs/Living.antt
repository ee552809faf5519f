-- The processes that haven't ended.
use Rattle.std.specs.Prelude.{ℕ, Bool, not, ◌==◌, List, find, filter, map, Option, IsSome}
use Rattle.std.specs.List.{list_any}
use Rattle.sr_ask.specs.declared.start.Start.{Start}

-- the processes in the order of their making, and how many more are added without memory
pub record Living : Type 0 where
  pub starts : List Start
  pub room : ℕ

abbrev pub is_process : ℕ → Start → Bool
is_process process start = process == start.process

-- a process is known by its number
abbrev pub start_of : List Start → ℕ → Option Start
start_of starts process = find (is_process process) starts

abbrev pub IsLive : List Start → ℕ → Type 0
IsLive starts process = IsSome (start_of starts process)

-- a process that ends leaves the list
abbrev pub without_process : List Start → ℕ → List Start
without_process starts process = filter (λ start. not (is_process process start)) starts

-- the processes that run the code of an instance
abbrev pub numbers_in : List Start → ℕ → List ℕ
numbers_in starts instance = map (λ start. start.process) (filter (λ start. instance == start.instance) starts)

abbrev pub numbers_of : List Start → List ℕ
numbers_of starts = map (λ start. start.process) starts

-- a process whose number stands in a list
abbrev pub is_among : List ℕ → Start → Bool
is_among numbers start = list_any (λ n. n == start.process) numbers
