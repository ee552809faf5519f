-- The text of a journal, of both versions. Only the second tells of time.
use Rattle.std.specs.Prelude.{ℕ, ◌≤◌, ◌<◌, ◌^◌, ◌==◌, Bool, true, false, List, [], ◌∷◌, length, map, codes}
use Rattle.std.specs.List.{concat, AllByRecursion}
use Rattle.std.specs.Str.{IsUtf8}
use Rattle.sr_ask.specs.declared.item.Item.{Item}
use Rattle.sr_ask.specs.declared.item.Item.TheVariants.{Step, Quiesce, Tick}
use Rattle.sr_journal.specs.declared.header.Header.{Header}
use Rattle.sr_journal.specs.Numbers.{number_text}

-- each line ends with this
abbrev pub newline : List ℕ
newline = 10 ∷ []

abbrev pub blank : List ℕ
blank = 32 ∷ []

-- the first line of a version
abbrev pub version_line : ℕ → List ℕ
version_line version = concat (codes "SRJ" ∷ number_text version ∷ newline ∷ [])

-- a file: how many bytes it has, how many its name has, and its name
abbrev pub file_line : ℕ × List ℕ → List ℕ
file_line file = concat (number_text file.0 ∷ blank ∷ number_text (length file.1) ∷ blank ∷ file.1 ∷ newline ∷ [])

-- how many files there are, and a line for each
abbrev pub files_text : List (ℕ × List ℕ) → List ℕ
files_text files = concat (codes "files " ∷ number_text (length files) ∷ newline ∷ map file_line files)

-- the most steps and the most ticks
abbrev pub limits_line : ℕ → ℕ → List ℕ
limits_line steps ticks = concat (codes "steps " ∷ number_text steps ∷ codes " ticks " ∷ number_text ticks ∷ newline ∷ [])

abbrev pub item_line : Item → List ℕ
item_line (Step actor name) = concat (codes "s " ∷ number_text actor ∷ blank ∷ number_text name ∷ newline ∷ [])
item_line (Quiesce name) = concat (codes "q " ∷ number_text name ∷ newline ∷ [])
item_line (Tick to) = concat (codes "t " ∷ number_text to ∷ newline ∷ [])

-- how many items there are, and a line for each
abbrev pub items_text : List Item → List ℕ
items_text items = concat (codes "items " ∷ number_text (length items) ∷ newline ∷ map item_line items)

-- the bytes of a journal of a version
abbrev pub version_text : ℕ → Header → List Item → List ℕ
version_text version header items =
    concat (version_line version ∷ files_text header.files ∷ limits_line header.steps header.ticks ∷ items_text items ∷ codes "end" ∷ newline ∷ [])

-- the bytes of a journal as it is written
abbrev pub journal_text : Header → List Item → List ℕ
journal_text header items = version_text 1 header items

-- a file has at most a mebibyte, and its name is text
abbrev pub IsFile : ℕ × List ℕ → Type 0
IsFile file = (file.0 ≤ 1048576) × IsUtf8 file.1

abbrev pub IsVersion : ℕ → Type 0
IsVersion version = (1 ≤ version) × (version ≤ 2)

-- whether the items of a version tell of time
abbrev pub tells_time : ℕ → Bool
tells_time version = version == 2

-- time comes to a moment after the first, 0; none passes where it isn't told of
abbrev pub IsMoment : Bool → ℕ → Type 0
IsMoment true to = (1 ≤ to) × (to ≤ 2147483647)
IsMoment false to = ⊥

-- a step is made by a process, and processes are numbered from 1
abbrev pub IsItemOf : Bool → Item → Type 0
IsItemOf timed (Step actor name) = (1 ≤ actor) × (actor < 2 ^ 32) × (name < 2 ^ 32)
IsItemOf timed (Quiesce name) = name < 2 ^ 32
IsItemOf timed (Tick to) = IsMoment timed to

-- an item of a journal that is written
abbrev pub IsItem : Item → Type 0
IsItem item = IsItemOf false item

-- what a journal can hold whose items tell of time or don't
pub record IsWithin (timed : Bool) (header : Header) (items : List Item) : Type 0 where
  pub some_file : 1 ≤ length header.files
  pub few_files : length header.files ≤ 64
  pub each_file : AllByRecursion IsFile header.files
  pub some_steps : 1 ≤ header.steps
  pub few_steps : header.steps ≤ 16000000
  pub some_ticks : 1 ≤ header.ticks
  pub few_ticks : header.ticks ≤ 1000000000
  pub few_items : length items ≤ header.steps
  pub each_item : AllByRecursion (IsItemOf timed) items

-- what a journal that is written can hold
abbrev pub IsInRange : Header → List Item → Type 0
IsInRange header items = IsWithin false header items
