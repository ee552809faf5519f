-- What the words of a call ask for.
use Rattle.std.specs.Prelude.{ℕ, Bool, false, List, [], ◌∷◌, codes, Option, None, Some, option_and_then, unwrap_or}
use Rattle.std.specs.Option.{option_map}
use Rattle.sr_words.specs.Commands.{command_of, default_of}
use Rattle.sr_words.specs.declared.command.Command.{Command}
use Rattle.sr_words.specs.declared.command.Command.TheVariants.{Run, Check, Classes, Fmt, Gen, Replay, Races, Trace}
use Rattle.sr_words.specs.declared.options.Setting.TheVariants.{Steps, Ticks}
use Rattle.sr_top.specs.declared.question.Question.{Question}
use Rattle.sr_top.specs.declared.question.Question.TheVariants as question

-- where a program comes from
pub data Origin : Type 0 where
  -- the files of these names
  Named : List (List ℕ) → Origin
  -- the sample of this seed
  Sampled : ℕ → Origin

pub data Task : Type 0 where
  -- run the program by so many workers, with at most so many items, and so many ticks of a process between two answers;
  -- and keep a journal of the run, or none
  Runs : Origin → ℕ → ℕ → ℕ → Bool → Task
  -- say whether these files are a program
  Checks : List (List ℕ) → Task
  -- write the classes of the operations of the program in these files
  ListsClasses : List (List ℕ) → Task
  -- replay the journal of this name, over the program in these files, and answer this question
  Replays : List ℕ → List (List ℕ) → Question → Task
  -- write this file in the one style
  LaysOut : List ℕ → Task

-- the task of a command; a sample is run with the limits that hold where the words give none
abbrev pub task_of : Command → Task
task_of (Run files workers steps ticks journal) = Runs (Named files) workers steps ticks journal
task_of (Check files) = Checks files
task_of (Classes files) = ListsClasses files
task_of (Gen seed workers) = Runs (Sampled seed) workers (default_of Steps) (default_of Ticks) false
task_of (Replay journal files upto places) = Replays journal files (question.Seen (record { upto = upto; places = places }))
task_of (Races journal files) = Replays journal files question.Races
task_of (Trace journal files upto picture) = Replays journal files (question.Trace (record { upto = upto; picture = picture }))
task_of (Fmt file) = LaysOut file

-- the task that the words give
abbrev pub task : List (List ℕ) → Option Task
task words = option_map task_of (command_of words)

-- ---- the files

-- Where the program comes from that is run, checked or listed. A replay has an order of its own in which it reads, and a
-- file that is laid out needn't be a program.
abbrev pub origin_of : Task → Option Origin
origin_of (Runs origin workers steps ticks journal) = Some origin
origin_of (Checks files) = Some (Named files)
origin_of (ListsClasses files) = Some (Named files)
origin_of (Replays journal files question) = None
origin_of (LaysOut file) = None

-- where that program comes from, by the words
abbrev pub origin_in : List (List ℕ) → Option Origin
origin_in words = option_and_then origin_of (task words)

-- the name of the one file of a sample
abbrev pub sample_name : List ℕ
sample_name = codes "gen.sr"

abbrev pub names_of : Origin → List (List ℕ)
names_of (Named names) = names
names_of (Sampled seed) = sample_name ∷ []

-- the names of the files, but for the journal
abbrev pub names_in : Task → List (List ℕ)
names_in (Runs origin workers steps ticks journal) = names_of origin
names_in (Checks files) = files
names_in (ListsClasses files) = files
names_in (Replays journal files question) = files
names_in (LaysOut file) = file ∷ []

abbrev pub file_names : List (List ℕ) → List (List ℕ)
file_names words = unwrap_or (option_map names_in (task words)) []

-- the name of the journal that is replayed
abbrev pub replayed_by : Task → Option (List ℕ)
replayed_by (Replays journal files question) = Some journal
replayed_by _ = None

abbrev pub replayed_journal : List (List ℕ) → Option (List ℕ)
replayed_journal words = option_and_then replayed_by (task words)

-- ---- the journal

abbrev pub keeps_journal : Task → Bool
keeps_journal (Runs origin workers steps ticks journal) = journal
keeps_journal (Checks files) = false
keeps_journal (ListsClasses files) = false
keeps_journal (Replays journal files question) = false
keeps_journal (LaysOut file) = false

-- whether the words ask for a journal
abbrev pub journal_asked : List (List ℕ) → Bool
journal_asked words = unwrap_or (option_map keeps_journal (task words)) false
