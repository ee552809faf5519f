-- The command that the words after the program's name give. The first is the name of the command, exactly as written.
-- In the rest an option may stand anywhere before a word `--`, is written `--x v` or `--x=v`, and stands at most once;
-- `--journal`, `--where` and `--picture` take no value and are written alone. Each other word is a file, a journal or a seed.
use Rattle.std.specs.Prelude.{ℕ, ◌&&◌, Bool, true, false, nat_le, List, [], ◌∷◌, ◌++◌, length, Option, Some, None, is_some, if◌then◌else◌, option_and_then}
use Rattle.std.specs.Option.{option_map}
use Rattle.sr_words.specs.Numbers.{number_within}
use Rattle.sr_words.specs.Options.{options_of}
use Rattle.sr_words.specs.Parts.{Part, plain, switch, given, parts}
use Rattle.sr_words.specs.Verbs.{verb_of}
use Rattle.sr_words.specs.declared.command.Command.{Command}
use Rattle.sr_words.specs.declared.command.Command.TheVariants as command
use Rattle.sr_words.specs.declared.options.Flag.{Flag}
use Rattle.sr_words.specs.declared.options.Flag.TheVariants.{Journal, Where, Picture}
use Rattle.sr_words.specs.declared.options.Setting.{Setting}
use Rattle.sr_words.specs.declared.options.Setting.TheVariants.{Workers, Steps, Ticks, Upto}
use Rattle.sr_words.specs.declared.verb.Verb.{Verb}
use Rattle.sr_words.specs.declared.verb.Verb.TheVariants.{Run, Check, Classes, Fmt, Gen, Replay, Races, Trace}

-- what the words say: the value of each option that takes one and is given, whether `--journal`, `--where` and `--picture`
-- are, and the words that are no options
pub record Taken : Type 0 where
  pub workers : Option (List ℕ)
  pub steps : Option (List ℕ)
  pub ticks : Option (List ℕ)
  pub upto : Option (List ℕ)
  pub journal : Bool
  pub places : Bool
  pub picture : Bool
  pub words : List (List ℕ)

abbrev pub nothing_taken : Taken
nothing_taken = record { workers = None; steps = None; ticks = None; upto = None; journal = false; places = false; picture = false; words = [] }

-- the value of an option
abbrev pub value_in : Setting → Taken → Option (List ℕ)
value_in Workers t = t.workers
value_in Steps t = t.steps
value_in Ticks t = t.ticks
value_in Upto t = t.upto

abbrev pub with_value : Setting → List ℕ → Taken → Taken
with_value Workers value t = record t { workers = Some value }
with_value Steps value t = record t { steps = Some value }
with_value Ticks value t = record t { ticks = Some value }
with_value Upto value t = record t { upto = Some value }

-- whether an option without a value is given
abbrev pub flag_in : Flag → Taken → Bool
flag_in Journal t = t.journal
flag_in Where t = t.places
flag_in Picture t = t.picture

abbrev pub with_flag : Flag → Taken → Taken
with_flag Journal t = record t { journal = true }
with_flag Where t = record t { places = true }
with_flag Picture t = record t { picture = true }

-- one more part; an option stands at most once
abbrev pub take_one : Taken → Part → Option Taken
take_one t (plain word) = Some (record t { words = t.words ++ word ∷ [] })
take_one t (switch flag) = if flag_in flag t then None else Some (with_flag flag t)
take_one t (given setting value) = if is_some (value_in setting t) then None else Some (with_value setting value t)

abbrev pub take_all : Taken → List Part → Option Taken
take_all t [] = Some t
take_all t (part ∷ parts) = option_and_then (λ next. take_all next parts) (take_one t part)

-- what the words after the name of a command say
abbrev pub taken_of : Verb → List (List ℕ) → Option Taken
taken_of verb words = option_and_then (take_all nothing_taken) (parts (options_of verb) None words)

-- the least number of an option
abbrev pub least_of : Setting → ℕ
least_of Workers = 1
least_of Steps = 1
least_of Ticks = 1
least_of Upto = 0

-- the greatest number of an option
abbrev pub most_of : Setting → ℕ
most_of Workers = 16
most_of Steps = 16000000
most_of Ticks = 1000000000
most_of Upto = 16000000

-- the number of an option that isn't given
abbrev pub default_of : Setting → ℕ
default_of Workers = 1
default_of Steps = 1000000
default_of Ticks = 10000000
default_of Upto = 16000000

-- the number of an option: its value is a number from the least to the greatest
abbrev pub setting_number : Setting → Option (List ℕ) → Option ℕ
setting_number setting None = Some (default_of setting)
setting_number setting (Some value) = number_within (least_of setting) (most_of setting) value

-- 1 to 64 files
abbrev pub files_of : List (List ℕ) → Option (List (List ℕ))
files_of words = if nat_le 1 (length words) && nat_le (length words) 64 then Some words else None

-- one file
abbrev pub file_of : List (List ℕ) → Option (List ℕ)
file_of [] = None
file_of (word ∷ []) = Some word
file_of (word ∷ other ∷ words) = None

-- one seed
abbrev pub seed_of : List (List ℕ) → Option ℕ
seed_of [] = None
seed_of (word ∷ []) = number_within 0 4294967295 word
seed_of (word ∷ other ∷ words) = None

abbrev pub run_command : Taken → Option Command
run_command t =
    option_and_then (λ workers. option_and_then (λ steps. option_and_then (λ ticks. option_map
    (λ files. command.Run files workers steps ticks t.journal)
    (files_of t.words))
    (setting_number Ticks t.ticks))
    (setting_number Steps t.steps))
    (setting_number Workers t.workers)

abbrev pub gen_command : Taken → Option Command
gen_command t =
    option_and_then (λ workers. option_map
    (λ seed. command.Gen seed workers)
    (seed_of t.words))
    (setting_number Workers t.workers)

-- a journal, and 1 to 64 files
abbrev pub recorded_of : List (List ℕ) → Option (List ℕ × List (List ℕ))
recorded_of [] = None
recorded_of (word ∷ words) = option_map (λ files. (word, files)) (files_of words)

abbrev pub replay_command : Taken → Option Command
replay_command t =
    option_and_then (λ upto. option_map
    (λ recorded. command.Replay recorded.0 recorded.1 upto t.places)
    (recorded_of t.words))
    (setting_number Upto t.upto)

abbrev pub races_command : Taken → Option Command
races_command t = option_map (λ recorded. command.Races recorded.0 recorded.1) (recorded_of t.words)

abbrev pub trace_command : Taken → Option Command
trace_command t =
    option_and_then (λ upto. option_map
    (λ recorded. command.Trace recorded.0 recorded.1 upto t.picture)
    (recorded_of t.words))
    (setting_number Upto t.upto)

-- the command of a name, where the words say this
abbrev pub verb_command : Verb → Taken → Option Command
verb_command Run t = run_command t
verb_command Check t = option_map (λ files. command.Check files) (files_of t.words)
verb_command Classes t = option_map (λ files. command.Classes files) (files_of t.words)
verb_command Fmt t = option_map (λ file. command.Fmt file) (file_of t.words)
verb_command Gen t = gen_command t
verb_command Replay t = replay_command t
verb_command Races t = races_command t
verb_command Trace t = trace_command t

-- the command of all words: the first is the name
abbrev pub command_of : List (List ℕ) → Option Command
command_of [] = None
command_of (word ∷ words) = option_and_then (λ verb. option_and_then (verb_command verb) (taken_of verb words)) (verb_of word)
