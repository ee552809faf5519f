-- The options of each command, and how they are written.
use Rattle.std.specs.Prelude.{ℕ, List, [], ◌∷◌, codes, find, Option}
use Rattle.std.specs.Str.{bytes_eq}
use Rattle.sr_words.specs.declared.options.CommandOption.{CommandOption}
use Rattle.sr_words.specs.declared.options.CommandOption.TheVariants.{Number, Switch}
use Rattle.sr_words.specs.declared.options.Flag.{Flag}
use Rattle.sr_words.specs.declared.options.Flag.TheVariants.{Journal, Where, Picture}
use Rattle.sr_words.specs.declared.options.Setting.{Setting}
use Rattle.sr_words.specs.declared.options.Setting.TheVariants.{Workers, Steps, Ticks, Upto}
use Rattle.sr_words.specs.declared.verb.Verb.{Verb}
use Rattle.sr_words.specs.declared.verb.Verb.TheVariants.{Run, Check, Classes, Fmt, Gen, Replay, Races, Trace}

-- the options of each command
abbrev pub options_of : Verb → List CommandOption
options_of Run = Number Workers ∷ Number Steps ∷ Number Ticks ∷ Switch Journal ∷ []
options_of Check = []
options_of Classes = []
options_of Fmt = []
options_of Gen = Number Workers ∷ []
options_of Replay = Number Upto ∷ Switch Where ∷ []
options_of Races = []
options_of Trace = Number Upto ∷ Switch Picture ∷ []

-- what stands after the dashes of an option that takes a number
abbrev pub setting_name : Setting → List ℕ
setting_name Workers = codes "workers"
setting_name Steps = codes "steps"
setting_name Ticks = codes "ticks"
setting_name Upto = codes "upto"

-- what stands after the dashes of an option that takes no value
abbrev pub flag_name : Flag → List ℕ
flag_name Journal = codes "journal"
flag_name Where = codes "where"
flag_name Picture = codes "picture"

-- what stands after the dashes of an option
abbrev pub option_name : CommandOption → List ℕ
option_name (Number setting) = setting_name setting
option_name (Switch flag) = flag_name flag

-- the option of this name among some; names are never shortened
abbrev pub option_named : List CommandOption → List ℕ → Option CommandOption
option_named options name = find (λ option. bytes_eq (option_name option) name) options
