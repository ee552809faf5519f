-- The arguments of each command, as the parser of the words is given them, and what its matches say.
use Rattle.std.specs.Prelude.{◌≡◌, true, false, List, [], ◌∷◌, ◌++◌, map, codes, Option, Some, None, unwrap_or, Bool, ⊤, ◌⊎◌}
use Rattle.std.specs.Str.{bytes_eq}
use Rattle.clap.specs.Matches.{found_of}
use Rattle.clap.specs.Simple.{App, new_rule, new_shape}
use Rattle.clap.specs.Walk.{Row, Rule, Text, all_of, first_of, one_of, rows_of}
use Rattle.clap.specs.declared.builder.action.ArgAction.{ArgAction}
use Rattle.clap.specs.declared.builder.action.ArgAction.TheVariants.{Set, Append, SetTrue}
use Rattle.clap.specs.declared.parser.matches.ArgMatches.{ArgMatches}
use Rattle.sr_words.specs.Commands.{Taken}
use Rattle.sr_words.specs.Options.{flag_name, option_name}
use Rattle.sr_words.specs.declared.options.CommandOption.{CommandOption}
use Rattle.sr_words.specs.declared.options.CommandOption.TheVariants.{Number, Switch}
use Rattle.sr_words.specs.declared.options.Flag.{Flag}

-- ---- what the parser is given

-- one value at most once, or no value at most once
abbrev pub action_of : CommandOption → ArgAction
action_of (Number setting) = Set
action_of (Switch flag) = SetTrue

abbrev pub option_argument : CommandOption → Rule
option_argument option = record (new_rule (option_name option)) { long = Some (option_name option); action = Some (action_of option) }

-- the words that are no options
abbrev pub word_argument : Rule
word_argument = record (new_rule (codes "word")) { action = Some Append }

-- a parser with these arguments, whose words have no name of a program before them, and which answers no call for help
abbrev pub parser_with : List Rule → App
parser_with arguments = record {
  top = record (new_shape (codes "sr")) { rules = arguments; no_binary_name = true; disable_help_flag = true };
  subs = [];
}

-- the parser of a command with these options
abbrev pub parser_for : List CommandOption → App
parser_for options = parser_with (map option_argument options ++ word_argument ∷ [])

-- ---- what its matches say

-- whether a flag is given
abbrev pub is_true : Option Text → Bool
is_true None = false
is_true (Some text) = bytes_eq text (codes "true")

abbrev pub taken_in : List Row → Taken
taken_in rows = record {
  workers = first_of (codes "workers") rows;
  steps = first_of (codes "steps") rows;
  ticks = first_of (codes "ticks") rows;
  upto = first_of (codes "upto") rows;
  journal = is_true (one_of (codes "journal") rows);
  places = is_true (one_of (codes "where") rows);
  picture = is_true (one_of (codes "picture") rows);
  words = unwrap_or (all_of (codes "word") rows) [];
}

abbrev pub taken_from : ArgMatches → Taken
taken_from matches = taken_in (rows_of (found_of matches))

-- a flag is true, false or left out
abbrev pub IsFlag : Option Text → Type 0
IsFlag None = ⊤
IsFlag (Some text) = (text ≡ codes "true") ⊎ (text ≡ codes "false")

abbrev pub HasFlagsIn : List Row → Type 0
HasFlagsIn rows = (flag : Flag) → IsFlag (one_of (flag_name flag) rows)

abbrev pub HasFlags : ArgMatches → Type 0
HasFlags matches = HasFlagsIn (rows_of (found_of matches))
