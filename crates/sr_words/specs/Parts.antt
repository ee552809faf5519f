-- The parts of the words after the command: words that are no options, options without a value, and options with theirs.
use Rattle.std.specs.Prelude.{ℕ, ◌==◌, not, Bool, true, List, [], ◌∷◌, map, codes, Option, Some, None, if◌then◌else◌, option_and_then}
use Rattle.std.specs.Option.{option_map}
use Rattle.std.specs.List.{before_first, after_first, list_any}
use Rattle.std.specs.Str.{bytes_eq}
use Rattle.sr_words.specs.Options.{option_named}
use Rattle.sr_words.specs.declared.options.CommandOption.{CommandOption}
use Rattle.sr_words.specs.declared.options.CommandOption.TheVariants.{Number, Switch}
use Rattle.sr_words.specs.declared.options.Flag.{Flag}
use Rattle.sr_words.specs.declared.options.Setting.{Setting}

pub data Part : Type 0 where
  plain : List ℕ → Part
  switch : Flag → Part
  given : Setting → List ℕ → Part

-- ---- one word

-- the word that ends the options
abbrev pub is_separator : List ℕ → Bool
is_separator word = bytes_eq word (codes "--")

-- a word that doesn't begin with a dash, or is a dash alone, is no option
abbrev pub is_plain : List ℕ → Bool
is_plain [] = true
is_plain (byte ∷ []) = true
is_plain (byte ∷ next ∷ bytes) = not (byte == 45)

-- what follows a dash
abbrev pub past_dash : List ℕ → Option (List ℕ)
past_dash [] = None
past_dash (byte ∷ bytes) = if byte == 45 then Some bytes else None

-- what stands before the first `=`, and what stands after it where there is one
abbrev pub name_and_value : List ℕ → List ℕ × Option (List ℕ)
name_and_value text = (
  before_first (λ byte. byte == 61) text,
  if list_any (λ byte. byte == 61) text then Some (after_first (λ byte. byte == 61) text) else None,
)

-- the name and the value of `x` and `x=v`; of no text there are none
abbrev pub named : List ℕ → Option (List ℕ × Option (List ℕ))
named [] = None
named (byte ∷ bytes) = Some (name_and_value (byte ∷ bytes))

-- the name and the value of `--x` and `--x=v`
abbrev pub option_in : List ℕ → Option (List ℕ × Option (List ℕ))
option_in word = option_and_then named (option_and_then past_dash (past_dash word))

-- what a word before `--` is by itself: `--`, a part, an option whose value is the next word, or none of these
pub data WordKind : Type 0 where
  separator : WordKind
  part : Part → WordKind
  waiting : Setting → WordKind
  unknown : WordKind

-- an option of the command, if it is one, without a value or with one after `=`
abbrev pub option_kind : Option CommandOption → Option (List ℕ) → WordKind
option_kind None value = unknown
option_kind (Some (Number setting)) None = waiting setting
option_kind (Some (Number setting)) (Some value) = part (given setting value)
option_kind (Some (Switch flag)) None = part (switch flag)
option_kind (Some (Switch flag)) (Some value) = unknown

-- a word that begins with a dash, of which `found` is the name and the value
abbrev pub dashed_kind : List CommandOption → Option (List ℕ × Option (List ℕ)) → WordKind
dashed_kind options None = unknown
dashed_kind options (Some found) = option_kind (option_named options found.0) found.1

abbrev pub word_kind : List CommandOption → List ℕ → WordKind
word_kind options word =
    if is_separator word then separator
    else if is_plain word then part (plain word)
    else dashed_kind options (option_in word)

-- ---- all words

-- the parts, where there are any, with one more before them
abbrev pub with_part : Part → Option (List Part) → Option (List Part)
with_part first parts = option_map (λ others. first ∷ others) parts

-- the parts of the words; an option before them may wait for its value, which is the first of them.
-- After `--` each word is plain
abbrev pub parts : List CommandOption → Option Setting → List (List ℕ) → Option (List Part)
parts options None [] = Some []
parts options (Some setting) [] = None
parts options (Some setting) (word ∷ words) = if is_plain word then with_part (given setting word) (parts options None words) else None
parts options None (word ∷ words) =
    elim (word_kind options word) [
      | separator ↦ Some (map plain words)
      | part own ↦ with_part own (parts options None words)
      | waiting setting ↦ parts options (Some setting) words
      | unknown ↦ None
    ]
