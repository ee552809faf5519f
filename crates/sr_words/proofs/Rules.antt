-- The arguments of a command as the parser has them.
use Rattle.std.proofs.Common.{◌≡◌, ◌∙◌, ℕ, Bool, true, false, List, [], ◌∷◌, ◌++◌, map, take, length, get_or, ◌<◌, ◌+◌, refl, sym, ap, subst, codes, Option, Some, None, true≢false}
use Rattle.std.specs.Prelude.{◌||◌, ◌&&◌, not, cond, count_by, is_some}
use Rattle.std.specs.List.{list_all, list_any}
use Rattle.std.specs.Option.{option_map}
use Rattle.std.specs.Str.{bytes_eq}
use Rattle.std.proofs.lemmas.List.{map-append, take_more}
use Rattle.std.proofs.lemmas.Slice.Eq.{bytes_eq-Decides}
use Rattle.clap.specs.Walk.{Row, Rule, Text, arg_by_id, arg_by_long, arg_by_short, arg_by_index, is_early_multiple}
use Rattle.clap.specs.Simple.{App, Shape, built, filled, filled_from, is_buildable, is_ready, is_ready_leaf, is_simple, new_shape, with_index}
use Rattle.clap.specs.Faults.{has_free_rules, is_simple_and_free}
use Rattle.clap.specs.Takes.{is_given}
use Rattle.sr_words.specs.Arguments.{option_argument, parser_for, word_argument}
use Rattle.sr_words.specs.Options.{option_name, option_named, setting_name}
use Rattle.sr_words.specs.declared.options.CommandOption.{CommandOption}
use Rattle.sr_words.specs.declared.options.CommandOption.TheVariants.{Number, Switch}
use Rattle.sr_words.specs.declared.options.Flag.{Flag}
use Rattle.sr_words.specs.declared.options.Setting.{Setting}
use Rattle.sr_words.proofs.Settings.{own_flag, own_name}

-- as the parser fills them in
abbrev pub option_rule : CommandOption → Rule
option_rule option = filled (option_argument option)

abbrev pub setting_rule : Setting → Rule
setting_rule s = option_rule (Number s)

abbrev pub flag_rule : Flag → Rule
flag_rule flag = option_rule (Switch flag)

abbrev pub word_rule : Rule
word_rule = with_index 1 (filled word_argument)

abbrev pub rules : List CommandOption → List Rule
rules options = map option_rule options ++ word_rule ∷ []

abbrev pub shape_for : List CommandOption → Shape
shape_for options = record (new_shape (codes "sr")) {
  rules = rules options;
  no_binary_name = true;
  disable_help_flag = true;
  disable_help_subcommand = true;
  is_built = true;
}

abbrev pub built_for : List CommandOption → App
built_for options = record { top = shape_for options; subs = [] }

-- the arguments of one more option
pub arguments_more : (options : List CommandOption) (i : ℕ) (other : CommandOption) → i < length options
    → map option_argument (take (i + 1) options) ≡ map option_argument (take i options) ++ option_argument (get_or options i other) ∷ []
arguments_more options i other within =
    ap (map option_argument) (take_more options i other within) ∙ map-append option_argument (take i options) (get_or options i other ∷ [])

filled_rules : (options : List CommandOption) → filled_from 1 (map option_argument options ++ word_argument ∷ []) ≡ rules options
filled_rules [] = refl
filled_rules (option ∷ options) = ap (λ rest. option_rule option ∷ rest) (filled_rules options)

pub is_built_for : (options : List CommandOption) → built (parser_for options) ≡ built_for options
is_built_for options = ap (λ filled. record {
  top = record (new_shape (codes "sr")) {
    rules = filled;
    no_binary_name = true;
    disable_help_flag = true;
    disable_help_subcommand = true;
    is_built = true;
  };
  subs = [];
}) (filled_rules options)

-- ---- the parser is one of which `clap` says all

simple_arguments : (options : List CommandOption) → list_all (λ a. a.is_simple) (map option_argument options ++ word_argument ∷ []) ≡ true
simple_arguments [] = refl
simple_arguments (option ∷ options) = simple_arguments options

simple_rules : (options : List CommandOption) → list_all (λ a. a.is_simple) (rules options) ≡ true
simple_rules [] = refl
simple_rules (option ∷ options) = simple_rules options

free_rules : (options : List CommandOption) → list_all (λ a. a.is_free) (rules options) ≡ true
free_rules [] = refl
free_rules (option ∷ options) = free_rules options

one_positional : (options : List CommandOption) → count_by (λ a. is_some a.index) (rules options) ≡ 1
one_positional [] = refl
one_positional (option ∷ options) = one_positional options

none_early : (options : List CommandOption) → list_any (is_early_multiple 1) (rules options) ≡ false
none_early [] = refl
none_early (option ∷ options) = none_early options

pub none_required : (options : List CommandOption) (rows : List Row) → list_any (λ a. a.required && not (is_given a.id rows)) (rules options) ≡ false
none_required [] rows = refl
none_required (option ∷ options) rows = none_required options rows

abbrev SimpleAs : List CommandOption → App → Type 0
SimpleAs options b = (is_buildable (parser_for options) && (is_ready b.top && list_all is_ready_leaf b.subs)) ≡ true

simple_built : (options : List CommandOption) → SimpleAs options (built_for options)
simple_built options = rw (simple_arguments options, simple_rules options, one_positional options, none_early options) refl

pub is_simple_for : (options : List CommandOption) → is_simple (parser_for options) ≡ true
is_simple_for options = subst (SimpleAs options) (sym (is_built_for options)) (simple_built options)

free_for : (options : List CommandOption) → (has_free_rules (built (parser_for options)).top && list_all has_free_rules (built (parser_for options)).subs) ≡ true
free_for options =
    let free : (has_free_rules (built_for options).top && list_all has_free_rules (built_for options).subs) ≡ true = rw (free_rules options) refl in
    subst (λ b. (has_free_rules b.top && list_all has_free_rules b.subs) ≡ true) (sym (is_built_for options)) free

both_true : (a b : Bool) → a ≡ true → b ≡ true → (a && b) ≡ true
both_true a b e f = rw (e, f) refl

pub is_simple_and_free_for : (options : List CommandOption) → is_simple_and_free (parser_for options) ≡ true
is_simple_and_free_for options = both_true _ _ (is_simple_for options) (free_for options)

-- ---- the parser finds what the rule names

found_next : (b : Bool) (option : CommandOption) (rest : Option Rule) (named : Option CommandOption) → rest ≡ option_map option_rule named
    → cond (b || false) (Some (option_rule option)) rest ≡ option_map option_rule (cond b (Some option) named)
found_next true option rest named e = refl
found_next false option rest named e = e

pub long_for : (options : List CommandOption) (name : Text) → arg_by_long (rules options) name ≡ option_map option_rule (option_named options name)
long_for [] name = refl
long_for (option ∷ options) name = found_next (bytes_eq (option_name option) name) option _ _ (long_for options name)

pub short_for : (options : List CommandOption) (x : ℕ) → arg_by_short (rules options) x ≡ None
short_for [] x = refl
short_for (option ∷ options) x = short_for options x

no_word : (option : CommandOption) → bytes_eq (option_name option) (codes "word") ≡ false
no_word (Number s) = (own_name s).no_word
no_word (Switch flag) = (own_flag flag).no_word

pub word_id_for : (options : List CommandOption) → arg_by_id (rules options) (codes "word") ≡ Some word_rule
word_id_for [] = refl
word_id_for (option ∷ options) = rw (no_word option) (word_id_for options)

pub word_index_for : (options : List CommandOption) → arg_by_index (rules options) 1 ≡ Some word_rule
word_index_for [] = refl
word_index_for (option ∷ options) = word_index_for options

-- an option that has a name is found by it, as its id too
id_next : (options : List CommandOption) (name : Text) (found first : CommandOption) (b : Bool)
    → (option_named options name ≡ Some found → arg_by_id (rules options) name ≡ Some (option_rule found))
    → cond b (Some first) (option_named options name) ≡ Some found
    → cond b (Some (option_rule first)) (arg_by_id (rules options) name) ≡ Some (option_rule found)
id_next options name found first true later e = ap (option_map option_rule) e
id_next options name found first false later e = later e

id_named : (options : List CommandOption) (name : Text) (found : CommandOption) → option_named options name ≡ Some found
    → arg_by_id (rules options) name ≡ Some (option_rule found)
id_named [] name found e = absurd (true≢false (sym (ap (λ o. is_some o) e)))
id_named (first ∷ options) name found e =
    id_next options name found first (bytes_eq (option_name first) name) (id_named options name found) e

name_next : (options : List CommandOption) (name : Text) (found first : CommandOption) (b : Bool) → bytes_eq (option_name first) name ≡ b
    → (option_named options name ≡ Some found → name ≡ option_name found)
    → cond b (Some first) (option_named options name) ≡ Some found → name ≡ option_name found
name_next options name found first true same later e =
    let both : Some first ≡ Some found = e in
    let is : first ≡ found = cc in
    sym ((bytes_eq-Decides (option_name first) name).0 same) ∙ ap option_name is
name_next options name found first false same later e = later e

name_named : (options : List CommandOption) (name : Text) (found : CommandOption) → option_named options name ≡ Some found → name ≡ option_name found
name_named [] name found e = absurd (true≢false (sym (ap (λ o. is_some o) e)))
name_named (first ∷ options) name found e =
    name_next options name found first (bytes_eq (option_name first) name) refl (name_named options name found) e

pub id_for : (options : List CommandOption) (name : Text) (s : Setting) → option_named options name ≡ Some (Number s)
    → arg_by_id (rules options) (setting_name s) ≡ Some (setting_rule s)
id_for options name s e =
    subst (λ n. arg_by_id (rules options) n ≡ Some (setting_rule s)) (name_named options name (Number s) e) (id_named options name (Number s) e)
