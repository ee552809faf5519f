-- What a parse of a command's words gives, by the rule.
use Rattle.std.proofs.Common.{◌≡◌, ◌∙◌, Bool, true, false, inl, inr, List, [], ◌∷◌, map, refl, sym, ap, subst, codes, Option, Some, None, string_bytes}
use Rattle.std.specs.Prelude.{◌||◌, if◌then◌else◌, fold, is_some, option_and_then, String, unwrap_or}
use Rattle.std.specs.Option.{option_map}
use Rattle.std.specs.Str.{bytes_eq}
use Rattle.std.proofs.lemmas.Option.{none-some, same_Some}
use Rattle.std.proofs.lemmas.Str.{IsUtf8-string_bytes}
use Rattle.clap.specs.Faults.{built_fault, check_fault, default_fault, defaults_fault, entered_fault, fault_of, settle_fault, walk_fault}
use Rattle.clap.specs.Kinds.{IsAmong, Kinds, or_else}
use Rattle.clap.specs.Simple.{App, entered, matches_of, names_of}
use Rattle.clap.specs.Walk.{Row, Rule, Text, all_of, first_of, has_row, idle, one_of, settled, walk, nothing_held, rows_after, with_default}
use Rattle.clap.specs.declared.builder.value_parser.Reading.TheVariants.{AsWritten}
use Rattle.clap.specs.declared.parser.matches.ValueSource.TheVariants.{DefaultValue}
use Rattle.sr_words.specs.Arguments.{HasFlagsIn, IsFlag, is_true, parser_for, taken_in}
use Rattle.sr_words.specs.Commands.{Taken, flag_in, nothing_taken, take_all, taken_of}
use Rattle.sr_words.specs.Options.{flag_name, options_of, setting_name}
use Rattle.sr_words.specs.Parts.{Part, parts}
use Rattle.sr_words.specs.declared.options.CommandOption.{CommandOption}
use Rattle.sr_words.specs.declared.options.CommandOption.TheVariants.{Number, Switch}
use Rattle.sr_words.specs.declared.options.Flag.{Flag}
use Rattle.sr_words.specs.declared.options.Flag.TheVariants.{Journal, Where, Picture}
use Rattle.sr_words.specs.declared.options.Setting.{Setting}
use Rattle.sr_words.specs.declared.options.Setting.TheVariants.{Workers, Steps, Ticks, Upto}
use Rattle.sr_words.specs.declared.verb.Verb.{Verb}
use Rattle.sr_words.proofs.Rows.{Agree, Shows, agree, at_first, first_row, flag_row, given_row, has_row-find, other_row, row_at, row_if, some_texts}
use Rattle.sr_words.proofs.Rules.{built_for, flag_rule, is_built_for, none_required, option_rule, rules, setting_rule, shape_for, word_rule}
use Rattle.sr_words.proofs.Settings.{own_flag, own_name, same_or_other}
use Rattle.sr_words.proofs.Walks.{add_parts, outcome, unless, walk_at}
use Rattle.sr_words.proofs.Whole.{AllText, walk_of_words}

-- ---- after the walk

abbrev pub defaulted : List CommandOption → List Row → List Row
defaulted options rows = fold with_default rows (rules options)

no_entered : (options : List CommandOption) (stop : Option (Text × List Text)) → entered (built_for options) stop ≡ None
no_entered options None = refl
no_entered options (Some p) = refl

no_entered_fault : (options : List CommandOption) (stop : Option (Text × List Text)) → entered_fault (built_for options) stop ≡ []
no_entered_fault options None = refl
no_entered_fault options (Some p) = refl

either : (b : Bool) (ks : Kinds) → (if b || true then [] else ks) ≡ []
either true ks = refl
either false ks = refl

word_default : (rows : List Row) → default_fault rows word_rule ≡ []
word_default rows = either (has_row (codes "word") rows) _

option_default : (option : CommandOption) (rows : List Row) → default_fault rows (option_rule option) ≡ []
option_default (Number s) rows = either (has_row (setting_name s) rows) _
option_default (Switch flag) rows = go (has_row (flag_name flag) rows) refl
  where
    go : (b : Bool) → has_row (flag_name flag) rows ≡ b → default_fault rows (flag_rule flag) ≡ []
    go true e = rw e refl
    go false e = rw e refl

one_default : (rows : List Row) (a : Rule) (rest : List Rule) → default_fault rows a ≡ [] → defaults_fault (with_default rows a) rest ≡ []
    → defaults_fault rows (a ∷ rest) ≡ []
unfolding defaults_fault
one_default rows a rest e f = rw (e, f) refl

no_default : (rows : List Row) → defaults_fault rows [] ≡ []
unfolding defaults_fault
no_default rows = refl

defaults_pass : (options : List CommandOption) (rows : List Row) → defaults_fault rows (rules options) ≡ []
defaults_pass [] rows = one_default rows word_rule [] (word_default rows) (no_default (with_default rows word_rule))
defaults_pass (option ∷ options) rows =
    one_default rows (option_rule option) (rules options) (option_default option rows) (defaults_pass options (with_default rows (option_rule option)))

check_passes : (options : List CommandOption) (rows : List Row) → check_fault (shape_for options) rows false ≡ []
check_passes options rows = rw (none_required options rows) refl

both_steps : (wf sf : Kinds) (f : List Row → List Row) (rows : List Row)
    → unless (or_else wf (or_else [] (or_else sf (or_else [] [])))) (Some (f rows)) ≡ option_map f (unless wf (unless sf (Some rows)))
both_steps [] [] f rows = refl
both_steps [] (k ∷ ks) f rows = refl
both_steps (k ∷ ks) sf f rows = refl

abbrev AtLevels : List CommandOption → List Text → App → Type 0
AtLevels options words a =
    unless (built_fault a nothing_held words) (Some (rows_after a.top.rules (names_of a) words))
    ≡ option_map (defaulted options) (outcome options (walk_at [] None idle false) words)

at_built : (options : List CommandOption) (words : List Text) → AtLevels options words (built_for options)
at_built options words =
    let end = (walk (rules options) [] nothing_held words).held in
    let stop = (walk (rules options) [] nothing_held words).stopped in
    rw (
      no_entered options stop,
      no_entered_fault options stop,
      defaults_pass options (settled (rules options) end).rows,
      check_passes options (defaulted options (settled (rules options) end).rows),
    )
    (both_steps (walk_fault (shape_for options) [] (walk_at [] None idle false) words) (settle_fault (rules options) false end) (defaulted options) (settled (rules options) end).rows)

levels : (options : List CommandOption) (words : List Text)
    → unless (fault_of (parser_for options) words) (Some (matches_of (parser_for options) words)) ≡ option_map (defaulted options) (outcome options (walk_at [] None idle false) words)
levels options words = subst (AtLevels options words) (sym (is_built_for options)) (at_built options words)

pub parsed : (options : List CommandOption) (words : List Text) → AllText words
    → unless (fault_of (parser_for options) words) (Some (matches_of (parser_for options) words)) ≡ option_map (defaulted options) (add_parts (parts options None words) [])
parsed options words text = levels options words ∙ ap (option_map (defaulted options)) (walk_of_words options words text)

-- ---- what the rows say

keeps : (b : Bool) (rows : List Row) → (if b then rows else rows) ≡ rows
keeps true rows = refl
keeps false rows = refl

setting_keeps : (s : Setting) (rows : List Row) → with_default rows (setting_rule s) ≡ rows
setting_keeps s rows = keeps (has_row (setting_name s) rows) rows

word_keeps : (rows : List Row) → with_default rows word_rule ≡ rows
word_keeps rows = keeps (has_row (codes "word") rows) rows

other_default : (flag : Flag) (id : Text) (rows : List Row) → bytes_eq (flag_name flag) id ≡ false → row_at id (with_default rows (flag_rule flag)) ≡ row_at id rows
other_default flag id rows f = go (has_row (flag_name flag) rows) refl
  where
    go : (b : Bool) → has_row (flag_name flag) rows ≡ b → row_at id (with_default rows (flag_rule flag)) ≡ row_at id rows
    go true e = rw e refl
    go false e = rw e (other_row id (flag_name flag) AsWritten DefaultValue (codes "false" ∷ []) rows f)

-- the defaults leave every row but those of options without a value alone
same_row : (options : List CommandOption) (id : Text) (rows : List Row) → ((flag : Flag) → bytes_eq (flag_name flag) id ≡ false)
    → row_at id (defaulted options rows) ≡ row_at id rows
same_row [] id rows f = ap (row_at id) (word_keeps rows)
same_row (Number s ∷ options) id rows f = same_row options id (with_default rows (setting_rule s)) f ∙ ap (row_at id) (setting_keeps s rows)
same_row (Switch flag ∷ options) id rows f = same_row options id (with_default rows (flag_rule flag)) f ∙ other_default flag id rows (f flag)

first_shown : (s : Setting) (rows : List Row) (value : Option Text) → row_at (setting_name s) rows ≡ option_map (given_row s) value
    → first_of (setting_name s) rows ≡ value
first_shown s rows None e = rw e refl
first_shown s rows (Some value) e = rw e refl

-- a flag is true, false or left out, and true exactly where it is given
abbrev SaysFlag : Flag → List Row → Taken → Type 0
SaysFlag flag rows t = (is_true (one_of (flag_name flag) rows) ≡ flag_in flag t) × IsFlag (one_of (flag_name flag) rows)

abbrev SaysFlags : List Row → Taken → Type 0
SaysFlags rows t = (flag : Flag) → SaysFlag flag rows t

-- before the defaults
flag_shown : (rows : List Row) (t : Taken) → Shows rows t → (flag : Flag) (b : Bool) → flag_in flag t ≡ b → SaysFlag flag rows t
flag_shown rows t shows flag true e =
    let some : row_at (flag_name flag) rows ≡ Some (flag_row flag) = shows.flags flag ∙ ap (row_if flag) e in
    let said : is_true (one_of (flag_name flag) rows) ≡ true = rw some refl in
    (said ∙ sym e, rw some (inl refl))
flag_shown rows t shows flag false e =
    let none : row_at (flag_name flag) rows ≡ None = shows.flags flag ∙ ap (row_if flag) e in
    let said : is_true (one_of (flag_name flag) rows) ≡ false = rw none refl in
    (said ∙ sym e, rw none tt)

-- the default of a flag is false
flag_kept : (flag : Flag) (rows : List Row) (t : Taken) → SaysFlag flag rows t → (o : Option Row) → row_at (flag_name flag) rows ≡ o
    → SaysFlag flag (with_default rows (flag_rule flag)) t
flag_kept flag rows t says (Some row) e =
    let had : has_row (flag_name flag) rows ≡ true = has_row-find (flag_name flag) rows ∙ ap (λ x. is_some x) e in
    rw had says
flag_kept flag rows t says None e =
    let had : has_row (flag_name flag) rows ≡ false = has_row-find (flag_name flag) rows ∙ ap (λ x. is_some x) e in
    let added = first_row (flag_name flag) AsWritten DefaultValue (codes "false" ∷ []) rows (own_flag flag).same e in
    let none : false ≡ flag_in flag t = rw e at says.0 in
    (rw (had, added) none, rw (had, added) (inr refl))

-- that of another flag leaves this one alone
each_kept : (flag : Flag) (rows : List Row) (t : Taken) → SaysFlags rows t → SaysFlags (with_default rows (flag_rule flag)) t
each_kept flag rows t says other =
    elim (same_or_other flag other) [
      | inl same ↦ subst (λ g. SaysFlag g (with_default rows (flag_rule flag)) t) same (flag_kept flag rows t (says flag) (row_at (flag_name flag) rows) refl)
      | inr apart ↦ rw (other_default flag (flag_name other) rows apart.0) (says other)
    ]

flags_say : (options : List CommandOption) (rows : List Row) (t : Taken) → SaysFlags rows t → SaysFlags (defaulted options rows) t
flags_say [] rows t says = subst (λ r. SaysFlags r t) (sym (word_keeps rows)) says
flags_say (Number s ∷ options) rows t says =
    flags_say options (with_default rows (setting_rule s)) t (subst (λ r. SaysFlags r t) (sym (setting_keeps s rows)) says)
flags_say (Switch flag ∷ options) rows t says = flags_say options (with_default rows (flag_rule flag)) t (each_kept flag rows t says)

all_texts : (words : List Text) → unwrap_or (some_texts words) [] ≡ words
all_texts [] = refl
all_texts (word ∷ words) = refl

abbrev Says : List Row → Taken → Type 0
Says rows t = (taken_in rows ≡ t) × HasFlagsIn rows

says : (options : List CommandOption) (rows : List Row) (t : Taken) → Shows rows t → Says (defaulted options rows) t
says options rows t shows =
    let workers = first_shown Workers (defaulted options rows) t.workers (same_row options (codes "workers") rows (own_name Workers).not_of_flag ∙ shows.settings Workers) in
    let steps = first_shown Steps (defaulted options rows) t.steps (same_row options (codes "steps") rows (own_name Steps).not_of_flag ∙ shows.settings Steps) in
    let ticks = first_shown Ticks (defaulted options rows) t.ticks (same_row options (codes "ticks") rows (own_name Ticks).not_of_flag ∙ shows.settings Ticks) in
    let upto = first_shown Upto (defaulted options rows) t.upto (same_row options (codes "upto") rows (own_name Upto).not_of_flag ∙ shows.settings Upto) in
    let words : all_of (codes "word") (defaulted options rows) ≡ some_texts t.words =
    ap (option_map (λ r. r.values)) (same_row options (codes "word") rows (λ flag. (own_flag flag).no_word)) ∙ shows.words in
    let flags : SaysFlags (defaulted options rows) t = flags_say options rows t (λ flag. flag_shown rows t shows flag (flag_in flag t) refl) in
    let journal : is_true (one_of (codes "journal") (defaulted options rows)) ≡ t.journal = (flags Journal).0 in
    let places : is_true (one_of (codes "where") (defaulted options rows)) ≡ t.places = (flags Where).0 in
    let picture : is_true (one_of (codes "picture") (defaulted options rows)) ≡ t.picture = (flags Picture).0 in
    (rw (workers, steps, ticks, upto, journal, places, picture, words, all_texts t.words) refl, λ flag. (flags flag).1)

taken_rows : (options : List CommandOption) (faults : Kinds) (rows : List Row) (o : Option (List Row)) (q : Option Taken) → Agree o q
    → unless faults (Some rows) ≡ option_map (defaulted options) o → faults ≡ [] → (t : Taken) × (q ≡ Some t) × Says rows t
taken_rows options faults rows None q a e none = absurd (none-some rows (sym (rw none at e)))
taken_rows options faults rows (Some found) None a e none = absurd a
taken_rows options faults rows (Some found) (Some t) a e none =
    let is : Some rows ≡ Some (defaulted options found) = rw none at e in
    let same : rows ≡ defaulted options found = same_Some rows (defaulted options found) is in
    (t, refl, subst (λ m. Says m t) (sym same) (says options found t a))

refused_rows : (options : List CommandOption) (faults : Kinds) (k : _) (rows : List Row) (o : Option (List Row)) (q : Option Taken) → Agree o q
    → unless faults (Some rows) ≡ option_map (defaulted options) o → IsAmong k faults → q ≡ None
refused_rows options [] k rows o q a e among = absurd among
refused_rows options (f ∷ fs) k rows (Some found) q a e among = absurd (none-some (defaulted options found) e)
refused_rows options (f ∷ fs) k rows None None a e among = refl
refused_rows options (f ∷ fs) k rows None (Some t) a e among = absurd a

agree_parts : (ps : Option (List Part)) → Agree (add_parts ps []) (option_and_then (take_all nothing_taken) ps)
agree_parts None = tt
agree_parts (Some ps) = agree ps [] nothing_taken at_first

-- a parse that succeeds says what is taken of the words
pub parse_says : (verb : Verb) (words : List Text) → AllText words → fault_of (parser_for (options_of verb)) words ≡ []
    → (taken_of verb words ≡ Some (taken_in (matches_of (parser_for (options_of verb)) words))) × HasFlagsIn (matches_of (parser_for (options_of verb)) words)
parse_says verb words text none =
    let options = options_of verb in
    let t = taken_rows options (fault_of (parser_for options) words) (matches_of (parser_for options) words) (add_parts (parts options None words) [])
    (taken_of verb words) (agree_parts (parts options None words)) (parsed options words text) none in
    (t.1 ∙ ap (λ x. Some x) (sym t.2.0), t.2.1)

-- and a parse that fails for another reason than memory is one of words of which nothing is taken
pub parse_refuses : (verb : Verb) (words : List Text) → AllText words → (k : _) → IsAmong k (fault_of (parser_for (options_of verb)) words)
    → taken_of verb words ≡ None
parse_refuses verb words text k among =
    let options = options_of verb in
    refused_rows options (fault_of (parser_for options) words) k (matches_of (parser_for options) words) (add_parts (parts options None words) [])
    (taken_of verb words) (agree_parts (parts options None words)) (parsed options words text) among

pub all_text : {Z : Type 0} (words : List (String Z)) → AllText (map string_bytes words)
all_text [] = tt
all_text (word ∷ words) = (IsUtf8-string_bytes word, all_text words)
