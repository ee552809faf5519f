-- What the getters of the matches read.
use Rattle.std.proofs.Common.{◌≡◌, ◌∙◌, Bool, true, false, inl, inr, List, [], map, refl, sym, ap, subst, codes, Option, Some, None, Bor}
use Rattle.std.specs.Prelude.{unwrap_or}
use Rattle.std.specs.Option.{option_map}
use Rattle.clap.specs.Faults.{fault_of, is_simple_and_free}
use Rattle.clap.specs.Kinds.{HasKind}
use Rattle.clap.specs.Matches.{first_value, matched_of, one_text, raw_values}
use Rattle.clap.specs.Simple.{App, HasMatchesOf}
use Rattle.clap.specs.Values.{kind_of}
use Rattle.clap.specs.Walk.{Row, Text, one_of, rows_of}
use Rattle.clap.specs.declared.error.Error.{Error}
use Rattle.clap.specs.declared.error.kind.ErrorKind.TheVariants.{OutOfMemory}
use Rattle.clap.specs.declared.parser.matches.ArgMatches.{ArgMatches}
use Rattle.clap.specs.declared.parser.matches.Found.{Found}
use Rattle.clap.proofs.WalkLemmas.{first_value-rows, one_text-rows, raw_values-rows}
use Rattle.sr_words.specs.Arguments.{HasFlags, HasFlagsIn, IsFlag, is_true, parser_for, taken_from, taken_in}
use Rattle.sr_words.specs.Commands.{flag_in, taken_of, value_in}
use Rattle.sr_words.specs.Options.{flag_name, options_of, setting_name}
use Rattle.sr_words.specs.declared.options.Flag.{Flag}
use Rattle.sr_words.specs.declared.options.Flag.TheVariants.{Journal, Where, Picture}
use Rattle.sr_words.specs.declared.options.Setting.{Setting}
use Rattle.sr_words.specs.declared.options.Setting.TheVariants.{Workers, Steps, Ticks, Upto}
use Rattle.sr_words.specs.declared.verb.Verb.{Verb}
use Rattle.sr_words.proofs.Rules.{is_simple_and_free_for, is_simple_for}
use Rattle.sr_words.proofs.Parsed.{parse_refuses, parse_says}
use Rattle.sr_words.proofs.Whole.{AllText}

value_first : (s : Setting) (f : Found) → value_in s (taken_in (rows_of f)) ≡ first_value f (setting_name s)
value_first Workers f = sym (first_value-rows f (codes "workers"))
value_first Steps f = sym (first_value-rows f (codes "steps"))
value_first Ticks f = sym (first_value-rows f (codes "ticks"))
value_first Upto f = sym (first_value-rows f (codes "upto"))

-- `get_str`
pub value_read : (s : Setting) (f : Found) (name : Text) (o : Option (Bor Text)) → option_map (λ v. v.now) o ≡ first_value f name → name ≡ setting_name s
    → value_in s (taken_in (rows_of f)) ≡ option_map (λ v. v.now) o
value_read s f name o read is = value_first s f ∙ (ap (first_value f) (sym is) ∙ sym read)

flag_said : (flag : Flag) (rows : List Row) → flag_in flag (taken_in rows) ≡ is_true (one_of (flag_name flag) rows)
flag_said Journal rows = refl
flag_said Where rows = refl
flag_said Picture rows = refl

-- `get_flag`
pub flag_read : (flag : Flag) (f : Found) (name : Text) (b : Bool) → name ≡ flag_name flag → (one_text f name ≡ None → b ≡ false)
    → (one_text f name ≡ Some (codes "true") → b ≡ true) → (one_text f name ≡ Some (codes "false") → b ≡ false) → HasFlagsIn (rows_of f)
    → b ≡ flag_in flag (taken_in (rows_of f))
flag_read flag f name b is none on off has =
    go (one_of (flag_name flag) (rows_of f)) (ap (one_text f) is ∙ one_text-rows f (flag_name flag)) (has flag) ∙ sym (flag_said flag (rows_of f))
  where
    go : (o : Option Text) → one_text f name ≡ o → IsFlag o → b ≡ is_true o
    go None e h = none e
    go (Some text) e (inl h) = on (e ∙ ap (λ x. Some x) h) ∙ rw h refl
    go (Some text) e (inr h) = off (e ∙ ap (λ x. Some x) h) ∙ rw h refl

-- `get_raw`
abbrev pub texts_in : Option (Bor (List (Bor Text))) → List Text
texts_in o = unwrap_or (option_map (λ s. map (λ v. v.now) s.now) o) []

pub words_read : (f : Found) (o : Option (Bor (List (Bor Text))))
    → option_map (λ s. map (λ v. v.now) s.now) o ≡ option_map raw_values (matched_of f (codes "word")) → (taken_in (rows_of f)).words ≡ texts_in o
words_read f o read = ap (λ x. unwrap_or x []) (sym (read ∙ raw_values-rows f (codes "word")))

-- a parse of a command, by the rule
pub parse_taken : (verb : Verb) (a : App) (words : List Text) (m : ArgMatches) → a ≡ parser_for (options_of verb) → AllText words → HasMatchesOf a words m
    → (is_simple_and_free a ≡ true → fault_of a words ≡ [])
    → (taken_of verb words ≡ Some (taken_from m)) × HasFlags m
parse_taken verb a words m is text has none =
    let found : HasMatchesOf (parser_for (options_of verb)) words m = subst (λ x. HasMatchesOf x words m) is has in
    let passes = subst (λ x. is_simple_and_free x ≡ true → fault_of x words ≡ []) is none in
    let rows = (found (is_simple_for (options_of verb))).0 in
    let said = parse_says verb words text (passes (is_simple_and_free_for (options_of verb))) in
    (said.0 ∙ ap (λ r. Some (taken_in r)) (sym rows), subst HasFlagsIn (sym rows) said.1)

pub parse_refused : (verb : Verb) (a : App) (words : List Text) (e : Error) → a ≡ parser_for (options_of verb) → AllText words
    → (is_simple_and_free a ≡ true → HasKind (fault_of a words) e) → (kind_of e ≡ OutOfMemory → ⊥) → taken_of verb words ≡ None
parse_refused verb a words e is text fails other =
    let kinds = subst (λ x. is_simple_and_free x ≡ true → HasKind (fault_of x words) e) is fails in
    elim (kinds (is_simple_and_free_for (options_of verb))) [
      | inl memory ↦ absurd (other memory)
      | inr among ↦ parse_refuses verb words text (kind_of e) among
    ]
