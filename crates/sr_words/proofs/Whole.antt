-- A parse of the words gives the rows of their parts, and fails where they have none.
use Rattle.std.proofs.Common.{◌≡◌, ◌∙◌, ◌⊎◌, ℕ, ◌==◌, Bool, true, false, inl, inr, List, [], ◌∷◌, map, length, refl, sym, ap, subst, codes, Option, Some, None, arith, true≢false}
use Rattle.std.specs.Prelude.{⊤, option_and_then, slice_get}
use Rattle.std.specs.Char.{encode_utf8}
use Rattle.std.specs.Str.{IsUtf8, bytes_eq, chars, encode_utf8_all}
use Rattle.std.proofs.lemmas.Slice.Eq.{bytes_eq-Decides}
use Rattle.std.proofs.lemmas.Str.{encodes-chars}
use Rattle.std.proofs.lemmas.Option.{none-some}
use Rattle.clap.specs.Kinds.{or_else}
use Rattle.clap.specs.Lexer.{long_of, short_of}
use Rattle.clap.specs.Walk.{Row, Text, Waiting, idle, option, positional, arg_by_id, settled_rows, used}
use Rattle.clap.specs.Faults.{settle_fault, use_fault, walk_fault}
use Rattle.clap.specs.declared.error.kind.ErrorKind.TheVariants as kind
use Rattle.sr_words.specs.declared.options.CommandOption.{CommandOption}
use Rattle.sr_words.specs.declared.options.CommandOption.TheVariants.{Number, Switch}
use Rattle.sr_words.specs.declared.options.Flag.{Flag}
use Rattle.sr_words.specs.declared.options.Setting.{Setting}
use Rattle.sr_words.specs.Options.{option_named, setting_name}
use Rattle.sr_words.specs.Parts.{Part, WordKind, plain, switch, given, is_plain, part, parts, separator, unknown, waiting, with_part, word_kind}
use Rattle.sr_words.proofs.Rules.{id_for, rules, setting_rule, flag_rule}
use Rattle.sr_words.proofs.Walks.{IsFree, add_parts, after_turn, failed_turn, dashes_fault, dashes_walk, ended, ended_setting, ended_word, held, flag_fault, flag_value_fault, flag_walk, lacking, nothing, number_fault, number_value_fault, number_value_walk, number_walk, or_else-nil, outcome, plain_fault, plain_walk, settle_first, short_fault, trailing, unknown_fault, unless, use_next, value_fault, value_walk, walk_at, with_one, and_then_Some}

-- ---- what a word is

first_letter : (byte : ℕ) (bytes cs : List ℕ) → encode_utf8_all (45 ∷ cs) ≡ 45 ∷ byte ∷ bytes → (x : ℕ) × (slice_get cs 0 ≡ Some x)
unfolding encode_utf8
first_letter byte bytes [] e =
    let short : 45 ∷ [] ≡ 45 ∷ byte ∷ bytes = e in
    absurd (omega (arith, ap length short))
first_letter byte bytes (x ∷ cs) e = (x, refl)

letter : (byte : ℕ) (bytes : List ℕ) → IsUtf8 (45 ∷ byte ∷ bytes) → (x : ℕ) × (slice_get (chars (byte ∷ bytes)) 0 ≡ Some x)
unfolding chars
letter byte bytes text = first_letter byte bytes _ (encodes-chars (45 ∷ byte ∷ bytes) text)

abbrev IsShort : Text → Type 0
IsShort word = (byte : ℕ) × (bytes : List ℕ) × (x : ℕ) × (short_of word ≡ Some (byte ∷ bytes)) × (is_plain word ≡ false) × (slice_get (chars (byte ∷ bytes)) 0 ≡ Some x)

abbrev IsBare : Text → Type 0
IsBare word = (short_of word ≡ None) × (is_plain word ≡ true)

alone : (a : ℕ) → short_of (a ∷ []) ≡ None
alone a = go (a == 45) refl
  where
    go : (x : Bool) → (a == 45) ≡ x → short_of (a ∷ []) ≡ None
    go true e = rw e refl
    go false e = rw e refl

class_two : (a b : ℕ) (rest : List ℕ) (x y : Bool) → (a == 45) ≡ x → (b == 45) ≡ y → IsUtf8 (a ∷ b ∷ rest)
    → bytes_eq (a ∷ b ∷ rest) (codes "--") ≡ false → long_of (a ∷ b ∷ rest) ≡ None → IsShort (a ∷ b ∷ rest) ⊎ IsBare (a ∷ b ∷ rest)
class_two a b rest false y e f text d l = inr (rw e refl, rw e refl)
class_two a b [] true true e f text d l =
    let bad : true ≡ false = rw (e, f) at d in
    absurd (true≢false bad)
class_two a b (c ∷ rest) true true e f text d l = absurd (none-some _ (sym (rw (e, f) at l)))
class_two a b rest true false e f text d l =
    let is : a ≡ 45 = grind (arith, e) in
    let more : IsUtf8 (45 ∷ b ∷ rest) = rw is at text in
    let first = letter b rest more in
    inl (b, rest, first.0, rw (e, f) refl, rw e refl, first.1)

class : (word : Text) → IsUtf8 word → bytes_eq word (codes "--") ≡ false → long_of word ≡ None → IsShort word ⊎ IsBare word
class [] text d l = inr (refl, refl)
class (a ∷ []) text d l = inr (alone a, refl)
class (a ∷ b ∷ rest) text d l = class_two a b rest (a == 45) (b == 45) refl refl text d l

long_alone : (a : ℕ) → long_of (a ∷ []) ≡ None
long_alone a = go (a == 45) refl
  where
    go : (x : Bool) → (a == 45) ≡ x → long_of (a ∷ []) ≡ None
    go true e = rw e refl
    go false e = rw e refl

long_two : (a b : ℕ) (rest : List ℕ) (x : Bool) (p : Text × Option Text) → (a == 45) ≡ x → long_of (a ∷ b ∷ rest) ≡ Some p → is_plain (a ∷ b ∷ rest) ≡ false
long_two a b rest true p e l = rw e refl
long_two a b rest false p e l = absurd (none-some p (rw e at l))

long_plain : (word : Text) (p : Text × Option Text) → long_of word ≡ Some p → is_plain word ≡ false
long_plain [] p l = absurd (none-some p l)
long_plain (a ∷ []) p l = absurd (none-some p (sym (long_alone a) ∙ l))
long_plain (a ∷ b ∷ rest) p l = long_two a b rest (a == 45) p refl l

-- ---- the parts of a word before others

dashes_plain : (word : Text) → bytes_eq word (codes "--") ≡ true → is_plain word ≡ false
dashes_plain word e = subst (λ w. is_plain w ≡ false) (sym ((bytes_eq-Decides word (codes "--")).0 e)) refl

-- the parts by what the first word is
abbrev parts_by : List CommandOption → WordKind → List Text → Option (List Part)
parts_by options kind words =
    elim kind [
      | separator ↦ Some (map plain words)
      | part own ↦ with_part own (parts options None words)
      | waiting setting ↦ parts options (Some setting) words
      | unknown ↦ None
    ]

parts_kind : (options : List CommandOption) (word : Text) (words : List Text) (kind : WordKind) → word_kind options word ≡ kind
    → parts options None (word ∷ words) ≡ parts_by options kind words
parts_kind options word words kind e = ap (λ k. parts_by options k words) e

parts_dashes : (options : List CommandOption) (word : Text) (words : List Text) → bytes_eq word (codes "--") ≡ true
    → parts options None (word ∷ words) ≡ Some (map plain words)
parts_dashes options word words e = parts_kind options word words separator (rw e refl)

parts_unknown : (options : List CommandOption) (word : Text) (words : List Text) (p : Text × Option Text) → bytes_eq word (codes "--") ≡ false
    → long_of word ≡ Some p → option_named options p.0 ≡ None → parts options None (word ∷ words) ≡ None
parts_unknown options word words p e l f = parts_kind options word words unknown (rw (e, long_plain word p l, l, f) refl)

parts_number_value : (options : List CommandOption) (word : Text) (words : List Text) (name value : Text) (s : Setting)
    → bytes_eq word (codes "--") ≡ false → long_of word ≡ Some (name, Some value) → option_named options name ≡ Some (Number s)
    → parts options None (word ∷ words) ≡ with_part (given s value) (parts options None words)
parts_number_value options word words name value s e l f =
    parts_kind options word words (part (given s value)) (rw (e, long_plain word (name, Some value) l, l, f) refl)

parts_number : (options : List CommandOption) (word : Text) (words : List Text) (name : Text) (s : Setting) → bytes_eq word (codes "--") ≡ false
    → long_of word ≡ Some (name, None) → option_named options name ≡ Some (Number s) → parts options None (word ∷ words) ≡ parts options (Some s) words
parts_number options word words name s e l f = parts_kind options word words (waiting s) (rw (e, long_plain word (name, None) l, l, f) refl)

parts_flag_value : (options : List CommandOption) (word : Text) (words : List Text) (name value : Text) (flag : Flag) → bytes_eq word (codes "--") ≡ false
    → long_of word ≡ Some (name, Some value) → option_named options name ≡ Some (Switch flag) → parts options None (word ∷ words) ≡ None
parts_flag_value options word words name value flag e l f =
    parts_kind options word words unknown (rw (e, long_plain word (name, Some value) l, l, f) refl)

parts_flag : (options : List CommandOption) (word : Text) (words : List Text) (name : Text) (flag : Flag) → bytes_eq word (codes "--") ≡ false
    → long_of word ≡ Some (name, None) → option_named options name ≡ Some (Switch flag)
    → parts options None (word ∷ words) ≡ with_part (switch flag) (parts options None words)
parts_flag options word words name flag e l f = parts_kind options word words (part (switch flag)) (rw (e, long_plain word (name, None) l, l, f) refl)

parts_short : (options : List CommandOption) (word : Text) (words : List Text) → bytes_eq word (codes "--") ≡ false → long_of word ≡ None
    → is_plain word ≡ false → parts options None (word ∷ words) ≡ None
parts_short options word words e l p = parts_kind options word words unknown (rw (e, p, l) refl)

parts_plain : (options : List CommandOption) (word : Text) (words : List Text) → bytes_eq word (codes "--") ≡ false → is_plain word ≡ true
    → parts options None (word ∷ words) ≡ with_part (plain word) (parts options None words)
parts_plain options word words e p = parts_kind options word words (part (plain word)) (rw (e, p) refl)

parts_value : (options : List CommandOption) (word : Text) (words : List Text) (s : Setting) → is_plain word ≡ true
    → parts options (Some s) (word ∷ words) ≡ with_part (given s word) (parts options None words)
parts_value options word words s p = rw p refl

parts_no_value : (options : List CommandOption) (word : Text) (words : List Text) (s : Setting) → is_plain word ≡ false
    → parts options (Some s) (word ∷ words) ≡ None
parts_no_value options word words s p = rw p refl

-- ---- the walk over all words

abbrev AtWords : List CommandOption → List Text → Type 0
AtWords options words = (rows : List Row) (pending : Option (Text × List Text)) (wt : Waiting) → IsFree wt
    → outcome options (walk_at rows pending wt false) words ≡ option_and_then (add_parts (parts options None words)) (ended options (held rows pending))

abbrev AtValue : List CommandOption → List Text → Type 0
AtValue options words = (rows : List Row) (s : Setting) → arg_by_id (rules options) (setting_name s) ≡ Some (setting_rule s)
    → outcome options (walk_at rows (Some (setting_name s, [])) (option (setting_name s)) false) words ≡ add_parts (parts options (Some s) words) rows

-- from the outcome with these parts to the outcome with those of the words
by_parts : (options : List CommandOption) (h : Option (List Row)) (ps qs : Option (List Part)) → qs ≡ ps → option_and_then (add_parts ps) h ≡ option_and_then (add_parts qs) h
by_parts options h ps qs e = ap (λ x. option_and_then (add_parts x) h) (sym e)

no_parts : (options : List CommandOption) (h : Option (List Row)) (qs : Option (List Part)) → qs ≡ None → None ≡ option_and_then (add_parts qs) h
no_parts options h qs e = nothing (add_parts qs) h (λ r. ap (λ x. add_parts x r) e)

free_idle : IsFree idle
free_idle word h c = refl

free_positional : IsFree positional
free_positional word h c = refl

-- an option of the command, with or without a value after `=`
flag_step : (options : List CommandOption) (word : Text) (words : List Text) → AtWords options words → AtValue options words → bytes_eq word (codes "--") ≡ false
    → (name : Text) (value : Option Text) → long_of word ≡ Some (name, value) → (flag : Option CommandOption) → option_named options name ≡ flag
    → (rows : List Row) (pending : Option (Text × List Text)) (wt : Waiting)
    → outcome options (walk_at rows pending wt false) (word ∷ words) ≡ option_and_then (add_parts (parts options None (word ∷ words))) (ended options (held rows pending))
flag_step options word words more later d name value l None f rows pending wt =
    failed_turn options (walk_at rows pending wt false) word words _ _ (unknown_fault options rows pending wt word (name, value) d l f)
    ∙ no_parts options (ended options (held rows pending)) _ (parts_unknown options word words (name, value) d l f)
flag_step options word words more later d name (Some value) l (Some (Number s)) f rows pending wt =
    let so_far = settled_rows (rules options) pending rows in
    let sf = settle_fault (rules options) false (held rows pending) in
    let uf = use_fault false (setting_rule s) (value ∷ []) so_far in
    let after = used (setting_rule s) (value ∷ []) so_far in
    after_turn options (walk_at rows pending wt false) (walk_at after None idle false) word words _
    (number_value_fault options rows pending wt word name value s d l f) (number_value_walk options rows pending wt word name value s d l f)
    ∙ (ap (unless (or_else (or_else sf uf) [])) (more after None idle free_idle)
    ∙ (use_next sf uf so_far after (given s value) (parts options None words) refl
    ∙ by_parts options (ended options (held rows pending)) _ _ (parts_number_value options word words name value s d l f)))
flag_step options word words more later d name None l (Some (Number s)) f rows pending wt =
    let so_far = settled_rows (rules options) pending rows in
    let sf = settle_fault (rules options) false (held rows pending) in
    after_turn options (walk_at rows pending wt false) (walk_at so_far (Some (setting_name s, [])) (option (setting_name s)) false) word words sf
    (number_fault options rows pending wt word name s d l f ∙ or_else-nil sf) (number_walk options rows pending wt word name s d l f)
    ∙ (settle_first sf so_far (add_parts (parts options (Some s) words)) _ (later so_far s (id_for options name s f))
    ∙ by_parts options (ended options (held rows pending)) _ _ (parts_number options word words name s d l f))
flag_step options word words more later d name (Some value) l (Some (Switch own)) f rows pending wt =
    failed_turn options (walk_at rows pending wt false) word words _ _ (flag_value_fault options rows pending wt word name value own d l f)
    ∙ no_parts options (ended options (held rows pending)) _ (parts_flag_value options word words name value own d l f)
flag_step options word words more later d name None l (Some (Switch own)) f rows pending wt =
    let so_far = settled_rows (rules options) pending rows in
    let sf = settle_fault (rules options) false (held rows pending) in
    let uf = use_fault false (flag_rule own) [] so_far in
    let after = used (flag_rule own) [] so_far in
    after_turn options (walk_at rows pending wt false) (walk_at after None idle false) word words _
    (flag_fault options rows pending wt word name own d l f) (flag_walk options rows pending wt word name own d l f)
    ∙ (ap (unless (or_else (or_else sf uf) [])) (more after None idle free_idle)
    ∙ (use_next sf uf so_far after (switch own) (parts options None words) refl
    ∙ by_parts options (ended options (held rows pending)) _ _ (parts_flag options word words name own d l f)))

-- a word that is no long option
other_step : (options : List CommandOption) (word : Text) (words : List Text) → AtWords options words → bytes_eq word (codes "--") ≡ false → long_of word ≡ None
    → IsShort word ⊎ IsBare word → (rows : List Row) (pending : Option (Text × List Text)) (wt : Waiting) → IsFree wt
    → outcome options (walk_at rows pending wt false) (word ∷ words) ≡ option_and_then (add_parts (parts options None (word ∷ words))) (ended options (held rows pending))
other_step options word words more d l (inl short) rows pending wt free =
    failed_turn options (walk_at rows pending wt false) word words _ _
    (short_fault options rows pending wt word short.0 short.2 short.1 d l short.3 short.5)
    ∙ no_parts options (ended options (held rows pending)) _ (parts_short options word words d l short.4)
other_step options word words more d l (inr bare) rows pending wt free =
    let so_far = settled_rows (rules options) pending rows in
    let sf = settle_fault (rules options) false (held rows pending) in
    after_turn options (walk_at rows pending wt false) (walk_at so_far (Some (codes "word", word ∷ [])) positional false) word words sf
    (plain_fault options rows pending wt word free d l bare.0) (plain_walk options rows pending wt word free d l bare.0)
    ∙ (settle_first sf so_far (add_parts (with_part (plain word) (parts options None words))) _
    (more so_far (Some (codes "word", word ∷ [])) positional free_positional
    ∙ (ap (option_and_then (add_parts (parts options None words))) (ended_word options so_far word) ∙ with_one (parts options None words) (plain word) so_far))
    ∙ by_parts options (ended options (held rows pending)) _ _ (parts_plain options word words d bare.1))

word_step : (options : List CommandOption) (word : Text) (words : List Text) → IsUtf8 word → AtWords options words → AtValue options words → AtWords options (word ∷ words)
word_step options word words text more later rows pending wt free = at (bytes_eq word (codes "--")) refl
  where
    long : bytes_eq word (codes "--") ≡ false → (p : Option (Text × Option Text)) → long_of word ≡ p
        → outcome options (walk_at rows pending wt false) (word ∷ words) ≡ option_and_then (add_parts (parts options None (word ∷ words))) (ended options (held rows pending))
    long d (Some p) l = flag_step options word words more later d p.0 p.1 l (option_named options p.0) refl rows pending wt
    long d None l = other_step options word words more d l (class word text d l) rows pending wt free

    at : (b : Bool) → bytes_eq word (codes "--") ≡ b
        → outcome options (walk_at rows pending wt false) (word ∷ words) ≡ option_and_then (add_parts (parts options None (word ∷ words))) (ended options (held rows pending))
    at true d =
        after_turn options (walk_at rows pending wt false) (walk_at rows pending wt true) word words []
        (dashes_fault options rows pending wt word d) (dashes_walk options rows pending wt word d)
        ∙ (trailing options words rows pending wt ∙ by_parts options (ended options (held rows pending)) _ _ (parts_dashes options word words d))
    at false d = long d (long_of word) refl

-- ---- a word after an option that waits for its value

-- whatever else it is, the option lacks its value
no_value : (options : List CommandOption) (word : Text) (words : List Text) (s : Setting) (rows : List Row) → arg_by_id (rules options) (setting_name s) ≡ Some (setting_rule s)
    → bytes_eq word (codes "--") ≡ false → (name : Text) (value : Option Text) → long_of word ≡ Some (name, value)
    → (flag : Option CommandOption) → option_named options name ≡ flag
    → outcome options (walk_at rows (Some (setting_name s, [])) (option (setting_name s)) false) (word ∷ words) ≡ None
no_value options word words s rows found d name value l None f =
    failed_turn options (walk_at rows (Some (setting_name s, [])) (option (setting_name s)) false) word words _ _
    (unknown_fault options rows (Some (setting_name s, [])) (option (setting_name s)) word (name, value) d l f)
no_value options word words s rows found d name (Some value) l (Some (Number t)) f =
    failed_turn options (walk_at rows (Some (setting_name s, [])) (option (setting_name s)) false) word words kind.InvalidValue []
    (number_value_fault options rows (Some (setting_name s, [])) (option (setting_name s)) word name value t d l f ∙ rw found refl)
no_value options word words s rows found d name None l (Some (Number t)) f =
    failed_turn options (walk_at rows (Some (setting_name s, [])) (option (setting_name s)) false) word words kind.InvalidValue []
    (number_fault options rows (Some (setting_name s, [])) (option (setting_name s)) word name t d l f ∙ rw found refl)
no_value options word words s rows found d name (Some value) l (Some (Switch own)) f =
    failed_turn options (walk_at rows (Some (setting_name s, [])) (option (setting_name s)) false) word words _ _
    (flag_value_fault options rows (Some (setting_name s, [])) (option (setting_name s)) word name value own d l f)
no_value options word words s rows found d name None l (Some (Switch own)) f =
    failed_turn options (walk_at rows (Some (setting_name s, [])) (option (setting_name s)) false) word words kind.InvalidValue []
    (flag_fault options rows (Some (setting_name s, [])) (option (setting_name s)) word name own d l f ∙ rw found refl)

value_step : (options : List CommandOption) (word : Text) (words : List Text) → IsUtf8 word → AtWords options words → AtValue options (word ∷ words)
value_step options word words text more rows s found = at (bytes_eq word (codes "--")) refl
  where
    pending : Option (Text × List Text)
    pending = Some (setting_name s, [])

    other : bytes_eq word (codes "--") ≡ false → long_of word ≡ None → IsShort word ⊎ IsBare word
        → outcome options (walk_at rows (Some (setting_name s, [])) (option (setting_name s)) false) (word ∷ words) ≡ add_parts (parts options (Some s) (word ∷ words)) rows
    other d l (inl short) =
        failed_turn options (walk_at rows (Some (setting_name s, [])) (option (setting_name s)) false) word words _ _
        (short_fault options rows (Some (setting_name s, [])) (option (setting_name s)) word short.0 short.2 short.1 d l short.3 short.5)
        ∙ ap (λ x. add_parts x rows) (sym (parts_no_value options word words s short.4))
    other d l (inr bare) =
        after_turn options (walk_at rows (Some (setting_name s, [])) (option (setting_name s)) false) (walk_at rows (Some (setting_name s, word ∷ [])) idle false) word words []
        (value_fault options s rows word d l bare.0) (value_walk options s rows word found d l bare.0)
        ∙ (more rows (Some (setting_name s, word ∷ [])) idle free_idle
        ∙ (ap (option_and_then (add_parts (parts options None words))) (ended_setting options s rows word found)
        ∙ (with_one (parts options None words) (given s word) rows ∙ ap (λ x. add_parts x rows) (sym (parts_value options word words s bare.1)))))

    long : bytes_eq word (codes "--") ≡ false → (p : Option (Text × Option Text)) → long_of word ≡ p
        → outcome options (walk_at rows (Some (setting_name s, [])) (option (setting_name s)) false) (word ∷ words) ≡ add_parts (parts options (Some s) (word ∷ words)) rows
    long d (Some p) l =
        no_value options word words s rows found d p.0 p.1 l (option_named options p.0) refl
        ∙ ap (λ x. add_parts x rows) (sym (parts_no_value options word words s (long_plain word p l)))
    long d None l = other d l (class word text d l)

    at : (b : Bool) → bytes_eq word (codes "--") ≡ b
        → outcome options (walk_at rows (Some (setting_name s, [])) (option (setting_name s)) false) (word ∷ words) ≡ add_parts (parts options (Some s) (word ∷ words)) rows
    at true d =
        after_turn options (walk_at rows (Some (setting_name s, [])) (option (setting_name s)) false) (walk_at rows (Some (setting_name s, [])) (option (setting_name s)) true) word words []
        (dashes_fault options rows (Some (setting_name s, [])) (option (setting_name s)) word d) (dashes_walk options rows (Some (setting_name s, [])) (option (setting_name s)) word d)
        ∙ (trailing options words rows (Some (setting_name s, [])) (option (setting_name s))
        ∙ (ap (option_and_then (add_parts (Some (map plain words)))) (lacking options s rows found)
        ∙ ap (λ x. add_parts x rows) (sym (parts_no_value options word words s (dashes_plain word d)))))
    at false d = long d (long_of word) refl

abbrev pub AllText : List Text → Type 0
AllText [] = ⊤
AllText (word ∷ words) = IsUtf8 word × AllText words

both : (options : List CommandOption) (words : List Text) → AllText words → AtWords options words × AtValue options words
unfolding walk_fault
both options [] text = ((λ rows pending wt free. sym (and_then_Some (ended options (held rows pending)))), (λ rows s found. lacking options s rows found))
both options (word ∷ words) text =
    let rest = both options words text.1 in
    (word_step options word words text.0 rest.0 rest.1, value_step options word words text.0 rest.0)

-- a parse of a command's words
pub walk_of_words : (options : List CommandOption) (words : List Text) → AllText words → outcome options (walk_at [] None idle false) words ≡ add_parts (parts options None words) []
walk_of_words options words text = (both options words text).0 [] None idle free_idle
