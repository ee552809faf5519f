-- The parser's walk over the words gives the rows of the parts, and fails where there are no parts.
use Rattle.std.proofs.Common.{◌≡◌, ◌∙◌, ℕ, Bool, true, false, List, [], ◌∷◌, map, refl, sym, ap, codes, Option, Some, None}
use Rattle.std.specs.Prelude.{◌&&◌, if◌then◌else◌, option_and_then, slice_get, fold}
use Rattle.std.specs.Option.{option_map}
use Rattle.std.specs.Str.{bytes_eq, chars}
use Rattle.clap.specs.Lexer.{long_of, short_of}
use Rattle.clap.specs.Kinds.{Kinds, or_else}
use Rattle.clap.specs.Walk.{Held, Row, Rule, Text, Waiting, Walk, idle, option, positional, value as as_value, arg_by_id, arg_by_long, is_pending, positional_held, settled, settled_rows, subcommand_met, used, walked, plain_word, pushed}
use Rattle.clap.specs.Faults.{flags_fault, positional_fault, settle_fault, turn_fault, use_fault, walk_fault}
use Rattle.clap.specs.declared.error.kind.ErrorKind.TheVariants as kind
use Rattle.sr_words.specs.declared.options.CommandOption.{CommandOption}
use Rattle.sr_words.specs.declared.options.CommandOption.TheVariants.{Number, Switch}
use Rattle.sr_words.specs.declared.options.Flag.{Flag}
use Rattle.sr_words.specs.declared.options.Setting.{Setting}
use Rattle.sr_words.specs.Options.{option_named, setting_name}
use Rattle.sr_words.specs.Parts.{Part, plain, switch, given, with_part}
use Rattle.sr_words.proofs.Settings.{own_name}
use Rattle.sr_words.proofs.Rules.{rules, shape_for, setting_rule, flag_rule, word_rule, option_rule, long_for, short_for, word_id_for, word_index_for}

-- ---- what a walk comes to

abbrev pub unless : {X : Type 0} → Kinds → Option X → Option X
unless [] x = x
unless (k ∷ ks) x = None

abbrev pub held : List Row → Option (Text × List Text) → Held
held rows pending = record { rows = rows; pending = pending; skip = 0 }

abbrev pub walk_at : List Row → Option (Text × List Text) → Waiting → Bool → Walk
walk_at rows pending waiting trailing = record {
  held = held rows pending;
  waiting = waiting;
  position = 1;
  is_trailing = trailing;
  stopped = None;
}

-- the rows once what is pending is used, where nothing fails
abbrev pub ended : List CommandOption → Held → Option (List Row)
ended options h = unless (settle_fault (rules options) false h) (Some (settled (rules options) h).rows)

abbrev pub outcome : List CommandOption → Walk → List Text → Option (List Row)
outcome options w words = unless (walk_fault (shape_for options) [] w words) (ended options (fold (walked (rules options) []) w words).held)

abbrev pub part_rule : Part → Rule
part_rule (plain word) = word_rule
part_rule (switch flag) = flag_rule flag
part_rule (given s value) = setting_rule s

abbrev pub part_values : Part → List Text
part_values (plain word) = word ∷ []
part_values (switch flag) = []
part_values (given s value) = value ∷ []

abbrev pub add_one : List Row → Part → Option (List Row)
add_one rows p = unless (use_fault false (part_rule p) (part_values p) rows) (Some (used (part_rule p) (part_values p) rows))

abbrev pub add_all : List Row → List Part → Option (List Row)
add_all rows [] = Some rows
add_all rows (p ∷ ps) = option_and_then (λ r. add_all r ps) (add_one rows p)

abbrev pub add_parts : Option (List Part) → List Row → Option (List Row)
add_parts ps rows = option_and_then (add_all rows) ps

-- ---- options

pub and_then_Some : {X : Type 0} (o : Option X) → option_and_then (λ x. Some x) o ≡ o
and_then_Some None = refl
and_then_Some (Some x) = refl

abbrev pub none_of : List Row → Option (List Row)
none_of rows = None

pub and_then_None : (o : Option (List Row)) → option_and_then none_of o ≡ None
and_then_None None = refl
and_then_None (Some x) = refl

pub nothing : (f : List Row → Option (List Row)) (o : Option (List Row)) → ((r : List Row) → f r ≡ None) → None ≡ option_and_then f o
nothing f None e = refl
nothing f (Some r) e = sym (e r)

pub settle_first : (sf : Kinds) (rows : List Row) (f : List Row → Option (List Row)) (x : Option (List Row)) → x ≡ f rows
    → unless sf x ≡ option_and_then f (unless sf (Some rows))
settle_first [] rows f x e = e
settle_first (k ∷ ks) rows f x e = refl

-- one more part
pub with_one : (ps : Option (List Part)) (p : Part) (rows : List Row) → option_and_then (add_parts ps) (add_one rows p) ≡ add_parts (with_part p ps) rows
with_one None p rows = and_then_None (add_one rows p)
with_one (Some ps) p rows = refl

pub or_else-nil : (ks : Kinds) → or_else ks [] ≡ ks
or_else-nil [] = refl
or_else-nil (k ∷ ks) = refl

unless_both : {X : Type 0} (ks ls : Kinds) (x : Option X) → unless (or_else ks ls) x ≡ unless ks (unless ls x)
unless_both [] ls x = refl
unless_both (k ∷ ks) ls x = refl

pub use_next : (sf uf : Kinds) (rows more : List Row) (p : Part) (ps : Option (List Part)) → add_one rows p ≡ unless uf (Some more)
    → unless (or_else (or_else sf uf) []) (add_parts ps more) ≡ option_and_then (add_parts (with_part p ps)) (unless sf (Some rows))
use_next [] [] rows more p ps e = ap (option_and_then (add_parts ps)) (sym e) ∙ with_one ps p rows
use_next [] (k ∷ ks) rows more p ps e = ap (option_and_then (add_parts ps)) (sym e) ∙ with_one ps p rows
use_next (k ∷ ks) uf rows more p ps e = refl

-- ---- one turn

pub turn : (options : List CommandOption) (w : Walk) (word : Text) (words : List Text)
    → outcome options w (word ∷ words) ≡ unless (turn_fault (shape_for options) [] w word) (outcome options (walked (rules options) [] w word) words)
unfolding walk_fault
turn options w word words = unless_both (turn_fault (shape_for options) [] w word) (walk_fault (shape_for options) [] (walked (rules options) [] w word) words) _

-- a turn that fails by these kinds, and else comes to this walk
pub after_turn : (options : List CommandOption) (w v : Walk) (word : Text) (words : List Text) (ks : Kinds) → turn_fault (shape_for options) [] w word ≡ ks
    → walked (rules options) [] w word ≡ v → outcome options w (word ∷ words) ≡ unless ks (outcome options v words)
after_turn options w v word words ks e f = turn options w word words ∙ rw (e, f) refl

pub failed_turn : (options : List CommandOption) (w : Walk) (word : Text) (words : List Text) (k : _) (ks : Kinds) → turn_fault (shape_for options) [] w word ≡ k ∷ ks
    → outcome options w (word ∷ words) ≡ None
failed_turn options w word words k ks e = turn options w word words ∙ rw e refl

-- a word for the positional
pub ended_word : (options : List CommandOption) (rows : List Row) (word : Text) → ended options (held rows (Some (codes "word", word ∷ []))) ≡ add_one rows (plain word)
ended_word options rows word = rw (word_id_for options) refl

pub ended_setting : (options : List CommandOption) (s : Setting) (rows : List Row) (word : Text) → arg_by_id (rules options) (setting_name s) ≡ Some (setting_rule s)
    → ended options (held rows (Some (setting_name s, word ∷ []))) ≡ add_one rows (given s word)
ended_setting options s rows word found = rw found refl

-- an option without its value
pub lacking : (options : List CommandOption) (s : Setting) (rows : List Row) → arg_by_id (rules options) (setting_name s) ≡ Some (setting_rule s)
    → ended options (held rows (Some (setting_name s, []))) ≡ None
lacking options s rows found = rw found refl

pub position_fault : (options : List CommandOption) (h : Held) → positional_fault (rules options) false word_rule h ≡ settle_fault (rules options) false h
position_fault options h = go (is_pending word_rule h.pending)
  where
    go : (b : Bool) → (if b && false then [] else settle_fault (rules options) false h) ≡ settle_fault (rules options) false h
    go true = refl
    go false = refl

pub position_held : (options : List CommandOption) (word : Text) (rows : List Row) (pending : Option (Text × List Text))
    → positional_held (rules options) word_rule word (held rows pending) ≡ held (settled_rows (rules options) pending rows) (Some (codes "word", word ∷ []))
position_held options word rows pending = go (is_pending word_rule pending)
  where
    go : (b : Bool) → pushed (codes "word") word (if b && false then held rows pending else settled (rules options) (held rows pending))
        ≡ held (settled_rows (rules options) pending rows) (Some (codes "word", word ∷ []))
    go true = refl
    go false = refl

pub trail_fault : (options : List CommandOption) (rows : List Row) (pending : Option (Text × List Text)) (wt : Waiting) (word : Text)
    → turn_fault (shape_for options) [] (walk_at rows pending wt true) word ≡ settle_fault (rules options) false (held rows pending)
trail_fault options rows pending wt word = rw (word_index_for options) (position_fault options (held rows pending))

pub trail_walk : (options : List CommandOption) (rows : List Row) (pending : Option (Text × List Text)) (wt : Waiting) (word : Text)
    → walked (rules options) [] (walk_at rows pending wt true) word ≡ walk_at (settled_rows (rules options) pending rows) (Some (codes "word", word ∷ [])) positional true
unfolding walked
trail_walk options rows pending wt word = rw (word_index_for options, position_held options word rows pending) refl

-- after `--`
pub trailing : (options : List CommandOption) (words : List Text) (rows : List Row) (pending : Option (Text × List Text)) (wt : Waiting)
    → outcome options (walk_at rows pending wt true) words ≡ option_and_then (add_parts (Some (map plain words))) (ended options (held rows pending))
unfolding walk_fault
trailing options [] rows pending wt = sym (and_then_Some (ended options (held rows pending)))
trailing options (word ∷ words) rows pending wt =
    let more = settled_rows (rules options) pending rows in
    let sf = settle_fault (rules options) false (held rows pending) in
    let v = walk_at more (Some (codes "word", word ∷ [])) positional true in
    after_turn options (walk_at rows pending wt true) v word words sf (trail_fault options rows pending wt word) (trail_walk options rows pending wt word)
    ∙ settle_first sf more (add_parts (Some (map plain (word ∷ words)))) (outcome options v words)
    (trailing options words more (Some (codes "word", word ∷ [])) positional
    ∙ (ap (option_and_then (add_parts (Some (map plain words)))) (ended_word options more word)
    ∙ with_one (Some (map plain words)) (plain word) more))

-- ---- words before `--`

no_sub : (wt : Waiting) (word : Text) → subcommand_met [] wt word ≡ None
no_sub idle word = refl
no_sub positional word = refl
no_sub (option id) word = refl

-- `--`
pub dashes_fault : (options : List CommandOption) (rows : List Row) (pending : Option (Text × List Text)) (wt : Waiting) (word : Text)
    → bytes_eq word (codes "--") ≡ true → turn_fault (shape_for options) [] (walk_at rows pending wt false) word ≡ []
dashes_fault options rows pending wt word e = rw (no_sub wt word, e) refl

pub dashes_walk : (options : List CommandOption) (rows : List Row) (pending : Option (Text × List Text)) (wt : Waiting) (word : Text)
    → bytes_eq word (codes "--") ≡ true → walked (rules options) [] (walk_at rows pending wt false) word ≡ walk_at rows pending wt true
unfolding walked
dashes_walk options rows pending wt word e = rw (no_sub wt word, e) refl

-- an unknown option
pub unknown_fault : (options : List CommandOption) (rows : List Row) (pending : Option (Text × List Text)) (wt : Waiting) (word : Text) (p : Text × Option Text)
    → bytes_eq word (codes "--") ≡ false → long_of word ≡ Some p → option_named options p.0 ≡ None
    → turn_fault (shape_for options) [] (walk_at rows pending wt false) word ≡ kind.UnknownArgument ∷ []
unknown_fault options rows pending wt word p e l f =
    let found : arg_by_long (rules options) p.0 ≡ None = long_for options p.0 ∙ ap (option_map option_rule) f in
    rw (no_sub wt word, e, l, found) refl

-- an option of the command: the fault of its turn, and where the walk goes
pub number_value_fault : (options : List CommandOption) (rows : List Row) (pending : Option (Text × List Text)) (wt : Waiting) (word : Text) (name value : Text) (s : Setting)
    → bytes_eq word (codes "--") ≡ false → long_of word ≡ Some (name, Some value) → option_named options name ≡ Some (Number s)
    → turn_fault (shape_for options) [] (walk_at rows pending wt false) word
    ≡ or_else (or_else (settle_fault (rules options) false (held rows pending))
    (use_fault false (setting_rule s) (value ∷ []) (settled_rows (rules options) pending rows))) []
number_value_fault options rows pending wt word name value s e l f =
    let found : arg_by_long (rules options) name ≡ Some (setting_rule s) = long_for options name ∙ ap (option_map option_rule) f in
    rw (no_sub wt word, e, l, found) refl

pub number_value_walk : (options : List CommandOption) (rows : List Row) (pending : Option (Text × List Text)) (wt : Waiting) (word : Text) (name value : Text) (s : Setting)
    → bytes_eq word (codes "--") ≡ false → long_of word ≡ Some (name, Some value) → option_named options name ≡ Some (Number s)
    → walked (rules options) [] (walk_at rows pending wt false) word
    ≡ walk_at (used (setting_rule s) (value ∷ []) (settled_rows (rules options) pending rows)) None idle false
unfolding walked
number_value_walk options rows pending wt word name value s e l f =
    let found : arg_by_long (rules options) name ≡ Some (setting_rule s) = long_for options name ∙ ap (option_map option_rule) f in
    rw (no_sub wt word, e, l, found) refl

pub number_fault : (options : List CommandOption) (rows : List Row) (pending : Option (Text × List Text)) (wt : Waiting) (word : Text) (name : Text) (s : Setting)
    → bytes_eq word (codes "--") ≡ false → long_of word ≡ Some (name, None) → option_named options name ≡ Some (Number s)
    → turn_fault (shape_for options) [] (walk_at rows pending wt false) word ≡ or_else (settle_fault (rules options) false (held rows pending)) []
number_fault options rows pending wt word name s e l f =
    let found : arg_by_long (rules options) name ≡ Some (setting_rule s) = long_for options name ∙ ap (option_map option_rule) f in
    rw (no_sub wt word, e, l, found) refl

pub number_walk : (options : List CommandOption) (rows : List Row) (pending : Option (Text × List Text)) (wt : Waiting) (word : Text) (name : Text) (s : Setting)
    → bytes_eq word (codes "--") ≡ false → long_of word ≡ Some (name, None) → option_named options name ≡ Some (Number s)
    → walked (rules options) [] (walk_at rows pending wt false) word
    ≡ walk_at (settled_rows (rules options) pending rows) (Some (setting_name s, [])) (option (setting_name s)) false
unfolding walked
number_walk options rows pending wt word name s e l f =
    let found : arg_by_long (rules options) name ≡ Some (setting_rule s) = long_for options name ∙ ap (option_map option_rule) f in
    rw (no_sub wt word, e, l, found) refl

pub flag_value_fault : (options : List CommandOption) (rows : List Row) (pending : Option (Text × List Text)) (wt : Waiting) (word : Text) (name value : Text) (flag : Flag)
    → bytes_eq word (codes "--") ≡ false → long_of word ≡ Some (name, Some value) → option_named options name ≡ Some (Switch flag)
    → turn_fault (shape_for options) [] (walk_at rows pending wt false) word ≡ kind.TooManyValues ∷ []
flag_value_fault options rows pending wt word name value flag e l f =
    let found : arg_by_long (rules options) name ≡ Some (flag_rule flag) = long_for options name ∙ ap (option_map option_rule) f in
    rw (no_sub wt word, e, l, found) refl

pub flag_fault : (options : List CommandOption) (rows : List Row) (pending : Option (Text × List Text)) (wt : Waiting) (word : Text) (name : Text) (flag : Flag)
    → bytes_eq word (codes "--") ≡ false → long_of word ≡ Some (name, None) → option_named options name ≡ Some (Switch flag)
    → turn_fault (shape_for options) [] (walk_at rows pending wt false) word
    ≡ or_else (or_else (settle_fault (rules options) false (held rows pending)) (use_fault false (flag_rule flag) [] (settled_rows (rules options) pending rows))) []
flag_fault options rows pending wt word name flag e l f =
    let found : arg_by_long (rules options) name ≡ Some (flag_rule flag) = long_for options name ∙ ap (option_map option_rule) f in
    rw (no_sub wt word, e, l, found) refl

pub flag_walk : (options : List CommandOption) (rows : List Row) (pending : Option (Text × List Text)) (wt : Waiting) (word : Text) (name : Text) (flag : Flag)
    → bytes_eq word (codes "--") ≡ false → long_of word ≡ Some (name, None) → option_named options name ≡ Some (Switch flag)
    → walked (rules options) [] (walk_at rows pending wt false) word ≡ walk_at (used (flag_rule flag) [] (settled_rows (rules options) pending rows)) None idle false
unfolding walked
flag_walk options rows pending wt word name flag e l f =
    let found : arg_by_long (rules options) name ≡ Some (flag_rule flag) = long_for options name ∙ ap (option_map option_rule) f in
    rw (no_sub wt word, e, l, found) refl

-- a short option
pub short_fault : (options : List CommandOption) (rows : List Row) (pending : Option (Text × List Text)) (wt : Waiting) (word : Text) (byte x : ℕ) (bytes : Text)
    → bytes_eq word (codes "--") ≡ false → long_of word ≡ None → short_of word ≡ Some (byte ∷ bytes) → slice_get (chars (byte ∷ bytes)) 0 ≡ Some x
    → turn_fault (shape_for options) [] (walk_at rows pending wt false) word ≡ kind.UnknownArgument ∷ []
unfolding flags_fault
short_fault options rows pending wt word byte x bytes e l h first = rw (no_sub wt word, e, l, h, first, short_for options x) refl

-- any other word
abbrev pub IsFree : Waiting → Type 0
IsFree wt = (word : Text) (h : Held) (c : List Rule) → plain_word c wt word h ≡ (h, as_value)

pub plain_fault : (options : List CommandOption) (rows : List Row) (pending : Option (Text × List Text)) (wt : Waiting) (word : Text) → IsFree wt
    → bytes_eq word (codes "--") ≡ false → long_of word ≡ None → short_of word ≡ None
    → turn_fault (shape_for options) [] (walk_at rows pending wt false) word ≡ settle_fault (rules options) false (held rows pending)
plain_fault options rows pending wt word free e l h =
    rw (no_sub wt word, e, l, h, free word (held rows pending) (rules options), word_index_for options) (position_fault options (held rows pending))

pub plain_walk : (options : List CommandOption) (rows : List Row) (pending : Option (Text × List Text)) (wt : Waiting) (word : Text) → IsFree wt
    → bytes_eq word (codes "--") ≡ false → long_of word ≡ None → short_of word ≡ None
    → walked (rules options) [] (walk_at rows pending wt false) word
    ≡ walk_at (settled_rows (rules options) pending rows) (Some (codes "word", word ∷ [])) positional false
unfolding walked
plain_walk options rows pending wt word free e l h =
    rw (no_sub wt word, e, l, h, free word (held rows pending) (rules options), word_index_for options, position_held options word rows pending) refl

-- the value of an option
pub value_fault : (options : List CommandOption) (s : Setting) (rows : List Row) (word : Text)
    → bytes_eq word (codes "--") ≡ false → long_of word ≡ None → short_of word ≡ None
    → turn_fault (shape_for options) [] (walk_at rows (Some (setting_name s, [])) (option (setting_name s)) false) word ≡ []
value_fault options s rows word e l h = rw (e, l, h) refl

pub value_walk : (options : List CommandOption) (s : Setting) (rows : List Row) (word : Text) → arg_by_id (rules options) (setting_name s) ≡ Some (setting_rule s)
    → bytes_eq word (codes "--") ≡ false → long_of word ≡ None → short_of word ≡ None
    → walked (rules options) [] (walk_at rows (Some (setting_name s, [])) (option (setting_name s)) false) word ≡ walk_at rows (Some (setting_name s, word ∷ [])) idle false
unfolding walked
value_walk options s rows word found e l h = rw (e, l, h, found, (own_name s).same) refl
