-- The rows of the parts say what is taken of them.
use Rattle.std.proofs.Common.{◌≡◌, ◌∙◌, ℕ, Bool, true, false, inl, inr, List, [], ◌∷◌, ◌++◌, refl, sym, ap, subst, codes, Option, Some, None, true≢false}
use Rattle.std.specs.Prelude.{⊤, if◌then◌else◌, find, is_some, option_and_then, unwrap_or}
use Rattle.std.specs.Option.{option_map}
use Rattle.std.specs.Str.{bytes_eq}
use Rattle.std.proofs.lemmas.Slice.Eq.{bytes_eq-Decides}
use Rattle.std.proofs.lemmas.Option.{none-some}
use Rattle.clap.specs.Walk.{Row, Text, all_of, has_row, with_values, without}
use Rattle.clap.specs.declared.builder.value_parser.Reading.{Reading}
use Rattle.clap.specs.declared.builder.value_parser.Reading.TheVariants.{AsWritten}
use Rattle.clap.specs.declared.parser.matches.ValueSource.{ValueSource}
use Rattle.clap.specs.declared.parser.matches.ValueSource.TheVariants.{CommandLine}
use Rattle.sr_words.specs.declared.options.Flag.{Flag}
use Rattle.sr_words.specs.declared.options.Flag.TheVariants.{Journal, Where, Picture}
use Rattle.sr_words.specs.declared.options.Setting.{Setting}
use Rattle.sr_words.specs.declared.options.Setting.TheVariants.{Workers, Steps, Ticks, Upto}
use Rattle.sr_words.specs.Options.{flag_name, setting_name}
use Rattle.sr_words.specs.Parts.{Part, plain, switch, given}
use Rattle.sr_words.specs.Commands.{Taken, flag_in, nothing_taken, take_all, take_one, value_in, with_flag, with_value}
use Rattle.sr_words.proofs.Settings.{flag_after_word, others_kept, own_flag, own_flag_given, own_name, own_value, same_or_apart, same_or_other, value_after_flag, value_after_word, words_after_flag}
use Rattle.sr_words.proofs.Walks.{add_all, add_one}

abbrev pub row_at : Text → List Row → Option Row
row_at id rows = find (λ r. bytes_eq r.id id) rows

abbrev pub new_row : Text → Reading → ValueSource → List Text → Row
new_row id how source values = record { id = id; values = values; count = None; source = Some source; reading = how }

pub other_row : (id own : Text) (how : Reading) (source : ValueSource) (values : List Text) (rows : List Row) → bytes_eq own id ≡ false
    → row_at id (with_values own how source values rows) ≡ row_at id rows
other_row id own how source values [] e = rw e refl
other_row id own how source values (r ∷ rows) e = go (other_row id own how source values rows e) (bytes_eq r.id own) refl (bytes_eq r.id id) refl
  where
    go : row_at id (with_values own how source values rows) ≡ row_at id rows
        → (b : Bool) → bytes_eq r.id own ≡ b → (c : Bool) → bytes_eq r.id id ≡ c
        → row_at id (with_values own how source values (r ∷ rows)) ≡ row_at id (r ∷ rows)
    go later true f true h =
        let is : r.id ≡ own = (bytes_eq-Decides r.id own).0 f in
        let bad : bytes_eq own id ≡ true = ap (λ x. bytes_eq x id) (sym is) ∙ h in
        absurd (true≢false (sym bad ∙ e))
    go later true f false h = rw (f, h) refl
    go later false f true h = rw (f, h) refl
    go later false f false h = rw (f, h) later

pub first_row : (id : Text) (how : Reading) (source : ValueSource) (values : List Text) (rows : List Row) → bytes_eq id id ≡ true → row_at id rows ≡ None
    → row_at id (with_values id how source values rows) ≡ Some (new_row id how source values)
first_row id how source values [] same none = rw same refl
first_row id how source values (r ∷ rows) same none = go (λ e. first_row id how source values rows same e) (bytes_eq r.id id) refl
  where
    go : (row_at id rows ≡ None → row_at id (with_values id how source values rows) ≡ Some (new_row id how source values))
        → (b : Bool) → bytes_eq r.id id ≡ b → row_at id (with_values id how source values (r ∷ rows)) ≡ Some (new_row id how source values)
    go later true f = absurd (none-some r (sym (rw f at none)))
    go later false f = rw (f, f) (later (rw f at none))

pub without_none : (id : Text) (rows : List Row) → row_at id rows ≡ None → without id rows ≡ rows
without_none id [] none = refl
without_none id (r ∷ rows) none = go (λ e. without_none id rows e) (bytes_eq r.id id) refl
  where
    go : (row_at id rows ≡ None → without id rows ≡ rows) → (b : Bool) → bytes_eq r.id id ≡ b → without id (r ∷ rows) ≡ r ∷ rows
    go later true f = absurd (none-some r (sym (rw f at none)))
    go later false f = rw f (ap (λ rs. r ∷ rs) (later (rw f at none)))

pub more_row : (id : Text) (how : Reading) (source : ValueSource) (values : List Text) (rows : List Row) → bytes_eq id id ≡ true
    → all_of id (with_values id how source values rows) ≡ Some (unwrap_or (all_of id rows) [] ++ values)
more_row id how source values [] same = rw same refl
more_row id how source values (r ∷ rows) same = go (more_row id how source values rows same) (bytes_eq r.id id) refl
  where
    go : all_of id (with_values id how source values rows) ≡ Some (unwrap_or (all_of id rows) [] ++ values)
        → (b : Bool) → bytes_eq r.id id ≡ b → all_of id (with_values id how source values (r ∷ rows)) ≡ Some (unwrap_or (all_of id (r ∷ rows)) [] ++ values)
    go later true f = rw (f, f) refl
    go later false f = rw (f, f) later

pub has_row-find : (id : Text) (rows : List Row) → has_row id rows ≡ is_some (row_at id rows)
has_row-find id [] = refl
has_row-find id (r ∷ rows) = go (has_row-find id rows) (bytes_eq r.id id) refl
  where
    go : has_row id rows ≡ is_some (row_at id rows) → (b : Bool) → bytes_eq r.id id ≡ b → has_row id (r ∷ rows) ≡ is_some (row_at id (r ∷ rows))
    go later true f = rw f refl
    go later false f = rw f later

-- ---- what rows say, while parts are added

abbrev pub given_row : Setting → List ℕ → Row
given_row s value = new_row (setting_name s) AsWritten CommandLine (value ∷ [])

abbrev pub flag_row : Flag → Row
flag_row flag = new_row (flag_name flag) AsWritten CommandLine (codes "true" ∷ [])

abbrev pub row_if : Flag → Bool → Option Row
row_if flag is_given = if is_given then Some (flag_row flag) else None

-- the values of an argument that takes several, where it has any
abbrev pub some_texts : List Text → Option (List Text)
some_texts [] = None
some_texts (text ∷ texts) = Some (text ∷ texts)

pub record Shows (rows : List Row) (t : Taken) : Type 0 where
  pub settings : (s : Setting) → row_at (setting_name s) rows ≡ option_map (given_row s) (value_in s t)
  pub flags : (flag : Flag) → row_at (flag_name flag) rows ≡ row_if flag (flag_in flag t)
  pub words : all_of (codes "word") rows ≡ some_texts t.words

abbrev pub Agree : Option (List Row) → Option Taken → Type 0
Agree None None = ⊤
Agree None (Some t) = ⊥
Agree (Some rows) None = ⊥
Agree (Some rows) (Some t) = Shows rows t

-- a word
some_more : (words : List Text) (word : Text) → Some (unwrap_or (some_texts words) [] ++ word ∷ []) ≡ some_texts (words ++ word ∷ [])
some_more [] word = refl
some_more (first ∷ words) word = refl

add_plain : (rows : List Row) (t : Taken) (word : Text) → Shows rows t → Agree (add_one rows (plain word)) (take_one t (plain word))
add_plain rows t word shows = record {
  settings = λ s. other_row (setting_name s) (codes "word") AsWritten CommandLine (word ∷ []) rows (own_name s).not_of_word
      ∙ (shows.settings s ∙ ap (option_map (given_row s)) (sym (value_after_word s t (t.words ++ word ∷ []))));
  flags = λ flag. other_row (flag_name flag) (codes "word") AsWritten CommandLine (word ∷ []) rows (own_flag flag).not_of_word
      ∙ (shows.flags flag ∙ ap (row_if flag) (sym (flag_after_word flag t (t.words ++ word ∷ []))));
  words = more_row (codes "word") AsWritten CommandLine (word ∷ []) rows refl
      ∙ (ap (λ o. Some (unwrap_or o [] ++ word ∷ [])) shows.words ∙ some_more t.words word);
}

-- an option that stands at most once
add_given : (rows : List Row) (s : Setting) (value : Text)
    → add_one rows (given s value)
    ≡ (if has_row (setting_name s) rows then None
    else Some (with_values (setting_name s) AsWritten CommandLine (value ∷ []) (without (setting_name s) rows)))
add_given rows s value = go (has_row (setting_name s) rows) refl
  where
    go : (b : Bool) → has_row (setting_name s) rows ≡ b → add_one rows (given s value)
        ≡ (if has_row (setting_name s) rows then None else Some (with_values (setting_name s) AsWritten CommandLine (value ∷ []) (without (setting_name s) rows)))
    go true e = rw e refl
    go false e = rw e refl

add_flag : (rows : List Row) (flag : Flag)
    → add_one rows (switch flag)
    ≡ (if has_row (flag_name flag) rows then None
    else Some (with_values (flag_name flag) AsWritten CommandLine (codes "true" ∷ []) (without (flag_name flag) rows)))
add_flag rows flag = go (has_row (flag_name flag) rows) refl
  where
    go : (b : Bool) → has_row (flag_name flag) rows ≡ b → add_one rows (switch flag)
        ≡ (if has_row (flag_name flag) rows then None
        else Some (with_values (flag_name flag) AsWritten CommandLine (codes "true" ∷ []) (without (flag_name flag) rows)))
    go true e = rw e refl
    go false e = rw e refl

setting_shown : (rows : List Row) (t : Taken) (s : Setting) (value : Text) → Shows rows t → row_at (setting_name s) rows ≡ None → (u : Setting)
    → row_at (setting_name u) (with_values (setting_name s) AsWritten CommandLine (value ∷ []) rows)
    ≡ option_map (given_row u) (value_in u (with_value s value t))
setting_shown rows t s value shows none u =
    elim (same_or_apart s u) [
      | inl same ↦
          subst (λ v. row_at (setting_name v) (with_values (setting_name s) AsWritten CommandLine (value ∷ []) rows)
          ≡ option_map (given_row v) (value_in v (with_value s value t))) same
          (first_row (setting_name s) AsWritten CommandLine (value ∷ []) rows (own_name s).same none
          ∙ ap (option_map (given_row s)) (sym (own_value s value t)))
      | inr apart ↦
          other_row (setting_name u) (setting_name s) AsWritten CommandLine (value ∷ []) rows apart.0
          ∙ (shows.settings u ∙ ap (option_map (given_row u)) (sym (apart.1 value t)))
    ]

agree_given : (rows : List Row) (t : Taken) (s : Setting) (value : Text) → Shows rows t → (o : Option Text) → value_in s t ≡ o
    → Agree (add_one rows (given s value)) (take_one t (given s value))
agree_given rows t s value shows (Some old) e =
    let some : row_at (setting_name s) rows ≡ Some (given_row s old) = shows.settings s ∙ ap (option_map (given_row s)) e in
    let had : has_row (setting_name s) rows ≡ true = has_row-find (setting_name s) rows ∙ ap (λ x. is_some x) some in
    rw (add_given rows s value, had, e) tt
agree_given rows t s value shows None e =
    let none : row_at (setting_name s) rows ≡ None = shows.settings s ∙ ap (option_map (given_row s)) e in
    let had : has_row (setting_name s) rows ≡ false = has_row-find (setting_name s) rows ∙ ap (λ x. is_some x) none in
    let kept = others_kept s value t in
    rw (add_given rows s value, had, without_none (setting_name s) rows none, e) (record {
      settings = setting_shown rows t s value shows none;
      flags = λ flag. other_row (flag_name flag) (setting_name s) AsWritten CommandLine (value ∷ []) rows ((own_name s).no_flag flag)
          ∙ (shows.flags flag ∙ ap (row_if flag) (sym (kept.0 flag)));
      words = ap (option_map (λ r. r.values)) (other_row (codes "word") (setting_name s) AsWritten CommandLine (value ∷ []) rows (own_name s).no_word)
          ∙ (shows.words ∙ ap some_texts (sym kept.1));
    })

flag_shown : (rows : List Row) (t : Taken) (flag : Flag) → Shows rows t → row_at (flag_name flag) rows ≡ None → (other : Flag)
    → row_at (flag_name other) (with_values (flag_name flag) AsWritten CommandLine (codes "true" ∷ []) rows) ≡ row_if other (flag_in other (with_flag flag t))
flag_shown rows t flag shows none other =
    elim (same_or_other flag other) [
      | inl same ↦
          subst (λ g. row_at (flag_name g) (with_values (flag_name flag) AsWritten CommandLine (codes "true" ∷ []) rows) ≡ row_if g (flag_in g (with_flag flag t))) same
          (first_row (flag_name flag) AsWritten CommandLine (codes "true" ∷ []) rows (own_flag flag).same none
          ∙ ap (row_if flag) (sym (own_flag_given flag t)))
      | inr apart ↦
          other_row (flag_name other) (flag_name flag) AsWritten CommandLine (codes "true" ∷ []) rows apart.0
          ∙ (shows.flags other ∙ ap (row_if other) (sym (apart.1 t)))
    ]

agree_flag : (rows : List Row) (t : Taken) (flag : Flag) → Shows rows t → (b : Bool) → flag_in flag t ≡ b → Agree (add_one rows (switch flag)) (take_one t (switch flag))
agree_flag rows t flag shows true e =
    let some : row_at (flag_name flag) rows ≡ Some (flag_row flag) = shows.flags flag ∙ ap (row_if flag) e in
    let had : has_row (flag_name flag) rows ≡ true = has_row-find (flag_name flag) rows ∙ ap (λ x. is_some x) some in
    rw (add_flag rows flag, had, e) tt
agree_flag rows t flag shows false e =
    let none : row_at (flag_name flag) rows ≡ None = shows.flags flag ∙ ap (row_if flag) e in
    let had : has_row (flag_name flag) rows ≡ false = has_row-find (flag_name flag) rows ∙ ap (λ x. is_some x) none in
    rw (add_flag rows flag, had, without_none (flag_name flag) rows none, e) (record {
      settings = λ s. other_row (setting_name s) (flag_name flag) AsWritten CommandLine (codes "true" ∷ []) rows ((own_name s).not_of_flag flag)
          ∙ (shows.settings s ∙ ap (option_map (given_row s)) (sym (value_after_flag s flag t)));
      flags = flag_shown rows t flag shows none;
      words = ap (option_map (λ r. r.values)) (other_row (codes "word") (flag_name flag) AsWritten CommandLine (codes "true" ∷ []) rows (own_flag flag).no_word)
          ∙ (shows.words ∙ ap some_texts (sym (words_after_flag flag t)));
    })

agree_one : (rows : List Row) (t : Taken) (p : Part) → Shows rows t → Agree (add_one rows p) (take_one t p)
agree_one rows t (plain word) shows = add_plain rows t word shows
agree_one rows t (switch flag) shows = agree_flag rows t flag shows (flag_in flag t) refl
agree_one rows t (given s value) shows = agree_given rows t s value shows (value_in s t) refl

agree_next : (ps : List Part) → ((rows : List Row) (t : Taken) → Shows rows t → Agree (add_all rows ps) (take_all t ps))
    → (o : Option (List Row)) (q : Option Taken) → Agree o q → Agree (option_and_then (λ r. add_all r ps) o) (option_and_then (λ n. take_all n ps) q)
agree_next ps later None None a = tt
agree_next ps later None (Some t) a = absurd a
agree_next ps later (Some rows) None a = absurd a
agree_next ps later (Some rows) (Some t) a = later rows t a

pub agree : (ps : List Part) (rows : List Row) (t : Taken) → Shows rows t → Agree (add_all rows ps) (take_all t ps)
agree [] rows t shows = shows
agree (p ∷ ps) rows t shows = agree_next ps (agree ps) (add_one rows p) (take_one t p) (agree_one rows t p shows)

none_at_first : (s : Setting) → row_at (setting_name s) [] ≡ option_map (given_row s) (value_in s nothing_taken)
none_at_first Workers = refl
none_at_first Steps = refl
none_at_first Ticks = refl
none_at_first Upto = refl

no_flag_at_first : (flag : Flag) → row_at (flag_name flag) [] ≡ row_if flag (flag_in flag nothing_taken)
no_flag_at_first Journal = refl
no_flag_at_first Where = refl
no_flag_at_first Picture = refl

pub at_first : Shows [] nothing_taken
at_first = record { settings = none_at_first; flags = no_flag_at_first; words = refl }
