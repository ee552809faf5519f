-- What a scope declares a name as, one declaration after another.
use Rattle.std.proofs.Common.{◌≡◌, ◌⊎◌, ℕ, Bool, true, false, cond, not, List, [], ◌∷◌, ◌++◌, Option, None, Some, refl, ap, sym, ◌∙◌, subst, inl, inr, is_some, if◌then◌else◌, true≢false, append-nil, append_assoc}
use Rattle.std.specs.Map.{lookup}
use Rattle.std.specs.Str.{bytes_eq}
use Rattle.std.proofs.lemmas.Bool.{false≢true}
use Rattle.std.proofs.lemmas.Slice.Eq.{bytes_eq-Decides}
use Rattle.sr_names.specs.declared.finding.Finding.{Finding}
use Rattle.sr_names.specs.declared.meaning.Decl.{Decl}
use Rattle.sr_names.specs.declared.meaning.Sort.{Sort}
use Rattle.sr_names.specs.Entries.{Entries}
use Rattle.sr_names.specs.Readings.{declaration, twice_unless}
use Rattle.sr_names.specs.Tables.{declared_as, with_decl}
use Rattle.sr_tree.specs.declared.name.Name.{Name}
use Rattle.sr_scope.specs.Declares.{name_declared, name_twice, names_declared, names_twice}
use Rattle.sr_scope.specs.Uses.{IsIn}
use Rattle.sr_scope.proofs.Findings.{ErrorFree, error_free_first, error_free_after}

pub bytes_same : (a b : List ℕ) → bytes_eq a b ≡ true → a ≡ b
bytes_same a b e = (bytes_eq-Decides a b).0 e

pub bytes_self : (a b : List ℕ) → a ≡ b → bytes_eq a b ≡ true
bytes_self a b e = (bytes_eq-Decides a b).1 e

-- ---- entries

module _ {V : Type 0} (test : List ℕ → Bool) where
  kept_before : (entries more : List (List ℕ × V)) (v : V) → lookup test entries ≡ Some v → lookup test (entries ++ more) ≡ Some v
  kept_before [] more v e = absurd (false≢true (ap is_some e))
  kept_before (entry ∷ entries) more v e = by (test entry.0) (kept_before entries more v) e
    where
      by : (b : Bool) → (lookup test entries ≡ Some v → lookup test (entries ++ more) ≡ Some v)
          → cond b (Some entry.1) (lookup test entries) ≡ Some v → cond b (Some entry.1) (lookup test (entries ++ more)) ≡ Some v
      by true rest h = h
      by false rest h = rest h

  found_last : (entries : List (List ℕ × V)) (name : List ℕ) (v : V) → lookup test entries ≡ None → test name ≡ true → lookup test (entries ++ (name, v) ∷ []) ≡ Some v
  found_last [] name v e h = ap (λ b. cond b (Some v) None) h
  found_last (entry ∷ entries) name v e h = by (test entry.0) (λ none. found_last entries name v none h) e
    where
      by : (b : Bool) → (lookup test entries ≡ None → lookup test (entries ++ (name, v) ∷ []) ≡ Some v)
          → cond b (Some entry.1) (lookup test entries) ≡ None → cond b (Some entry.1) (lookup test (entries ++ (name, v) ∷ [])) ≡ Some v
      by true rest none = absurd (true≢false (ap is_some none))
      by false rest none = rest none

  found_before : (entries : List (List ℕ × V)) (name : List ℕ) (v w : V) → lookup test (entries ++ (name, v) ∷ []) ≡ Some w
      → (lookup test entries ≡ Some w) ⊎ ((test name ≡ true) × (v ≡ w))
  found_before [] name v w e = by (test name) refl e
    where
      by : (b : Bool) → test name ≡ b → cond b (Some v) None ≡ Some w → (lookup test [] ≡ Some w) ⊎ ((test name ≡ true) × (v ≡ w))
      by true is h = inr (is, cc)
      by false is h = absurd (false≢true (ap is_some h))
  found_before (entry ∷ entries) name v w e = by (test entry.0) (found_before entries name v w) e
    where
      by : (b : Bool) → (lookup test (entries ++ (name, v) ∷ []) ≡ Some w → (lookup test entries ≡ Some w) ⊎ ((test name ≡ true) × (v ≡ w)))
          → cond b (Some entry.1) (lookup test (entries ++ (name, v) ∷ [])) ≡ Some w
          → (cond b (Some entry.1) (lookup test entries) ≡ Some w) ⊎ ((test name ≡ true) × (v ≡ w))
      by true rest h = inl h
      by false rest h = rest h

-- ---- one declaration

-- what is declared stays
pub kept : (table : Entries) (name text : List ℕ) (decl d : Decl) → declared_as table text ≡ Some d → declared_as (with_decl table name decl) text ≡ Some d
kept table name text decl d e = by (is_some (declared_as table name))
  where
    by : (b : Bool) → declared_as (if b then table else table ++ (name, decl) ∷ []) text ≡ Some d
    by true = e
    by false = kept_before (bytes_eq text) table ((name, decl) ∷ []) d e

-- a name that isn't declared yet is declared so
pub declared_new : (table : Entries) (name : List ℕ) (decl : Decl) → declared_as table name ≡ None → declared_as (with_decl table name decl) name ≡ Some decl
declared_new table name decl none =
    ap (λ b. declared_as (if b then table else table ++ (name, decl) ∷ []) name) (ap is_some none)
    ∙ found_last (bytes_eq name) table name decl none (bytes_self name name refl)

-- what is declared was before, or is this name
pub declared_before : (table : Entries) (name text : List ℕ) (decl d : Decl) → declared_as (with_decl table name decl) text ≡ Some d
    → (declared_as table text ≡ Some d) ⊎ ((text ≡ name) × (decl ≡ d))
declared_before table name text decl d = by (is_some (declared_as table name))
  where
    last : (lookup (bytes_eq text) table ≡ Some d) ⊎ ((bytes_eq text name ≡ true) × (decl ≡ d)) → (declared_as table text ≡ Some d) ⊎ ((text ≡ name) × (decl ≡ d))
    last (inl e) = inl e
    last (inr h) = inr (bytes_same text name h.0, h.1)

    by : (b : Bool) → declared_as (if b then table else table ++ (name, decl) ∷ []) text ≡ Some d → (declared_as table text ≡ Some d) ⊎ ((text ≡ name) × (decl ≡ d))
    by true e = inl e
    by false e = last (found_before (bytes_eq text) table name decl d e)

-- a name that isn't declared then wasn't before
pub none_before : (table : Entries) (name text : List ℕ) (decl : Decl) → declared_as (with_decl table name decl) text ≡ None → declared_as table text ≡ None
none_before table name text decl none = by (declared_as table text) refl
  where
    by : (found : Option Decl) → declared_as table text ≡ found → declared_as table text ≡ None
    by None is = is
    by (Some d) is = absurd (true≢false (ap is_some (sym (kept table name text decl d is) ∙ none)))

-- a name that is declared is declared as something
pub something : (table : Entries) (name : List ℕ) (decl : Decl) → declared_as (with_decl table name decl) name ≡ None → ⊥
something table name decl none =
    true≢false (ap is_some (sym (declared_new table name decl (none_before table name name decl none)) ∙ none))

-- ---- a name that isn't declared twice

pub twice_new : (sort : Sort) (name : Name) (table : Entries) → ErrorFree (name_twice sort name table) → declared_as table name.text ≡ None
twice_new sort name table error_free = by (declared_as table name.text) error_free
  where
    by : (found : Option Decl) → ErrorFree (twice_unless (not (is_some found)) name.span) → found ≡ None
    by None h = refl
    by (Some d) h = absurd (false≢true h)

-- ---- declarations in their order

abbrev pub all_declared : List (Sort × Name) → Entries → Entries
all_declared [] table = table
all_declared (d ∷ ds) table = all_declared ds (name_declared d.0 d.1 table)

abbrev pub all_twice : List (Sort × Name) → Entries → List Finding
all_twice [] table = []
all_twice (d ∷ ds) table = name_twice d.0 d.1 table ++ all_twice ds (name_declared d.0 d.1 table)

pub all_kept : (ds : List (Sort × Name)) (table : Entries) (text : List ℕ) (d : Decl) → declared_as table text ≡ Some d → declared_as (all_declared ds table) text ≡ Some d
all_kept [] table text d e = e
all_kept (one ∷ ds) table text d e = all_kept ds (name_declared one.0 one.1 table) text d (kept table one.1.text text (declaration one.0 one.1.span) d e)

-- where none is declared twice each is declared as it stands there
pub each_declared : (ds : List (Sort × Name)) (table : Entries) → ErrorFree (all_twice ds table) → (sort : Sort) (name : Name) → IsIn (sort, name) ds
    → declared_as (all_declared ds table) name.text ≡ Some (declaration sort name.span)
each_declared [] table error_free sort name among = absurd among
each_declared (one ∷ ds) table error_free sort name (inl is) =
    subst (λ (d : Sort × Name). declared_as (all_declared (one ∷ ds) table) d.1.text ≡ Some (declaration d.0 d.1.span)) is
    (all_kept ds (name_declared one.0 one.1 table) one.1.text (declaration one.0 one.1.span)
    (declared_new table one.1.text (declaration one.0 one.1.span) (twice_new one.0 one.1 table (error_free_first (name_twice one.0 one.1 table) _ error_free))))
each_declared (one ∷ ds) table error_free sort name (inr among) =
    each_declared ds (name_declared one.0 one.1 table) (error_free_after (name_twice one.0 one.1 table) _ error_free) sort name among

-- what is declared was before, or is one of these
pub declared_among : (ds : List (Sort × Name)) (table : Entries) (text : List ℕ) (d : Decl) → declared_as (all_declared ds table) text ≡ Some d
    → (declared_as table text ≡ Some d) ⊎ ((sort : Sort) × (name : Name) × (IsIn (sort, name) ds) × (text ≡ name.text) × (d ≡ declaration sort name.span))
declared_among [] table text d e = inl e
declared_among (one ∷ ds) table text d e = by (declared_among ds (name_declared one.0 one.1 table) text d e)
  where
    now : (declared_as table text ≡ Some d) ⊎ ((text ≡ one.1.text) × (declaration one.0 one.1.span ≡ d))
        → (declared_as table text ≡ Some d) ⊎ ((sort : Sort) × (name : Name) × (IsIn (sort, name) (one ∷ ds)) × (text ≡ name.text) × (d ≡ declaration sort name.span))
    now (inl h) = inl h
    now (inr h) = inr (one.0, one.1, inl refl, h.0, sym h.1)

    by : (declared_as (name_declared one.0 one.1 table) text ≡ Some d) ⊎ ((sort : Sort) × (name : Name) × (IsIn (sort, name) ds) × (text ≡ name.text) × (d ≡ declaration sort name.span))
        → (declared_as table text ≡ Some d) ⊎ ((sort : Sort) × (name : Name) × (IsIn (sort, name) (one ∷ ds)) × (text ≡ name.text) × (d ≡ declaration sort name.span))
    by (inl h) = now (declared_before table one.1.text text (declaration one.0 one.1.span) d h)
    by (inr h) = inr (h.0, h.1, inr h.2, h.3, h.4)

-- ---- which declarations these are

-- a way to declare and what it finds declared twice, as declarations in their order
pub record Declares (ds : List (Sort × Name)) (declared : Entries → Entries) (twice : Entries → List Finding) : Type 0 where
  pub table : (before : Entries) → declared before ≡ all_declared ds before
  pub found : (table : Entries) → twice table ≡ all_twice ds table

appended : (ds es : List (Sort × Name)) (table : Entries) → all_declared (ds ++ es) table ≡ all_declared es (all_declared ds table)
appended [] es table = refl
appended (d ∷ ds) es table = appended ds es (name_declared d.0 d.1 table)

twice_appended : (ds es : List (Sort × Name)) (table : Entries) → all_twice (ds ++ es) table ≡ all_twice ds table ++ all_twice es (all_declared ds table)
twice_appended [] es table = refl
twice_appended (d ∷ ds) es table =
    ap (λ found. name_twice d.0 d.1 table ++ found) (twice_appended ds es (name_declared d.0 d.1 table)) ∙ sym (append_assoc (name_twice d.0 d.1 table) _ _)

abbrev pub sorted : Sort → List Name → List (Sort × Name)
sorted sort [] = []
sorted sort (name ∷ names) = (sort, name) ∷ sorted sort names

pub no_names : Declares [] (λ table. table) (λ table. [])
no_names = record { table = λ before. refl; found = λ before. refl }

pub one_name : (sort : Sort) (name : Name) → Declares ((sort, name) ∷ []) (name_declared sort name) (name_twice sort name)
one_name sort name = record { table = λ before. refl; found = λ before. sym (append-nil (name_twice sort name before)) }

pub some_names : (sort : Sort) (names : List Name) → Declares (sorted sort names) (names_declared sort names) (names_twice sort names)
some_names sort [] = no_names
some_names sort (name ∷ names) = record {
  table = λ before. (some_names sort names).table (name_declared sort name before);
  found = λ before. ap (λ found. name_twice sort name before ++ found) ((some_names sort names).found (name_declared sort name before));
}

-- one after the other
pub in_turn : (ds es : List (Sort × Name)) (first second : Entries → Entries) (one other : Entries → List Finding) → Declares ds first one → Declares es second other
    → Declares (ds ++ es) (λ table. second (first table)) (λ table. one table ++ other (first table))
in_turn ds es first second one other a b = record {
  table = λ before. b.table (first before) ∙ ap (all_declared es) (a.table before) ∙ sym (appended ds es before);
  found = λ before.
      ap (λ found. found ++ other (first before)) (a.found before)
      ∙ ap (λ found. all_twice ds before ++ found) (b.found (first before) ∙ ap (all_twice es) (a.table before))
      ∙ sym (twice_appended ds es before);
}
