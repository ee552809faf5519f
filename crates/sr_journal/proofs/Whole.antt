-- A journal as one format, and what its reader tells of any bytes.
use Rattle.std.proofs.Common.{◌≡◌, refl, sym, ◌∙◌, ap, subst, ℕ, ◌<◌, Bool, true, false, cond, eqb, Some, None, List, [], ◌∷◌, ◌++◌, length, Result, Ok, Err, append_assoc, arith}
use Rattle.std.specs.Prelude.{codes}
use Rattle.std.proofs.lemmas.Bool.{eqb-true, eqb-false}
use Rattle.sr_ask.specs.declared.item.Item.{Item}
use Rattle.sr_journal.specs.declared.header.Header.{Header}
use Rattle.sr_journal.specs.declared.fail.JournalFail.{JournalFail}
use Rattle.sr_journal.specs.declared.fail.JournalFail.TheVariants.{NotJournal, Truncated, Version, NoMemory}
use Rattle.sr_journal.specs.Numbers.{number_text}
use Rattle.sr_journal.specs.Journal.{newline, version_line, files_text, limits_line, items_text, version_text, tells_time, IsVersion, IsWithin}
use Rattle.sr_journal.specs.Causes.{IsJournal, IsBeginning, IsOtherVersion}
use Rattle.sr_journal.specs.Reading.{Reading, ◌>>=◌, word_at, number_at, files_at, limits_at, items_at, first_line_at, parts_at, journal_at, version_at}
use Rattle.sr_journal.proofs.Formats.{Format, IsRead, Judged, Left, ended, then}
use Rattle.sr_journal.proofs.Journals.{AreFiles, Files, files-judged, one-file, AreLimits, Limits, limits-judged, limits-from, one-step, one-tick, AreItems, Items, items-judged, equal, any-stands, stands-above, at-least, at-most, no-newline}
use Rattle.sr_journal.proofs.Lists.{append-nil, cancel, no-more as none-longer}
use Rattle.sr_journal.proofs.Numbers.{CanStand, Number, number-judged, at-end}
use Rattle.sr_journal.proofs.Words.{Rest, after}

abbrev pub Journal : Type 0
Journal = Header × List Item

abbrev last-line : Journal → List ℕ
last-line p = codes "end" ++ newline

abbrev after-limits : Journal → List ℕ
after-limits p = items_text p.1 ++ last-line p

abbrev after-files : Journal → List ℕ
after-files p = limits_line p.0.steps p.0.ticks ++ after-limits p

abbrev after-first : Journal → List ℕ
after-first p = files_text p.0.files ++ after-files p

-- what stands after the first line
abbrev pub Parts : Bool → Format Journal
Parts timed = record { Holds = λ p. IsWithin timed p.0 p.1; text = after-first }

abbrev nothing : Journal → List ℕ
nothing p = []

abbrev files-of : Journal → List (ℕ × List ℕ)
files-of p = p.0.files

abbrev limits-of : Journal → ℕ × ℕ
limits-of p = (p.0.steps, p.0.ticks)

abbrev items-of : Journal → List Item
items-of p = p.1

abbrev header : List (ℕ × List ℕ) → ℕ × ℕ → Header
header files limits = record { files = files; steps = limits.0; ticks = limits.1 }

module _ (timed : Bool) where
  range : (files : List (ℕ × List ℕ)) (limits : ℕ × ℕ) (items : List Item) → AreFiles files → AreLimits limits → AreItems timed limits.0 items → IsWithin timed (header files limits) items
  range files limits items f l i = record {
    some_file = f.some;
    few_files = f.few;
    each_file = f.each;
    some_steps = l.some_steps;
    few_steps = l.few_steps;
    some_ticks = l.some_ticks;
    few_ticks = l.few_ticks;
    few_items = i.0;
    each_item = i.1;
  }

  least : AreLimits (1, 1)
  least = limits-from 1 1 one-step one-tick

  no-items : (limits : ℕ × ℕ) → AreItems timed limits.0 []
  no-items limits = (omega arith, tt)

  files-in : (p : Journal) → IsWithin timed p.0 p.1 → AreFiles p.0.files
  files-in p h = record { some = h.some_file; few = h.few_files; each = h.each_file }

  limits-in : (p : Journal) → IsWithin timed p.0 p.1 → AreLimits (limits-of p)
  limits-in p h = record { some_steps = h.some_steps; few_steps = h.few_steps; some_ticks = h.some_ticks; few_ticks = h.few_ticks }

  items-in : (p : Journal) (limits : ℕ × ℕ) → IsWithin timed p.0 p.1 → limits-of p ≡ limits → AreItems timed limits.0 p.1
  items-in p limits h e = subst (λ l. AreItems timed l.0 p.1) e (h.few_items, h.each_item)

  pub no-journal : Journal
  no-journal = (header ((0, []) ∷ []) (1, 1), [])

  pub no-journal-fits : IsWithin timed no-journal.0 no-journal.1
  unfolding no-journal
  no-journal-fits = range ((0, []) ∷ []) (1, 1) [] one-file least (no-items (1, 1))

  pub parts-judged : (s : List ℕ) → Judged (Parts timed) s (parts_at timed s)
  unfolding parts_at
  parts-judged s =
      then Files (Parts timed) files-of after-files
      (λ c h. files-in c h) (λ c h. refl)
      (λ files h. ((header files (1, 1), []), range files (1, 1) [] h least (no-items (1, 1)), refl))
      s (files_at s) (files-judged s)
      (λ files. limits_at files.1 >>= λ limits. items_at timed limits.0.0 limits.1 >>= λ items. word_at (codes "end" ++ newline) items.1 >>= λ rest. Ok ((header files.0 limits.0, items.0), rest))
      (λ files left h.
      then Limits (Left (Parts timed) files-of after-files files) limits-of after-limits
      (λ c g. limits-in c g.0) (λ c g. refl) (λ limits g. ((header files limits, []), (range files limits [] h g (no-items limits), refl), refl))
      left (limits_at left) (limits-judged left)
      (λ limits. items_at timed limits.0.0 limits.1 >>= λ items. word_at (codes "end" ++ newline) items.1 >>= λ rest. Ok ((header files limits.0, items.0), rest))
      (λ limits more g.
      then (Items timed limits.0) (Left (Left (Parts timed) files-of after-files files) limits-of after-limits limits) items-of last-line
      (λ c i. items-in c limits i.0.0 i.1) (λ c i. refl) (λ items i. ((header files limits, items), ((range files limits items h g i, refl), refl), refl))
      more (items_at timed limits.0 more) (items-judged timed limits.0 more)
      (λ items. word_at (codes "end" ++ newline) items.1 >>= λ rest. Ok ((header files limits, items.0), rest))
      (λ items end i.
      after (codes "end" ++ newline) (Left (Left (Left (Parts timed) files-of after-files files) limits-of after-limits limits) items-of last-line items) nothing
      (λ c j. refl) (header files limits, items) (((range files limits items h g i, refl), refl), refl)
      end (λ rest. Ok ((header files limits, items), rest))
      (λ rest.
      ended (Rest (Left (Left (Left (Parts timed) files-of after-files files) limits-of after-limits limits) items-of last-line items) nothing) (header files limits, items) rest
      (((range files limits items h g i, refl), refl), refl) refl
      (λ c j. λ t. (record { files = j.0.0.1 t; steps = (j.0.1 t).0; ticks = (j.0.1 t).1 }, j.1 t))))))

-- a journal with the number of its version
abbrev pub Numbered : Type 0
Numbered = ℕ × Journal

abbrev pub text-of : Numbered → List ℕ
text-of w = version_text w.0 w.1.0 w.1.1

abbrev pub Versions : Format Numbered
Versions = record { Holds = λ w. IsVersion w.0 × IsWithin (tells_time w.0) w.1.0 w.1.1; text = text-of }

abbrev after-version : Numbered → List ℕ
after-version w = after-first w.1

abbrev after-name : Numbered → List ℕ
after-name w = (number_text w.0 ++ newline) ++ after-version w

abbrev version-of : Numbered → ℕ
version-of w = w.0

abbrev journal-of : Numbered → Journal
journal-of w = w.1

abbrev no-more : Numbered → List ℕ
no-more w = []

version-stands : (n : ℕ) → IsVersion n → CanStand false (Some 2) n
version-stands n h = stands-above n 2 h.0 h.1

version-from : (n : ℕ) → CanStand false (Some 2) n → IsVersion n
version-from n h = (at-least (Some 2) n h, at-most false n 2 h)

first-version : IsVersion 1
first-version = (omega arith, omega arith)

-- the whole with the number of its version
abbrev pub rest_at : ℕ × List ℕ → Reading Numbered
rest_at version = parts_at (tells_time version.0) version.1 >>= λ parts. Ok ((version.0, parts.0), parts.1)

abbrev pub whole_at : List ℕ → Reading Numbered
whole_at s = word_at (codes "SRJ") s >>= λ rest. number_at false (Some 2) 10 rest >>= rest_at

whole-judged : (s : List ℕ) → Judged Versions s (whole_at s)
whole-judged s =
    after (codes "SRJ") Versions after-name (λ c h. refl) (1, no-journal (tells_time 1)) (first-version, no-journal-fits (tells_time 1))
    s (λ rest. number_at false (Some 2) 10 rest >>= rest_at)
    (λ rest.
    then (Number false (Some 2) 10) (Rest Versions after-name) version-of after-version
    (λ c h. version-stands c.0 h.0) (λ c h. refl) (λ n h. ((n, no-journal (tells_time n)), (version-from n h, no-journal-fits (tells_time n)), refl))
    rest (number_at false (Some 2) 10 rest) (number-judged false (Some 2) 10 no-newline 1 (version-stands 1 first-version) rest)
    rest_at
    (λ n left h.
    then (Parts (tells_time n)) (Left (Rest Versions after-name) version-of after-version n) journal-of no-more
    (λ c g. subst (λ m. IsWithin (tells_time m) c.1.0 c.1.1) g.1 g.0.1) (λ c g. sym (append-nil (after-first c.1)))
    (λ p g. ((n, p), ((version-from n h, g), refl), refl))
    left (parts_at (tells_time n) left) (parts-judged (tells_time n) left)
    (λ parts. Ok ((n, parts.0), parts.1))
    (λ p end g.
    ended (Left (Left (Rest Versions after-name) version-of after-version n) journal-of no-more p) (n, p) end
    (((version-from n h, g), refl), refl) refl (λ c i. λ t. (i.0.1 t, i.1 t)))))

-- what reading the whole tells
pub record IsRight (s : List ℕ) (p : Journal) : Type 0 where
  pub is : IsJournal p.0 p.1 s
  pub only : (h : Header) (items : List Item) → IsJournal h items s → p ≡ (h, items)
  pub no_beginning : IsBeginning s → ⊥

pub record IsCut (s : List ℕ) : Type 0 where
  pub beginning : IsBeginning s
  pub no_text : (h : Header) (items : List Item) → IsJournal h items s → ⊥

pub record IsWrong (s : List ℕ) : Type 0 where
  pub no_text : (h : Header) (items : List Item) → IsJournal h items s → ⊥
  pub no_beginning : IsBeginning s → ⊥

abbrev pub Verdict : List ℕ → Result Journal JournalFail → Type 0
Verdict s (Ok p) = IsRight s p
Verdict s (Err Truncated) = IsCut s
Verdict s (Err NotJournal) = IsWrong s
Verdict s (Err Version) = ⊥
Verdict s (Err NoMemory) = ⊥

module _ (s : List ℕ) (w : Numbered) (rest : List ℕ) (k : IsRead Versions s w rest) where
  abbrev p : Journal
  p = w.1

  same : (h : Header) (items : List Item) (j : IsJournal h items s) → (j.version, (h, items)) ≡ w
  same h items j = k.only (j.version, (h, items)) [] [] (j.known, j.in_range) (ap (λ u. u ++ []) j.text)

  no-beginning : IsBeginning s → ⊥
  no-beginning b =
      let c : Numbered = (b.version, (b.header, b.items)) in
      let at : c ≡ w = k.only c b.more [] (b.known, b.in_range) (b.text ∙ sym (append-nil (text-of c))) in
      let long : text-of w ≡ text-of w ++ (rest ++ b.more) =
      ap text-of (sym at) ∙ sym b.text ∙ ap (λ u. u ++ b.more) k.splits ∙ append_assoc (text-of w) rest b.more in
      none-longer (text-of w) (rest ++ b.more) long (some-more rest b.more b.some_more)
    where
      some-more : (u v : List ℕ) → 0 < length v → 0 < length (u ++ v)
      some-more [] v h = h
      some-more (x ∷ u) v h = omega arith

  no-rest : 0 < length rest → (h : Header) (items : List Item) → IsJournal h items s → ⊥
  no-rest some h items j =
      let at : (j.version, (h, items)) ≡ w = same h items j in
      none-longer (text-of w) rest (ap text-of (sym at) ∙ sym j.text ∙ k.splits) some

  whole : length rest ≡ 0 → IsRight s p
  whole none = record {
    is = record { version = w.0; known = k.holds.0; in_range = k.holds.1; text = k.splits ∙ ap (λ u. text-of w ++ u) (empty rest none) ∙ append-nil (text-of w) };
    only = λ h items j. ap journal-of (sym (same h items j));
    no_beginning = no-beginning;
  }
    where
      empty : (u : List ℕ) → length u ≡ 0 → u ≡ []
      empty [] e = refl
      empty (x ∷ u) e = absurd (omega (arith, e))

  by-rest : (t : Bool) → eqb (length rest) 0 ≡ t → Verdict s (cond t (Ok p) (Err NotJournal))
  by-rest true e = whole (eqb-true (length rest) 0 e)
  by-rest false e =
      let some : length rest ≡ 0 → ⊥ = eqb-false (length rest) 0 e in
      record { no_text = no-rest (omega (arith, some)); no_beginning = no-beginning }

-- nothing stands after the last line
abbrev finished : {A : Type 0} → A × List ℕ → Result A JournalFail
finished x = cond (eqb (length x.1) 0) (Ok x.0) (Err NotJournal)

abbrev journal-in : Numbered × List ℕ → Result Journal JournalFail
journal-in x = cond (eqb (length x.1) 0) (Ok x.0.1) (Err NotJournal)

verdict-of : (s : List ℕ) (r : Reading Numbered) → Judged Versions s r → Verdict s (r >>= journal-in)
verdict-of s (Ok x) k = by-rest s x.0 x.1 k (eqb (length x.1) 0) refl
verdict-of s (Err Truncated) k = record {
  beginning = record { version = k.value.0; header = k.value.1.0; items = k.value.1.1; more = k.more; known = k.holds.0; in_range = k.holds.1; text = k.whole; some_more = k.some_more };
  no_text = λ h items j. k.none (j.version, (h, items)) [] (j.known, j.in_range) (j.text ∙ sym (append-nil (version_text j.version h items)));
}
verdict-of s (Err NotJournal) k = record {
  no_text = λ h items j. k.none (j.version, (h, items)) [] [] (j.known, j.in_range) (ap (λ w. w ++ []) j.text);
  no_beginning = λ b. k.none (b.version, (b.header, b.items)) b.more [] (b.known, b.in_range) (b.text ∙ sym (append-nil (version_text b.version b.header b.items)));
}
verdict-of s (Err Version) k = k
verdict-of s (Err NoMemory) k = k

-- the same without the number
after-parts : (n : ℕ) (r : Reading Journal) → ((r >>= λ parts. Ok ((n, parts.0), parts.1)) >>= journal-in) ≡ (r >>= finished)
after-parts n (Ok x) = refl
after-parts n (Err e) = refl

after-number : (r : Reading ℕ) → ((r >>= rest_at) >>= journal-in) ≡ (r >>= λ version. parts_at (tells_time version.0) version.1 >>= finished)
after-number (Ok x) = after-parts x.0 (parts_at (tells_time x.0) x.1)
after-number (Err e) = refl

after-name-read : (r : Result (List ℕ) JournalFail)
    → ((r >>= λ rest. number_at false (Some 2) 10 rest >>= rest_at) >>= journal-in) ≡ ((r >>= λ rest. number_at false (Some 2) 10 rest) >>= λ version. parts_at (tells_time version.0) version.1 >>= finished)
after-name-read (Ok rest) = after-number (number_at false (Some 2) 10 rest)
after-name-read (Err e) = refl

pub verdict : (s : List ℕ) → Verdict s (journal_at s)
unfolding journal_at first_line_at
verdict s = subst (Verdict s) (after-name-read (word_at (codes "SRJ") s)) (verdict-of s (whole_at s) (whole-judged s))

-- the first line of any version
abbrev Lines : Format ℕ
Lines = record { Holds = CanStand true None; text = version_line }

abbrev after-letters : ℕ → List ℕ
after-letters n = number_text n ++ newline

line-judged : (s : List ℕ) → Judged Lines s (version_at s)
unfolding version_at
line-judged s =
    after (codes "SRJ") Lines after-letters (λ c h. refl) 1 (any-stands 1) s (number_at true None 10)
    (λ rest. equal (Number true None 10) (Rest Lines after-letters) (λ n h. h) (λ n h. h) (λ n. refl) rest (number_at true None 10 rest) (number-judged true None 10 no-newline 0 (any-stands 0) rest))

abbrev Told : List ℕ → Reading ℕ → Type 0
Told s (Ok x) = ((IsVersion x.0 → ⊥) → IsOtherVersion s) × (IsVersion x.0 → IsOtherVersion s → ⊥)
Told s (Err e) = IsOtherVersion s → ⊥

told : (s : List ℕ) (r : Reading ℕ) → Judged Lines s r → Told s r
told s (Ok x) k = (
  λ other. record { version = x.0; rest = x.1; other = other; line = k.splits },
  λ known o. o.other (subst IsVersion (sym (k.only o.version [] o.rest (any-stands o.version) (append-nil s ∙ o.line))) known),
)
told s (Err Truncated) k = λ o. k.none o.version o.rest (any-stands o.version) o.line
told s (Err NotJournal) k = λ o. k.none o.version [] o.rest (any-stands o.version) (append-nil s ∙ o.line)
told s (Err Version) k = absurd k
told s (Err NoMemory) k = absurd k

pub other-version : (s : List ℕ) (n : ℕ) (rest : List ℕ) → version_at s ≡ Ok (n, rest) → ((IsVersion n → ⊥) → IsOtherVersion s) × (IsVersion n → IsOtherVersion s → ⊥)
other-version s n rest e = subst (Told s) e (told s (version_at s) (line-judged s))

pub no-version : (s : List ℕ) (e : JournalFail) → version_at s ≡ Err e → IsOtherVersion s → ⊥
no-version s e h = subst (Told s) h (told s (version_at s) (line-judged s))

-- what begins another version begins no journal of these
apart : (s : List ℕ) (w : Numbered) (more : List ℕ) → IsVersion w.0 → IsOtherVersion s → s ++ more ≡ text-of w → ⊥
apart s w more known o e =
    let z : List ℕ = after-first w.1 in
    let line : codes "SRJ" ++ ((number_text w.0 ++ 10 ∷ []) ++ z) ≡ codes "SRJ" ++ ((number_text o.version ++ 10 ∷ []) ++ (o.rest ++ more)) =
    sym e ∙ ap (λ u. u ++ more) o.line ∙ append_assoc (version_line o.version) o.rest more in
    let both : (number_text w.0 ++ 10 ∷ []) ++ z ≡ (number_text o.version ++ 10 ∷ []) ++ (o.rest ++ more) =
    cancel (codes "SRJ") ((number_text w.0 ++ 10 ∷ []) ++ z) ((number_text o.version ++ 10 ∷ []) ++ (o.rest ++ more)) line in
    let same : o.version ≡ w.0 = at-end true None 10 no-newline w.0 o.version z (o.rest ++ more) (sym (append_assoc (number_text w.0) (10 ∷ []) z) ∙ both) in
    o.other (subst IsVersion (sym same) known)

pub no-text : (s : List ℕ) (h : Header) (items : List Item) → IsOtherVersion s → IsJournal h items s → ⊥
no-text s h items o j = apart s (j.version, (h, items)) [] j.known o (append-nil s ∙ j.text)

pub no-front : (s : List ℕ) → IsOtherVersion s → IsBeginning s → ⊥
no-front s o b = apart s (b.version, (b.header, b.items)) b.more b.known o b.text
