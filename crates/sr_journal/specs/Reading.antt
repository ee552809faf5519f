-- How a journal is read, from its front to its end. Of the functions that read, each contract cites its line here.
use Rattle.std.specs.Prelude.{◌≡◌, ◌≢◌, ℕ, zero, suc, ◌+◌, ◌-◌, ◌*◌, ◌^◌, min, nat_lt, nat_le, ◌==◌, Bool, true, false, ◌&&◌, if◌then◌else◌, List, [], ◌∷◌, ◌++◌, length, take, drop, slice_index, codes, Option, Some, None, is_none, Result, Ok, Err}
use Rattle.std.specs.Char.{is_ascii_digit}
use Rattle.std.specs.Str.{is_utf8}
use Rattle.std.specs.Str.Lossy.{utf8_valid_len, utf8_error_len}
use Rattle.sr_ask.specs.declared.item.Item.{Item}
use Rattle.sr_ask.specs.declared.item.Item.TheVariants.{Step, Quiesce, Tick}
use Rattle.sr_journal.specs.declared.header.Header.{Header}
use Rattle.sr_journal.specs.declared.fail.JournalFail.{JournalFail}
use Rattle.sr_journal.specs.declared.fail.JournalFail.TheVariants.{NotJournal, Truncated, NoMemory}
use Rattle.sr_journal.specs.Journal.{blank, newline, tells_time}

-- a value and the bytes after it
abbrev pub Reading : Type 0 → Type 0
Reading A = Result (A × List ℕ) JournalFail

infixl 10 ◌>>=◌
abbrev pub ◌>>=◌ : {A B : Type 0} → Result A JournalFail → (A → Result B JournalFail) → Result B JournalFail
(Ok x) >>= f = f x
(Err e) >>= f = Err e

-- what a function returned, seen by view, is what reading gives
abbrev pub Tells : {X Y : Type 0} → (X → Y) → Result X JournalFail → Result Y JournalFail → Type 0
Tells view (Ok x) read = read ≡ Ok (view x)
Tells view (Err e) read = read ≡ Err e

-- the same, unless memory ran out
abbrev pub Gives : {X Y : Type 0} → (X → Y) → Result X JournalFail → Result Y JournalFail → Type 0
Gives view (Ok x) read = read ≡ Ok (view x)
Gives view (Err e) read = e ≢ NoMemory → read ≡ Err e

-- fixed bytes; what is read is what stands after them
unfoldable pub word_at : List ℕ → List ℕ → Result (List ℕ) JournalFail
word_at [] bytes = Ok bytes
word_at (c ∷ word) [] = Err Truncated
word_at (c ∷ word) (b ∷ bytes) = if c == b then word_at word bytes else Err NotJournal

abbrev pub is_within : Option ℕ → ℕ → Bool
is_within None n = true
is_within (Some most) n = nat_le n most

-- the greatest `usize` is no limit
abbrev pub limit_of : ℕ → Option ℕ
limit_of most = if most == 2 ^ 64 - 1 then None else Some most

-- the number after one more digit
abbrev pub grown : ℕ → ℕ → ℕ
grown n digit = 10 * n + (digit - 48)

-- the digits after those of n, and the byte that ends them
unfoldable pub digits_at : Option ℕ → ℕ → ℕ → List ℕ → Reading ℕ
digits_at most end n [] = Err Truncated
digits_at most end n (b ∷ bytes) =
    if b == end then Ok (n, bytes)
    else (if is_ascii_digit b then (if is_within most (grown n b) then digits_at most end (grown n b) bytes else Err NotJournal) else Err NotJournal)

-- a number, which may be 0 where the flag says so, and the byte that ends it
unfoldable pub number_at : Bool → Option ℕ → ℕ → List ℕ → Reading ℕ
number_at may_be_zero most end [] = Err Truncated
number_at may_be_zero most end (b ∷ bytes) =
    if b == 48 then (if may_be_zero then (word_at (end ∷ []) bytes >>= λ rest. Ok (0, rest)) else Err NotJournal)
    else (if is_ascii_digit b then digits_at most end 0 (b ∷ bytes) else Err NotJournal)

-- a number as far as a `usize` can tell
abbrev pub capped : ℕ → ℕ
capped n = min n (2 ^ 64 - 1)

abbrev pub with_capped : Reading ℕ → Reading ℕ
with_capped read = read >>= λ x. Ok (capped x.0, x.1)

-- how many bytes a character has that begins with this byte and has more than one
abbrev pub char_len : ℕ → ℕ
char_len b = if nat_lt b 224 then 2 else (if nat_lt b 240 then 3 else 4)

-- some text of n bytes begins with the bytes, which are no more: they are text, but for the beginning of a character
-- that ends within n bytes
unfoldable pub can_begin_text : ℕ → List ℕ → Bool
can_begin_text n bytes = let valid = utf8_valid_len bytes in
    if is_utf8 bytes then true
    else (is_none (utf8_error_len (drop valid bytes)) && nat_le (valid + char_len (slice_index bytes valid)) n)

-- a name of n bytes, to the end of its line
unfoldable pub name_at : ℕ → List ℕ → Reading (List ℕ)
name_at n bytes =
    if nat_lt n (length bytes) then (if is_utf8 (take n bytes) then (word_at newline (drop n bytes) >>= λ rest. Ok (take n bytes, rest)) else Err NotJournal)
    else (if can_begin_text n bytes then Err Truncated else Err NotJournal)

unfoldable pub file_at : List ℕ → Reading (ℕ × List ℕ)
file_at bytes = do
  size ← number_at true (Some 1048576) 32 bytes
  count ← number_at true None 32 size.1
  name ← name_at count.0 count.1
  Ok ((size.0, name.0), name.1)

-- so many, one after the other
unfoldable pub many_at : {A : Type 0} → (List ℕ → Reading A) → ℕ → List ℕ → Reading (List A)
many_at one zero bytes = Ok ([], bytes)
many_at one (suc n) bytes = do
  first ← one bytes
  others ← many_at one n first.1
  Ok (first.0 ∷ others.0, others.1)

unfoldable pub files_at : List ℕ → Reading (List (ℕ × List ℕ))
files_at bytes = do
  rest ← word_at (codes "files ") bytes
  count ← number_at false (Some 64) 10 rest
  many_at file_at count.0 count.1

unfoldable pub limits_at : List ℕ → Reading (ℕ × ℕ)
limits_at bytes = do
  rest ← word_at (codes "steps ") bytes
  steps ← number_at false (Some 16000000) 32 rest
  rest ← word_at (codes "ticks ") steps.1
  ticks ← number_at false (Some 1000000000) 10 rest
  Ok ((steps.0, ticks.0), ticks.1)

unfoldable pub step_at : List ℕ → Reading Item
step_at bytes = do
  rest ← word_at blank bytes
  actor ← number_at false (Some 4294967295) 32 rest
  name ← number_at true (Some 4294967295) 10 actor.1
  Ok (Step actor.0 name.0, name.1)

unfoldable pub quiesce_at : List ℕ → Reading Item
quiesce_at bytes = do
  rest ← word_at blank bytes
  name ← number_at true (Some 4294967295) 10 rest
  Ok (Quiesce name.0, name.1)

unfoldable pub tick_at : List ℕ → Reading Item
tick_at bytes = do
  rest ← word_at blank bytes
  to ← number_at false (Some 2147483647) 10 rest
  Ok (Tick to.0, to.1)

-- by the first byte, `s`, `q` or, where the items tell of time, `t`
unfoldable pub item_at : Bool → List ℕ → Reading Item
item_at timed [] = Err Truncated
item_at timed (b ∷ bytes) =
    if b == 115 then step_at bytes
    else (if b == 113 then quiesce_at bytes else (if b == 116 then (if timed then tick_at bytes else Err NotJournal) else Err NotJournal))

unfoldable pub items_at : Bool → ℕ → List ℕ → Reading (List Item)
items_at timed most bytes = do
  rest ← word_at (codes "items ") bytes
  count ← number_at true (Some most) 10 rest
  many_at (item_at timed) count.0 count.1

-- the number of a version that is read
unfoldable pub first_line_at : List ℕ → Reading ℕ
first_line_at bytes = do
  rest ← word_at (codes "SRJ") bytes
  number_at false (Some 2) 10 rest

-- what stands after the first line
unfoldable pub parts_at : Bool → List ℕ → Reading (Header × List Item)
parts_at timed bytes = do
  files ← files_at bytes
  limits ← limits_at files.1
  items ← items_at timed limits.0.0 limits.1
  rest ← word_at (codes "end" ++ newline) items.1
  Ok ((record { files = files.0; steps = limits.0.0; ticks = limits.0.1 }, items.0), rest)

-- nothing stands after the last line
unfoldable pub journal_at : List ℕ → Result (Header × List Item) JournalFail
journal_at bytes = do
  version ← first_line_at bytes
  parts ← parts_at (tells_time version.0) version.1
  if length parts.1 == 0 then Ok parts.0 else Err NotJournal

-- the number of a version, and what stands after its line
unfoldable pub version_at : List ℕ → Reading ℕ
version_at bytes = do
  rest ← word_at (codes "SRJ") bytes
  number_at true None 10 rest
