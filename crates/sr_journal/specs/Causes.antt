-- Why bytes are no journal.
use Rattle.std.specs.Prelude.{ℕ, ◌≡◌, ◌≢◌, ◌<◌, ◌↔◌, List, ◌++◌, length, Result, Err}
use Rattle.sr_ask.specs.declared.item.Item.{Item}
use Rattle.sr_journal.specs.declared.header.Header.{Header}
use Rattle.sr_journal.specs.declared.fail.JournalFail.{JournalFail}
use Rattle.sr_journal.specs.declared.fail.JournalFail.TheVariants.{NoMemory}
use Rattle.sr_journal.specs.Journal.{IsVersion, IsWithin, tells_time, version_line, version_text}

-- the bytes are the text of this header and these items, in a version
pub record IsJournal (header : Header) (items : List Item) (bytes : List ℕ) : Type 0 where
  pub version : ℕ
  pub known : IsVersion version
  pub in_range : IsWithin (tells_time version) header items
  pub text : bytes ≡ version_text version header items

-- a journal begins with the bytes, and has more
pub record IsBeginning (bytes : List ℕ) : Type 0 where
  pub version : ℕ
  pub header : Header
  pub items : List Item
  pub more : List ℕ
  pub known : IsVersion version
  pub in_range : IsWithin (tells_time version) header items
  pub text : bytes ++ more ≡ version_text version header items
  pub some_more : 0 < length more

-- the bytes begin with the first line of another version
pub record IsOtherVersion (bytes : List ℕ) : Type 0 where
  pub version : ℕ
  pub rest : List ℕ
  pub other : IsVersion version → ⊥
  pub line : bytes ≡ version_line version ++ rest

-- the bytes are none of these
pub record IsNoJournal (bytes : List ℕ) : Type 0 where
  pub no_text : (header : Header) (items : List Item) → IsJournal header items bytes → ⊥
  pub no_beginning : IsBeginning bytes → ⊥
  pub no_version : IsOtherVersion bytes → ⊥

-- unless memory ran out, the error comes exactly for this cause
abbrev pub ComesExactlyFor : {A : Type 0} → Result A JournalFail → JournalFail → Type 0 → Type 0
ComesExactlyFor result fail Cause = result ≢ Err NoMemory → ((result ≡ Err fail) ↔ Cause)
