-- What `read_journal` promises, from what reading tells.
use Rattle.std.proofs.Common.{◌≡◌, ◌≢◌, refl, ◌∙◌, ap, subst, ℕ, Bool, true, false, not, ◌≤◌, None, List, Result, Ok, Err, IfOk, IsTrue, arith}
use Rattle.std.specs.Prelude.{◌↔◌, codes}
use Rattle.sr_ask.specs.declared.item.Item.{Item}
use Rattle.sr_journal.specs.declared.header.Header.{Header}
use Rattle.sr_journal.specs.declared.fail.JournalFail.{JournalFail}
use Rattle.sr_journal.specs.declared.fail.JournalFail.TheVariants.{NotJournal, Truncated, Version, NoMemory}
use Rattle.sr_journal.specs.Journal.{IsVersion}
use Rattle.sr_journal.specs.Causes.{IsJournal, IsBeginning, IsOtherVersion, IsNoJournal, ComesExactlyFor}
use Rattle.sr_journal.specs.Reading.{Reading, Gives, ◌>>=◌, capped, with_capped, word_at, number_at, version_at, journal_at}
use Rattle.sr_journal.proofs.Whole.{Journal, IsRight, IsCut, IsWrong, Verdict, verdict, no-text, no-front, other-version, no-version}

pub record IsAnswer (s : List ℕ) (r : Result Journal JournalFail) : Type 0 where
  pub read : IfOk r (λ found. IsJournal found.0 found.1 s)
  pub read_again : (h : Header) (items : List Item) → IsJournal h items s → r ≢ Err NoMemory → r ≡ Ok (h, items)
  pub version : (r ≡ Err Version) ↔ IsOtherVersion s
  pub truncated : ComesExactlyFor r Truncated (IsBeginning s)
  pub not_journal : ComesExactlyFor r NotJournal (IsNoJournal s)

pub other-answer : (s : List ℕ) → IsOtherVersion s → IsAnswer s (Err Version)
other-answer s o = record {
  read = tt;
  read_again = λ h items j n. absurd (no-text s h items o j);
  version = (λ e. o, λ p. refl);
  truncated = λ n. (λ e. cc, λ b. absurd (no-front s o b));
  not_journal = λ n. (λ e. cc, λ w. absurd (w.no_version o));
}

right : (s : List ℕ) (p : Journal) → (IsOtherVersion s → ⊥) → IsRight s p → IsAnswer s (Ok p)
right s p none v = record {
  read = v.is;
  read_again = λ h items j n. ap (λ q. Ok q) (v.only h items j);
  version = (λ e. cc, λ o. absurd (none o));
  truncated = λ n. (λ e. cc, λ b. absurd (v.no_beginning b));
  not_journal = λ n. (λ e. cc, λ w. absurd (w.no_text p.0 p.1 v.is));
}

cut : (s : List ℕ) → (IsOtherVersion s → ⊥) → IsCut s → IsAnswer s (Err Truncated)
cut s none v = record {
  read = tt;
  read_again = λ h items j n. absurd (v.no_text h items j);
  version = (λ e. cc, λ o. absurd (none o));
  truncated = λ n. (λ e. v.beginning, λ b. refl);
  not_journal = λ n. (λ e. cc, λ w. absurd (w.no_beginning v.beginning));
}

wrong : (s : List ℕ) → (IsOtherVersion s → ⊥) → IsWrong s → IsAnswer s (Err NotJournal)
wrong s none v = record {
  read = tt;
  read_again = λ h items j n. absurd (v.no_text h items j);
  version = (λ e. cc, λ o. absurd (none o));
  truncated = λ n. (λ e. cc, λ b. absurd (v.no_beginning b));
  not_journal = λ n. (λ e. record { no_text = v.no_text; no_beginning = v.no_beginning; no_version = none }, λ w. refl);
}

out-of-memory : (s : List ℕ) → (IsOtherVersion s → ⊥) → IsAnswer s (Err NoMemory)
out-of-memory s none = record {
  read = tt;
  read_again = λ h items j n. absurd (n refl);
  version = (λ e. cc, λ o. absurd (none o));
  truncated = λ n. absurd (n refl);
  not_journal = λ n. absurd (n refl);
}

told : (s : List ℕ) (r : Result Journal JournalFail) → journal_at s ≡ r → Verdict s r
told s r e = subst (Verdict s) e (verdict s)

pub this-answer : (s : List ℕ) (r : Result Journal JournalFail) → (IsOtherVersion s → ⊥) → Gives (λ x. x) r (journal_at s) → IsAnswer s r
this-answer s (Ok p) none e = right s p none (told s (Ok p) e)
this-answer s (Err Truncated) none e = cut s none (told s (Err Truncated) (e (λ h. cc)))
this-answer s (Err NotJournal) none e = wrong s none (told s (Err NotJournal) (e (λ h. cc)))
this-answer s (Err Version) none e = absurd (told s (Err Version) (e (λ h. cc)))
this-answer s (Err NoMemory) none e = out-of-memory s none

-- the number of the version, as far as a `usize` can tell
abbrev pub Answers : List ℕ → Bool → Type 0
Answers s t = (IsTrue t → IsOtherVersion s) × (IsOtherVersion s → IsTrue t)

by-test : (s : List ℕ) (n : ℕ) (t : Bool) → (t ≡ true → IsVersion n) → (IsVersion n → t ≡ true) → ((IsVersion n → ⊥) → IsOtherVersion s) × (IsVersion n → IsOtherVersion s → ⊥) → Answers s (not t)
by-test s n true known has v = (λ h. cc, λ o. absurd (v.1 (known refl) o))
by-test s n false known has v = (λ h. v.0 (λ is. let no : false ≡ true = has is in cc), λ o. refl)

version-of : (s rest : List ℕ) → word_at (codes "SRJ") s ≡ Ok rest → version_at s ≡ number_at true None 10 rest
unfolding version_at
version-of s rest w = ap (λ r. r >>= number_at true None 10) w

capped-is : (r : Reading ℕ) (c : ℕ) (q : List ℕ) → with_capped r ≡ Ok (c, q) → (n : ℕ) × (p : List ℕ) × (r ≡ Ok (n, p)) × (capped n ≡ c)
capped-is (Ok x) c q e = (x.0, x.1, refl, ap first e)
  where
    first : Reading ℕ → ℕ
    first (Ok y) = y.0
    first (Err u) = 0
capped-is (Err u) c q e = cc

capped-fails : (r : Reading ℕ) (e : JournalFail) → with_capped r ≡ Err e → r ≡ Err e
capped-fails (Ok x) e h = cc
capped-fails (Err u) e h = h

near : (n c : ℕ) → capped n ≡ c → IsVersion n → IsVersion c
near n c e h = let low : 1 ≤ n = h.0 in let high : n ≤ 2 = h.1 in (omega (arith, e), omega (arith, e))

far : (n c : ℕ) → capped n ≡ c → IsVersion c → IsVersion n
far n c e h = let low : 1 ≤ c = h.0 in let high : c ≤ 2 = h.1 in (omega (arith, e), omega (arith, e))

pub version-read : (s rest : List ℕ) (c : ℕ) (q : List ℕ) (t : Bool) → (t ≡ true → IsVersion c) → (IsVersion c → t ≡ true) → word_at (codes "SRJ") s ≡ Ok rest
    → with_capped (number_at true None 10 rest) ≡ Ok (c, q) → Answers s (not t)
version-read s rest c q t known has w e =
    let k = capped-is (number_at true None 10 rest) c q e in
    by-test s k.0 t (λ is. far k.0 c k.3 (known is)) (λ is. has (near k.0 c k.3 is)) (other-version s k.0 k.1 (version-of s rest w ∙ k.2))

pub version-unread : (s rest : List ℕ) (e : JournalFail) → word_at (codes "SRJ") s ≡ Ok rest → with_capped (number_at true None 10 rest) ≡ Err e → Answers s false
version-unread s rest e w h = (λ f. cc, λ o. absurd (no-version s e (version-of s rest w ∙ capped-fails (number_at true None 10 rest) e h) o))

pub letters-unread : (s : List ℕ) (e : JournalFail) → word_at (codes "SRJ") s ≡ Err e → Answers s false
unfolding version_at
letters-unread s e w = (λ f. cc, λ o. absurd (no-version s e (ap (λ r. r >>= number_at true None 10) w) o))
