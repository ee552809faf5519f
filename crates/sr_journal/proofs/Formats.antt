-- A format is a set of values, each with its text. A reader of a format tells of any bytes whether they begin with a
-- text of it, are the beginning of one, or are neither, and of one format after another the same follows.
use Rattle.std.proofs.Common.{◌≡◌, sym, ◌∙◌, ap, ℕ, ◌+◌, ◌<◌, List, [], ◌++◌, length, Ok, Err, append_assoc, length-append, arith}
use Rattle.sr_journal.specs.declared.fail.JournalFail.{JournalFail}
use Rattle.sr_journal.specs.declared.fail.JournalFail.TheVariants.{NotJournal, Truncated, Version, NoMemory}
use Rattle.sr_journal.specs.Reading.{Reading, ◌>>=◌}
use Rattle.sr_journal.proofs.Lists.{cancel, append-nil}

pub record Format (A : Type 0) : Type 1 where
  pub Holds : A → Type 0
  pub text : A → List ℕ

-- the bytes begin with the text of a value, and however they go on, with that of no other
pub record IsRead {A : Type 0} (F : Format A) (s : List ℕ) (a : A) (rest : List ℕ) : Type 0 where
  pub holds : F.Holds a
  pub splits : s ≡ F.text a ++ rest
  pub only : (b : A) (x y : List ℕ) → F.Holds b → s ++ x ≡ F.text b ++ y → b ≡ a

-- a text begins with the bytes and has more, and the bytes begin with none
pub record IsShort {A : Type 0} (F : Format A) (s : List ℕ) : Type 0 where
  pub value : A
  pub more : List ℕ
  pub holds : F.Holds value
  pub whole : s ++ more ≡ F.text value
  pub some_more : 0 < length more
  pub none : (b : A) (x : List ℕ) → F.Holds b → s ≡ F.text b ++ x → ⊥

-- however the bytes go on, they begin with no text
pub record IsClash {A : Type 0} (F : Format A) (s : List ℕ) : Type 0 where
  pub none : (b : A) (x y : List ℕ) → F.Holds b → s ++ x ≡ F.text b ++ y → ⊥

abbrev pub Failed : {A : Type 0} → Format A → List ℕ → JournalFail → Type 0
Failed F s Truncated = IsShort F s
Failed F s NotJournal = IsClash F s
Failed F s Version = ⊥
Failed F s NoMemory = ⊥

abbrev pub Judged : {A : Type 0} → Format A → List ℕ → Reading A → Type 0
Judged F s (Ok x) = IsRead F s x.0 x.1
Judged F s (Err e) = Failed F s e

-- what is left of a format once its first part is known
abbrev pub Left : {A C : Type 0} → Format C → (C → A) → (C → List ℕ) → A → Format C
Left H pick tail a = record { Holds = λ c. H.Holds c × (pick c ≡ a); text = tail }

-- nothing is left
pub ended : {C : Type 0} (H : Format C) (c : C) (s : List ℕ) → H.Holds c → H.text c ≡ [] → ((b : C) → H.Holds b → b ≡ c) → Judged H s (Ok (c, s))
ended H c s holds empty only = record {
  holds = holds;
  splits = ap (λ w. w ++ s) (sym empty);
  only = λ b x y h e. only b h;
}

-- a first part, and then what is left
module _ {A C : Type 0} (F : Format A) (H : Format C) (pick : C → A) (tail : C → List ℕ)
    (fits : (c : C) → H.Holds c → F.Holds (pick c))
    (splits : (c : C) → H.Holds c → H.text c ≡ F.text (pick c) ++ tail c)
    (some : (a : A) → F.Holds a → (c : C) × H.Holds c × (pick c ≡ a)) where
  split-of : (c : C) (y : List ℕ) → H.Holds c → H.text c ++ y ≡ F.text (pick c) ++ (tail c ++ y)
  split-of c y h = ap (λ w. w ++ y) (splits c h) ∙ append_assoc (F.text (pick c)) (tail c) y

  fails : (s : List ℕ) (e : JournalFail) → Failed F s e → Failed H s e
  fails s Version j = j
  fails s NoMemory j = j
  fails s NotJournal j = record { none = λ b x y h e. j.none (pick b) x (tail b ++ y) (fits b h) (e ∙ split-of b y h) }
  fails s Truncated j =
      let c = (some j.value j.holds).0 in
      let h : H.Holds c = (some j.value j.holds).1 in
      let at : pick c ≡ j.value = (some j.value j.holds).2 in
      let long : length (j.more ++ tail c) ≡ length j.more + length (tail c) = length-append j.more (tail c) in
      record {
        value = c;
        more = j.more ++ tail c;
        holds = h;
        whole = sym (append_assoc s j.more (tail c)) ∙ ap (λ w. w ++ tail c) (j.whole ∙ ap F.text (sym at)) ∙ sym (splits c h);
        some_more = let m : 0 < length j.more = j.some_more in omega (arith, long, m);
        none = λ b x hb e. j.none (pick b) (tail b ++ x) (fits b hb) (e ∙ split-of b x hb);
      }

  module _ (s : List ℕ) (a : A) (rest : List ℕ) (j : IsRead F s a rest) where
    -- what follows the first part is what is left
    follows : (b : C) (x y : List ℕ) → H.Holds b → s ++ x ≡ H.text b ++ y → (pick b ≡ a) × (rest ++ x ≡ tail b ++ y)
    follows b x y h e =
        let at : pick b ≡ a = j.only (pick b) x (tail b ++ y) (fits b h) (e ∙ split-of b y h) in
        let both : F.text a ++ (rest ++ x) ≡ F.text a ++ (tail b ++ y) =
        sym (append_assoc (F.text a) rest x) ∙ ap (λ w. w ++ x) (sym j.splits) ∙ e ∙ split-of b y h ∙ ap (λ v. F.text v ++ (tail b ++ y)) at in
        (at, cancel (F.text a) (rest ++ x) (tail b ++ y) both)

    follows-all : (b : C) (y : List ℕ) → H.Holds b → s ≡ H.text b ++ y → (pick b ≡ a) × (rest ≡ tail b ++ y)
    follows-all b y h e = let f = follows b [] y h (append-nil s ∙ e) in (f.0, sym (append-nil rest) ∙ f.1)

    joined : (b : C) (y : List ℕ) → H.Holds b → pick b ≡ a → F.text a ++ (tail b ++ y) ≡ H.text b ++ y
    joined b y h at = ap (λ v. F.text v ++ (tail b ++ y)) (sym at) ∙ sym (split-of b y h)

    then-fails : (e : JournalFail) → Failed (Left H pick tail a) rest e → Failed H s e
    then-fails Version k = k
    then-fails NoMemory k = k
    then-fails NotJournal k = record { none = λ b x y h e. let f = follows b x y h e in k.none b x y (h, f.0) f.1 }
    then-fails Truncated k = record {
      value = k.value;
      more = k.more;
      holds = k.holds.0;
      whole = ap (λ w. w ++ k.more) j.splits ∙ append_assoc (F.text a) rest k.more ∙ ap (λ w. F.text a ++ w) (k.whole ∙ sym (append-nil (tail k.value))) ∙ joined k.value [] k.holds.0 k.holds.1 ∙ append-nil (H.text k.value);
      some_more = k.some_more;
      none = λ b x h e. let f = follows-all b x h e in k.none b x (h, f.0) f.1;
    }

    then-reads : (r : Reading C) → Judged (Left H pick tail a) rest r → Judged H s r
    then-reads (Err e) k = then-fails e k
    then-reads (Ok x) k = record {
      holds = k.holds.0;
      splits = j.splits ∙ ap (λ w. F.text a ++ w) k.splits ∙ joined x.0 x.1 k.holds.0 k.holds.1;
      only = λ b u v h e. let f = follows b u v h e in k.only b u v (h, f.0) f.1;
    }

  pub then : (s : List ℕ) (r : Reading A) → Judged F s r → (q : A × List ℕ → Reading C)
      → ((a : A) (rest : List ℕ) → F.Holds a → Judged (Left H pick tail a) rest (q (a, rest))) → Judged H s (r >>= q)
  then s (Err e) j q k = fails s e j
  then s (Ok x) j q k = then-reads s x.0 x.1 j (q x) (k x.0 x.1 j.holds)
