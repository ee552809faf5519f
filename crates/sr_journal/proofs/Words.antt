-- Fixed bytes, and what stands after them.
use Rattle.std.proofs.Common.{◌≡◌, refl, sym, ◌∙◌, ap, subst, ℕ, ◌<◌, Bool, true, false, cond, eqb, List, [], ◌∷◌, ◌++◌, length, Result, Ok, Err, arith}
use Rattle.std.proofs.lemmas.Bool.{eqb-true, eqb-false}
use Rattle.sr_journal.specs.declared.fail.JournalFail.{JournalFail}
use Rattle.sr_journal.specs.declared.fail.JournalFail.TheVariants.{NotJournal, Truncated, Version, NoMemory}
use Rattle.sr_journal.specs.Reading.{Reading, ◌>>=◌, word_at}
use Rattle.sr_journal.proofs.Formats.{Format, Judged, Left, then}
use Rattle.sr_journal.proofs.Lists.{cancel, append-nil}

-- what reading a word tells
pub record IsAfter (word s rest : List ℕ) : Type 0 where
  pub splits : s ≡ word ++ rest

pub record IsPart (word s : List ℕ) : Type 0 where
  pub more : List ℕ
  pub whole : s ++ more ≡ word
  pub some_more : 0 < length more
  pub none : (x : List ℕ) → s ≡ word ++ x → ⊥

pub record Differs (word s : List ℕ) : Type 0 where
  pub none : (x y : List ℕ) → s ++ x ≡ word ++ y → ⊥

abbrev pub Told : List ℕ → List ℕ → Result (List ℕ) JournalFail → Type 0
Told word s (Ok rest) = IsAfter word s rest
Told word s (Err Truncated) = IsPart word s
Told word s (Err NotJournal) = Differs word s
Told word s (Err Version) = ⊥
Told word s (Err NoMemory) = ⊥

same-head : (b c : ℕ) (word s : List ℕ) (r : Result (List ℕ) JournalFail) → b ≡ c → Told word s r → Told (c ∷ word) (b ∷ s) r
same-head b c word s (Ok rest) e t = record { splits = cc (e, t.splits) }
same-head b c word s (Err Truncated) e t = record {
  more = t.more;
  whole = (λ i. e i ∷ t.whole i);
  some_more = t.some_more;
  none = λ x h. let tails : s ≡ word ++ x = cc in t.none x tails;
}
same-head b c word s (Err NotJournal) e t = record { none = λ x y h. let tails : s ++ x ≡ word ++ y = cc in t.none x y tails }
same-head b c word s (Err Version) e t = t
same-head b c word s (Err NoMemory) e t = t

by-head : (b c : ℕ) (word s : List ℕ) (r : Result (List ℕ) JournalFail) (t : Bool) → eqb c b ≡ t → Told word s r → Told (c ∷ word) (b ∷ s) (cond t r (Err NotJournal))
by-head b c word s r true e k = same-head b c word s r (sym (eqb-true c b e)) k
by-head b c word s r false e k = record { none = λ x y h. let heads : c ≡ b = cc in eqb-false c b e heads }

pub word-told : (word s : List ℕ) → Told word s (word_at word s)
unfolding word_at
word-told [] s = record { splits = refl }
word-told (c ∷ word) [] = record { more = c ∷ word; whole = refl; some_more = omega arith; none = λ x h. cc }
word-told (c ∷ word) (b ∷ s) = by-head b c word s (word_at word s) (eqb c b) refl (word-told word s)

-- the format of one text
abbrev pub Word : List ℕ → Format (Unit {0})
Word word = record { Holds = λ u. Unit {0}; text = λ u. word }

abbrev pub after_word : Result (List ℕ) JournalFail → Reading (Unit {0})
after_word r = r >>= λ rest. Ok (tt, rest)

word-judged : (word s : List ℕ) (r : Result (List ℕ) JournalFail) → Told word s r → Judged (Word word) s (after_word r)
word-judged word s (Ok rest) t = record { holds = tt; splits = t.splits; only = λ b x y h e. refl }
word-judged word s (Err Truncated) t = record { value = tt; more = t.more; holds = tt; whole = t.whole; some_more = t.some_more; none = λ b x h e. t.none x e }
word-judged word s (Err NotJournal) t = record { none = λ b x y h e. t.none x y e }
word-judged word s (Err Version) t = t
word-judged word s (Err NoMemory) t = t

-- the same format, and all of its text is left
abbrev pub Rest : {C : Type 0} → Format C → (C → List ℕ) → Format C
Rest H tail = record { Holds = H.Holds; text = tail }

weaker : {C : Type 0} (H : Format C) (tail : C → List ℕ) (s : List ℕ) (r : Reading C) → Judged (Rest H tail) s r → Judged (Left {A = Unit {0}} H (λ c. tt) tail tt) s r
weaker H tail s (Ok x) k = record { holds = (k.holds, refl); splits = k.splits; only = λ b u v h e. k.only b u v h.0 e }
weaker H tail s (Err Truncated) k = record { value = k.value; more = k.more; holds = (k.holds, refl); whole = k.whole; some_more = k.some_more; none = λ b x h e. k.none b x h.0 e }
weaker H tail s (Err NotJournal) k = record { none = λ b x y h e. k.none b x y h.0 e }
weaker H tail s (Err Version) k = k
weaker H tail s (Err NoMemory) k = k

regroup : {C : Type 0} (r : Result (List ℕ) JournalFail) (q : List ℕ → Reading C) → (after_word r >>= λ x. q x.1) ≡ (r >>= q)
regroup (Ok rest) q = refl
regroup (Err e) q = refl

-- a word, and then what is left
pub after : {C : Type 0} (word : List ℕ) (H : Format C) (tail : C → List ℕ) → ((c : C) → H.Holds c → H.text c ≡ word ++ tail c) → (c : C) → H.Holds c
    → (s : List ℕ) (q : List ℕ → Reading C) → ((rest : List ℕ) → Judged (Rest H tail) rest (q rest)) → Judged H s (word_at word s >>= q)
after word H tail splits c h s q k =
    subst (Judged H s) (regroup (word_at word s) q)
    (then (Word word) H (λ v. tt) tail (λ v g. tt) splits (λ u g. (c, h, refl)) s (after_word (word_at word s)) (word-judged word s (word_at word s) (word-told word s)) (λ x. q x.1)
    (λ u rest g. weaker H tail rest (q rest) (k rest)))

-- what the test of a prefix says
pub is-after : (word s rest : List ℕ) → s ≡ word ++ rest → word_at word s ≡ Ok rest
is-after word s rest e = by_answer (word_at word s) (word-told word s)
  where
    by_answer : (r : Result (List ℕ) JournalFail) → Told word s r → r ≡ Ok rest
    by_answer (Ok x) t = ap (λ y. Ok y) (cancel word x rest (sym t.splits ∙ e))
    by_answer (Err Truncated) t = absurd (t.none rest e)
    by_answer (Err NotJournal) t = absurd (t.none [] rest (append-nil s ∙ e))
    by_answer (Err Version) t = absurd t
    by_answer (Err NoMemory) t = absurd t

pub is-part : (word s more : List ℕ) → word ≡ s ++ more → ((rest : List ℕ) → s ≡ word ++ rest → ⊥) → word_at word s ≡ Err Truncated
is-part word s more e without = by_answer (word_at word s) (word-told word s)
  where
    by_answer : (r : Result (List ℕ) JournalFail) → Told word s r → r ≡ Err Truncated
    by_answer (Ok x) t = absurd (without x t.splits)
    by_answer (Err Truncated) t = refl
    by_answer (Err NotJournal) t = absurd (t.none more [] (sym e ∙ sym (append-nil word)))
    by_answer (Err Version) t = absurd t
    by_answer (Err NoMemory) t = absurd t

pub is-other : (word s : List ℕ) → ((rest : List ℕ) → s ≡ word ++ rest → ⊥) → ((more : List ℕ) → word ≡ s ++ more → ⊥) → word_at word s ≡ Err NotJournal
is-other word s without neither = by_answer (word_at word s) (word-told word s)
  where
    by_answer : (r : Result (List ℕ) JournalFail) → Told word s r → r ≡ Err NotJournal
    by_answer (Ok x) t = absurd (without x t.splits)
    by_answer (Err Truncated) t = absurd (neither t.more (sym t.whole))
    by_answer (Err NotJournal) t = refl
    by_answer (Err Version) t = absurd t
    by_answer (Err NoMemory) t = absurd t
