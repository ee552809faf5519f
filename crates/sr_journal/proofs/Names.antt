-- The name of a file: so many bytes of text, and the end of its line.
use Rattle.std.proofs.Common.{◌≡◌, refl, sym, ◌∙◌, ap, subst, ℕ, zero, suc, ◌+◌, ◌-◌, ◌^◌, ◌<◌, ◌≤◌, ◌⊎◌, inl, inr, Bool, true, false, cond, nat_lt, nat_le, ◌&&◌, Option, Some, None, is_none, is_some, List, [], ◌∷◌, ◌++◌, length, take, drop, get_or, slice_index, Result, Ok, Err, append_assoc, length-append, length-drop, min, arith}
use Rattle.std.specs.Char.{encode_utf8}
use Rattle.std.specs.Str.{IsUtf8, is_utf8, all_scalars, encode_utf8_all}
use Rattle.std.specs.Str.Lossy.{valid_len_up_to, utf8_valid_len, utf8_error_len}
use Rattle.std.proofs.lemmas.Bool.{ltb-true, ltb-false, lt-ltb, le-ltb, leb-true, le-leb, and_parts, and_from, cases_lt}
use Rattle.std.proofs.lemmas.List.{take-append-drop, get_or-drop, drop-append-le, take-append-le, length-take, take_at}
use Rattle.std.proofs.lemmas.Str.{IsUtf8-nil, IsUtf8-append, IsUtf8-from_is_utf8, is_utf8-from_IsUtf8, utf8_valid_len_le, IsUtf8-encode}
use Rattle.std.proofs.Math.Seq.{take-add}
use Rattle.std.proofs.Math.Utf8.{scalar_cases}
use Rattle.std.proofs.iter.FirstChar.{after_text}
use Rattle.std.proofs.str.Laws.{Scalar, shape, not_empty}
use Rattle.sr_journal.specs.declared.fail.JournalFail.{JournalFail}
use Rattle.sr_journal.specs.declared.fail.JournalFail.TheVariants.{NotJournal, Truncated, Version, NoMemory}
use Rattle.sr_journal.specs.Journal.{newline}
use Rattle.sr_journal.specs.Reading.{Reading, ◌>>=◌, word_at, can_begin_text, char_len, name_at, capped}
use Rattle.sr_journal.proofs.Characters.{Completes, completes, IsOpen, opens, Padding, padding}
use Rattle.sr_journal.proofs.Formats.{Format, IsShort, IsClash, Judged}
use Rattle.sr_journal.proofs.Lists.{append-nil, take-whole}
use Rattle.sr_journal.proofs.Words.{Told, word-told}

-- the longest front that is text
front-by-test : (s : List ℕ) (m : ℕ) (t : Bool) → is_utf8 (take (suc m) s) ≡ t → IsUtf8 (take (valid_len_up_to s m) s) → IsUtf8 (take (cond t (suc m) (valid_len_up_to s m)) s)
front-by-test s m true e k = IsUtf8-from_is_utf8 (take (suc m) s) e
front-by-test s m false e k = k

front-up-to : (s : List ℕ) (m : ℕ) → IsUtf8 (take (valid_len_up_to s m) s)
front-up-to s zero = IsUtf8-nil
front-up-to s (suc m) = front-by-test s m (is_utf8 (take (suc m) s)) refl (front-up-to s m)

front-is-text : (s : List ℕ) → IsUtf8 (take (utf8_valid_len s) s)
unfolding utf8_valid_len
front-is-text s = front-up-to s (length s)

longer-by-test : (s : List ℕ) (m j : ℕ) (t : Bool) → is_utf8 (take (suc m) s) ≡ t → cond t (suc m) (valid_len_up_to s m) < j → j ≤ suc m → IsUtf8 (take j s)
    → (valid_len_up_to s m < j → j ≤ m → IsUtf8 (take j s) → ⊥) → ⊥
longer-by-test s m j true e p q u k = absurd (omega arith)
longer-by-test s m j false e p q u k = by_place (cases_lt m j)
  where
    by_place : (m < j) ⊎ (j ≤ m) → ⊥
    by_place (inl h) =
        let at : j ≡ suc m = omega arith in
        let yes : is_utf8 (take (suc m) s) ≡ true = is_utf8-from_IsUtf8 (take (suc m) s) (subst (λ i. IsUtf8 (take i s)) at u) in
        cc
    by_place (inr h) = k p h u

longer-up-to : (s : List ℕ) (m j : ℕ) → valid_len_up_to s m < j → j ≤ m → IsUtf8 (take j s) → ⊥
longer-up-to s zero j p q u = absurd (omega arith)
longer-up-to s (suc m) j p q u = longer-by-test s m j (is_utf8 (take (suc m) s)) refl p q u (longer-up-to s m j)

none-longer : (s : List ℕ) (j : ℕ) → utf8_valid_len s < j → j ≤ length s → IsUtf8 (take j s) → ⊥
unfolding utf8_valid_len
none-longer s j p q u = longer-up-to s (length s) j p q u

no-text : (s : List ℕ) → is_utf8 s ≡ false → IsUtf8 s → ⊥
no-text s e u = let t : is_utf8 s ≡ true = is_utf8-from_IsUtf8 s u in cc

-- some bytes stand after it where the bytes are no text
some-after : (s : List ℕ) → is_utf8 s ≡ false → utf8_valid_len s < length s
some-after s e = by_size (cases_lt (utf8_valid_len s) (length s))
  where
    by_size : (utf8_valid_len s < length s) ⊎ (length s ≤ utf8_valid_len s) → utf8_valid_len s < length s
    by_size (inl h) = h
    by_size (inr h) = absurd (no-text s e (subst IsUtf8 (take-whole (utf8_valid_len s) s h) (front-is-text s)))

-- and no front of these is text
no-front : (s : List ℕ) (k : ℕ) → 0 < k → k ≤ length (drop (utf8_valid_len s) s) → IsUtf8 (take k (drop (utf8_valid_len s) s)) → ⊥
no-front s k some within u =
    let v : ℕ = utf8_valid_len s in
    let le : v ≤ length s = utf8_valid_len_le s in
    let long : length (drop v s) ≡ length s - v = length-drop v s in
    none-longer s (v + k) (omega arith) (omega (arith, long, le, within)) (subst IsUtf8 (sym (take-add v k s)) (IsUtf8-append (take v s) (take k (drop v s)) (front-is-text s) u))

is-none : (o : Option ℕ) → is_none o ≡ true → o ≡ None
is-none None e = refl
is-none (Some k) e = cc

-- text of n bytes that begins with the bytes
record Begins (n : ℕ) (s : List ℕ) : Type 0 where
  more : List ℕ
  long : length (s ++ more) ≡ n
  is_text : IsUtf8 (s ++ more)

begins-text : (n : ℕ) (s : List ℕ) → length s ≤ n → IsUtf8 s → Begins n s
begins-text n s h u =
    let p : Padding (n - length s) = padding (n - length s) in
    let long : length p.bytes ≡ n - length s = p.long in
    let all : length (s ++ p.bytes) ≡ length s + length p.bytes = length-append s p.bytes in
    record { more = p.bytes; long = omega (arith, long, all, h); is_text = IsUtf8-append s p.bytes u p.is_text }

begins-char : (n : ℕ) (s : List ℕ) → is_utf8 s ≡ false → utf8_error_len (drop (utf8_valid_len s) s) ≡ None → utf8_valid_len s + char_len (slice_index s (utf8_valid_len s)) ≤ n → Begins n s
begins-char n s e unfinished fits =
    let v : ℕ = utf8_valid_len s in
    let r : List ℕ = drop v s in
    let le : v < length s = some-after s e in
    let some : length r ≡ length s - v = length-drop v s in
    let c : Completes r = completes r (omega (arith, some, le)) unfinished (no-front s) in
    let first : get_or r 0 0 ≡ get_or s v 0 = get_or-drop v s 0 0 ∙ (let z : v + 0 ≡ v = omega arith in ap (λ i. get_or s i 0) z) in
    let size : length (r ++ c.fill) ≡ char_len (slice_index s v) = c.long ∙ ap char_len first in
    let p : Padding (n - (v + char_len (slice_index s v))) = padding (n - (v + char_len (slice_index s v))) in
    let front : take v s ++ ((r ++ c.fill) ++ p.bytes) ≡ s ++ (c.fill ++ p.bytes) =
    ap (λ w. take v s ++ w) (append_assoc r c.fill p.bytes) ∙ sym (append_assoc (take v s) r (c.fill ++ p.bytes)) ∙ ap (λ w. w ++ (c.fill ++ p.bytes)) (take-append-drop v s) in
    let all : length (s ++ (c.fill ++ p.bytes)) ≡ length s + (length c.fill + length p.bytes) = length-append s (c.fill ++ p.bytes) ∙ ap (λ m. length s + m) (length-append c.fill p.bytes) in
    let filled : length (r ++ c.fill) ≡ length r + length c.fill = length-append r c.fill in
    let padded : length p.bytes ≡ n - (v + char_len (slice_index s v)) = p.long in
    record {
      more = c.fill ++ p.bytes;
      long = omega (arith, le, some, size, all, filled, padded, fits);
      is_text = subst IsUtf8 front (IsUtf8-append (take v s) ((r ++ c.fill) ++ p.bytes) (front-is-text s) (IsUtf8-append (r ++ c.fill) p.bytes c.is_text p.is_text));
    }

begins : (n : ℕ) (s : List ℕ) → length s ≤ n → can_begin_text n s ≡ true → Begins n s
unfolding can_begin_text
begins n s h e = by_test (is_utf8 s) refl e
  where
    by_test : (t : Bool) → is_utf8 s ≡ t
        → cond t true (is_none (utf8_error_len (drop (utf8_valid_len s) s)) && nat_le (utf8_valid_len s + char_len (slice_index s (utf8_valid_len s))) n) ≡ true → Begins n s
    by_test true p e = begins-text n s h (IsUtf8-from_is_utf8 s p)
    by_test false p e =
        let v : ℕ = utf8_valid_len s in
        let q = and_parts (is_none (utf8_error_len (drop v s))) (nat_le (v + char_len (slice_index s v)) n) e in
        begins-char n s p (is-none (utf8_error_len (drop v s)) q.0) (leb-true (v + char_len (slice_index s v)) n q.1)

-- the first character of a text
record FirstOf (w : List ℕ) : Type 0 where
  char : ℕ
  rest : List ℕ
  scalar : Scalar char
  is_text : IsUtf8 (encode_utf8 char)
  splits : w ≡ encode_utf8 char ++ rest

first-of : (cs w : List ℕ) → all_scalars cs ≡ true → encode_utf8_all cs ≡ w → 0 < length w → FirstOf w
first-of [] w p q some = let l : 0 ≡ length w = ap length q in absurd (omega (arith, l, some))
first-of (c ∷ cs) w p q some = let h = and_parts _ _ p in record { char = c; rest = encode_utf8_all cs; scalar = scalar_cases c h.0; is_text = IsUtf8-encode c h.0; splits = sym q }

no-char : (c : ℕ) → Scalar c → length (encode_utf8 c) ≤ 0 → ⊥
no-char c k h =
    let some : 0 < length (encode_utf8 c ++ []) = not_empty c (shape c k) [] in
    let l : length (encode_utf8 c ++ []) ≡ length (encode_utf8 c) = ap length (append-nil (encode_utf8 c)) in
    omega (arith, some, l, h)

begun-char : (n : ℕ) (s z : List ℕ) → is_utf8 s ≡ false → IsUtf8 (s ++ z) → length (s ++ z) ≡ n
    → (is_none (utf8_error_len (drop (utf8_valid_len s) s)) && nat_le (utf8_valid_len s + char_len (slice_index s (utf8_valid_len s))) n) ≡ true
begun-char n s z e u long = and_from (is_none (utf8_error_len r)) (nat_le (v + char_len (slice_index s v)) n) (ap is_none o.error) (le-leb (v + char_len (slice_index s v)) n fits)
  where
    v : ℕ
    v = utf8_valid_len s

    r : List ℕ
    r = drop v s

    le : v < length s
    le = some-after s e

    some : length r ≡ length s - v
    some = length-drop v s

    total : length (s ++ z) ≡ length s + length z
    total = length-append s z

    ahead : IsUtf8 (take v (s ++ z))
    ahead = subst IsUtf8 (sym (take-append-le v s z (let h : v < length s = le in omega (arith, h)))) (front-is-text s)

    remaining : IsUtf8 (r ++ z)
    remaining = subst IsUtf8 (drop-append-le v s z (let h : v < length s = le in omega (arith, h))) (after_text (s ++ z) v u ahead)

    left : length (r ++ z) ≡ length r + length z
    left = length-append r z

    f : FirstOf (r ++ z)
    f = first-of remaining.0 (r ++ z) remaining.1.0 remaining.1.1 (let h : v < length s = le in let l : length r ≡ length s - v = some in let m : length (r ++ z) ≡ length r + length z = left in omega (arith, h, l, m))

    short : (length r < length (encode_utf8 f.char)) ⊎ (length (encode_utf8 f.char) ≤ length r) → length r < length (encode_utf8 f.char)
    short (inl h) = h
    short (inr h) =
        let k : ℕ = length (encode_utf8 f.char) in
        let front : take k r ≡ encode_utf8 f.char = sym (take-append-le k r z h) ∙ ap (take k) f.splits ∙ take_at (encode_utf8 f.char) f.rest k refl in
        by_len (cases_lt 0 k) front
      where
        by_len : (0 < length (encode_utf8 f.char)) ⊎ (length (encode_utf8 f.char) ≤ 0) → take (length (encode_utf8 f.char)) r ≡ encode_utf8 f.char → length r < length (encode_utf8 f.char)
        by_len (inl p) front = absurd (no-front s (length (encode_utf8 f.char)) p h (subst IsUtf8 (sym front) f.is_text))
        by_len (inr p) front = absurd (no-char f.char f.scalar p)

    is_short : length r < length (encode_utf8 f.char)
    is_short = short (cases_lt (length r) (length (encode_utf8 f.char)))

    o : IsOpen r (length (encode_utf8 f.char))
    o = opens f.char f.scalar (shape f.char f.scalar) r z f.rest f.splits (let h : v < length s = le in let l : length r ≡ length s - v = some in omega (arith, h, l)) is_short

    first : get_or r 0 0 ≡ slice_index s v
    first = get_or-drop v s 0 0 ∙ (let i : v + 0 ≡ v = omega arith in ap (λ j. get_or s j 0) i)

    size : char_len (slice_index s v) ≡ length (encode_utf8 f.char)
    size = ap char_len (sym first) ∙ o.len

    whole : length (r ++ z) ≡ length (encode_utf8 f.char) + length f.rest
    whole = ap length f.splits ∙ length-append (encode_utf8 f.char) f.rest

    fits : v + char_len (slice_index s v) ≤ n
    fits =
        let h : v < length s = le in
        let l : length r ≡ length s - v = some in
        let m : length (r ++ z) ≡ length r + length z = left in
        let t : length (s ++ z) ≡ length s + length z = total in
        let w : length (r ++ z) ≡ length (encode_utf8 f.char) + length f.rest = whole in
        let k : char_len (slice_index s v) ≡ length (encode_utf8 f.char) = size in
        omega (arith, h, l, m, t, w, k, long)

begun : (n : ℕ) (s z : List ℕ) → IsUtf8 (s ++ z) → length (s ++ z) ≡ n → can_begin_text n s ≡ true
unfolding can_begin_text
begun n s z u long = by_test (is_utf8 s) refl
  where
    by_test : (t : Bool) → is_utf8 s ≡ t
        → cond t true (is_none (utf8_error_len (drop (utf8_valid_len s) s)) && nat_le (utf8_valid_len s + char_len (slice_index s (utf8_valid_len s))) n) ≡ true
    by_test true p = refl
    by_test false p = begun-char n s z p u long

-- the format
abbrev pub Name : ℕ → Format (List ℕ)
Name n = record { Holds = λ name. (length name ≡ n) × IsUtf8 name; text = λ name. name ++ newline }

same-front : (u b p q : List ℕ) → length u ≡ length b → u ++ p ≡ b ++ q → (u ≡ b) × (p ≡ q)
same-front [] [] p q l e = (refl, e)
same-front [] (y ∷ b) p q l e = absurd (omega (arith, l))
same-front (x ∷ u) [] p q l e = absurd (omega (arith, l))
same-front (x ∷ u) (y ∷ b) p q l e =
    let head : x ≡ y = cc in
    let tails : u ++ p ≡ b ++ q = cc in
    let k : length u ≡ length b = omega (arith, l) in
    let h = same-front u b p q k tails in
    ((λ i. head i ∷ h.0 i), h.1)

module _ (n : ℕ) (s : List ℕ) where
  -- the name is there
  module _ (within : n < length s) where
    u : List ℕ
    u = take n s

    len : length u ≡ n
    unfolding u
    len = let m : length (take n s) ≡ min n (length s) = length-take n s in omega (arith, m, within)

    parts : (b x y : List ℕ) → length b ≡ n → s ++ x ≡ (b ++ newline) ++ y → (u ≡ b) × (drop n s ++ x ≡ newline ++ y)
    unfolding u
    parts b x y l e =
        same-front (take n s) b (drop n s ++ x) (newline ++ y) (len ∙ sym l)
        (sym (append_assoc (take n s) (drop n s) x) ∙ ap (λ w. w ++ x) (take-append-drop n s) ∙ e ∙ append_assoc b newline y)

    there : is_utf8 (take n s) ≡ true → (r : Result (List ℕ) JournalFail) → Told newline (drop n s) r → Judged (Name n) s (r >>= λ rest. Ok (take n s, rest))
    unfolding u
    there p (Ok rest) t = record {
      holds = (len, IsUtf8-from_is_utf8 (take n s) p);
      splits = sym (take-append-drop n s) ∙ ap (λ w. take n s ++ w) t.splits ∙ sym (append_assoc (take n s) newline rest);
      only = λ b x y h e. sym (parts b x y h.0 e).0;
    }
    there p (Err Truncated) t =
        let l : length (drop n s) + length t.more ≡ 1 = sym (length-append (drop n s) t.more) ∙ ap length t.whole in
        let d : length (drop n s) ≡ length s - n = length-drop n s in
        let m : 0 < length t.more = t.some_more in
        absurd (omega (arith, l, d, m, within))
    there p (Err NotJournal) t = record { none = λ b x y h e. t.none x y (parts b x y h.0 e).1 }
    there p (Err Version) t = t
    there p (Err NoMemory) t = t

    other : is_utf8 (take n s) ≡ false → IsClash (Name n) s
    unfolding u
    other p = record { none = λ b x y h e. no-text (take n s) p (subst IsUtf8 (sym (parts b x y h.0 e).0) h.1) }

  -- its end isn't there
  module _ (beyond : length s ≤ n) where
    cut-short : can_begin_text n s ≡ true → IsShort (Name n) s
    cut-short p =
        let b : Begins n s = begins n s beyond p in
        record {
          value = s ++ b.more;
          more = b.more ++ newline;
          holds = (b.long, b.is_text);
          whole = sym (append_assoc s b.more newline);
          some_more = let l : length (b.more ++ newline) ≡ length b.more + 1 = length-append b.more newline in omega (arith, l);
          none = λ c x h e. too-long c x h.0 e;
        }
      where
        too-long : (c x : List ℕ) → length c ≡ n → s ≡ (c ++ newline) ++ x → ⊥
        too-long c x l e =
            let m : length s ≡ length (c ++ newline) + length x = ap length e ∙ length-append (c ++ newline) x in
            let k : length (c ++ newline) ≡ length c + 1 = length-append c newline in
            absurd (omega (arith, m, k, l, beyond))

    clash : can_begin_text n s ≡ false → IsClash (Name n) s
    clash p = record { none = λ c x y h e. by_parts c x y h e }
      where
        by_parts : (c x y : List ℕ) → (length c ≡ n) × IsUtf8 c → s ++ x ≡ (c ++ newline) ++ y → ⊥
        by_parts c x y h e =
            let l : length c ≡ n = h.0 in
            let f : s ++ x ≡ c ++ (newline ++ y) = e ∙ append_assoc c newline y in
            let a : take (length s) c ≡ s = sym (take-append-le (length s) c (newline ++ y) (omega (arith, l, beyond))) ∙ ap (take (length s)) (sym f) ∙ take_at s x (length s) refl in
            let z : List ℕ = drop (length s) c in
            let w : c ≡ s ++ z = sym (take-append-drop (length s) c) ∙ ap (λ v. v ++ z) a in
            let t : can_begin_text n s ≡ true = begun n s z (subst IsUtf8 w h.1) (ap length (sym w) ∙ l) in
            cc

pub name-judged : (n : ℕ) (s : List ℕ) → Judged (Name n) s (name_at n s)
unfolding name_at
name-judged n s = by_length (nat_lt n (length s)) (is_utf8 (take n s)) (can_begin_text n s) refl refl refl
  where
    by_length : (x y z : Bool) → nat_lt n (length s) ≡ x → is_utf8 (take n s) ≡ y → can_begin_text n s ≡ z
        → Judged (Name n) s (cond x (cond y (word_at newline (drop n s) >>= λ rest. Ok (take n s, rest)) (Err NotJournal)) (cond z (Err Truncated) (Err NotJournal)))
    by_length true true z p q r = there n s (ltb-true n (length s) p) q (word_at newline (drop n s)) (word-told newline (drop n s))
    by_length true false z p q r = other n s (ltb-true n (length s) p) q
    by_length false y true p q r = cut-short n s (ltb-false n (length s) p) r
    by_length false y false p q r = clash n s (ltb-false n (length s) p) r

-- what std's test of text says
pub text-is : (s : List ℕ) → IsUtf8 s → true ≡ is_utf8 s
text-is s u = sym (is_utf8-from_IsUtf8 s u)

pub text-is-not : (s : List ℕ) → (IsUtf8 s → ⊥) → false ≡ is_utf8 s
text-is-not s none = by_test (is_utf8 s) refl
  where
    by_test : (t : Bool) → is_utf8 s ≡ t → false ≡ t
    by_test true e = absurd (none (IsUtf8-from_is_utf8 s e))
    by_test false e = refl

pub begins-as-text : (n : ℕ) (s : List ℕ) → IsUtf8 s → true ≡ can_begin_text n s
unfolding can_begin_text
begins-as-text n s u =
    let v : ℕ = utf8_valid_len s in
    ap (λ t. cond t true (is_none (utf8_error_len (drop v s)) && nat_le (v + char_len (slice_index s v)) n)) (text-is s u)

goes-by-test : (n : ℕ) (s : List ℕ) → (IsUtf8 s → ⊥)
    → can_begin_text n s ≡ (is_none (utf8_error_len (drop (utf8_valid_len s) s)) && nat_le (utf8_valid_len s + char_len (slice_index s (utf8_valid_len s))) n)
unfolding can_begin_text
goes-by-test n s none =
    let v : ℕ = utf8_valid_len s in
    ap (λ t. cond t true (is_none (utf8_error_len (drop v s)) && nat_le (v + char_len (slice_index s v)) n)) (sym (text-is-not s none))

pub cannot-go-on : (n : ℕ) (s : List ℕ) (v : ℕ) (o : Option ℕ) → (IsUtf8 s → ⊥) → v ≡ utf8_valid_len s → o ≡ utf8_error_len (drop v s) → is_none o ≡ false → false ≡ can_begin_text n s
cannot-go-on n s v o none at error some =
    sym (goes-by-test n s none ∙ ap (λ t. t && nat_le (utf8_valid_len s + char_len (slice_index s (utf8_valid_len s))) n)
    (ap (λ k. is_none (utf8_error_len (drop k s))) (sym at) ∙ ap is_none (sym error) ∙ some))

pub may-go-on : (n : ℕ) (s : List ℕ) (v : ℕ) (o : Option ℕ) → (IsUtf8 s → ⊥) → v ≡ utf8_valid_len s → o ≡ utf8_error_len (drop v s) → is_none o ≡ true
    → nat_le (v + char_len (slice_index s v)) n ≡ can_begin_text n s
may-go-on n s v o none at error some =
    sym (goes-by-test n s none ∙ (λ i. is_none (utf8_error_len (drop (sym at i) s)) && nat_le (sym at i + char_len (slice_index s (sym at i))) n)
    ∙ ap (λ t. t && nat_le (v + char_len (slice_index s v)) n) (ap is_none (sym error) ∙ some))

-- a number that is more than a `usize` can hold is as good as the greatest
cap-begins : (n : ℕ) (s : List ℕ) → length s + 4 < 2 ^ 64 → can_begin_text (capped n) s ≡ can_begin_text n s
unfolding can_begin_text
cap-begins n s h = by_size (cases_lt (2 ^ 64 - 1) n)
  where
    small : (b : ℕ) → char_len b ≤ 4
    small b = by_tests (nat_lt b 224) (nat_lt b 240)
      where
        by_tests : (x y : Bool) → cond x 2 (cond y 3 4) ≤ 4
        by_tests true y = omega arith
        by_tests false true = omega arith
        by_tests false false = omega arith

    by_size : (2 ^ 64 - 1 < n) ⊎ (n ≤ 2 ^ 64 - 1)
        → cond (is_utf8 s) true (is_none (utf8_error_len (drop (utf8_valid_len s) s)) && nat_le (utf8_valid_len s + char_len (slice_index s (utf8_valid_len s))) (capped n))
        ≡ cond (is_utf8 s) true (is_none (utf8_error_len (drop (utf8_valid_len s) s)) && nat_le (utf8_valid_len s + char_len (slice_index s (utf8_valid_len s))) n)
    by_size (inl l) =
        let le : utf8_valid_len s ≤ length s = utf8_valid_len_le s in
        let four : char_len (slice_index s (utf8_valid_len s)) ≤ 4 = small (slice_index s (utf8_valid_len s)) in
        let k : ℕ = utf8_valid_len s + char_len (slice_index s (utf8_valid_len s)) in
        let p : nat_le k (capped n) ≡ true = le-leb k (capped n) (omega (arith, le, four, l, h)) in
        let q : nat_le k n ≡ true = le-leb k n (omega (arith, le, four, l, h)) in
        ap (λ t. cond (is_utf8 s) true (is_none (utf8_error_len (drop (utf8_valid_len s) s)) && t)) (p ∙ sym q)
    by_size (inr l) =
        let same : capped n ≡ n = omega (arith, l) in
        ap (λ m. cond (is_utf8 s) true (is_none (utf8_error_len (drop (utf8_valid_len s) s)) && nat_le (utf8_valid_len s + char_len (slice_index s (utf8_valid_len s))) m)) same

short-name : (n : ℕ) (s : List ℕ) → length s + 4 < 2 ^ 64 → length s ≤ capped n
    → ◌≡◌ {A = Reading (List ℕ)} (name_at n s) (cond {A = Reading (List ℕ)} (can_begin_text (capped n) s) (Err Truncated) (Err NotJournal))
unfolding name_at
short-name n s h le =
    let beyond : length s ≤ n = omega (arith, h, le) in
    ap (λ x. cond {A = Reading (List ℕ)} x (cond (is_utf8 (take n s)) (word_at newline (drop n s) >>= λ rest. Ok (take n s, rest)) (Err NotJournal)) (cond (can_begin_text n s) (Err Truncated) (Err NotJournal))) (le-ltb n (length s) beyond)
    ∙ ap (λ x. cond {A = Reading (List ℕ)} x (Err Truncated) (Err NotJournal)) (sym (cap-begins n s h))

pub cut-name : (n k : ℕ) (s : List ℕ) → k ≡ capped n → length s + 4 < 2 ^ 64 → length s ≤ k → can_begin_text k s ≡ true → ◌≡◌ {A = Reading (List ℕ)} (name_at n s) (Err Truncated)
cut-name n k s c h le b =
    short-name n s h (subst (λ m. length s ≤ m) c le)
    ∙ ap (λ x. cond {A = Reading (List ℕ)} x (Err Truncated) (Err NotJournal)) (ap (λ m. can_begin_text m s) (sym c) ∙ b)

pub bad-name : (n k : ℕ) (s : List ℕ) → k ≡ capped n → length s + 4 < 2 ^ 64 → length s ≤ k → can_begin_text k s ≡ false → ◌≡◌ {A = Reading (List ℕ)} (name_at n s) (Err NotJournal)
bad-name n k s c h le b =
    short-name n s h (subst (λ m. length s ≤ m) c le)
    ∙ ap (λ x. cond {A = Reading (List ℕ)} x (Err Truncated) (Err NotJournal)) (ap (λ m. can_begin_text m s) (sym c) ∙ b)

-- a name that is there
whole-name : (n : ℕ) (s : List ℕ) → n < length s → name_at n s ≡ cond (is_utf8 (take n s)) (word_at newline (drop n s) >>= λ rest. Ok (take n s, rest)) (Err NotJournal)
unfolding name_at
whole-name n s h =
    ap (λ x. cond x (cond (is_utf8 (take n s)) (word_at newline (drop n s) >>= λ rest. Ok (take n s, rest)) (Err NotJournal)) (cond (can_begin_text n s) (Err Truncated) (Err NotJournal))) (lt-ltb n (length s) h)

same-len : (n k : ℕ) (s : List ℕ) → k ≡ capped n → length s + 4 < 2 ^ 64 → k < length s → n ≡ k
same-len n k s c h l = omega (arith, c, h, l)

pub no-text-there : (n k : ℕ) (s : List ℕ) → k ≡ capped n → length s + 4 < 2 ^ 64 → k < length s → is_utf8 (take k s) ≡ false → name_at n s ≡ Err NotJournal
no-text-there n k s c h l b =
    ap (λ m. name_at m s) (same-len n k s c h l) ∙ whole-name k s l ∙ ap (λ x. cond x (word_at newline (drop k s) >>= λ rest. Ok (take k s, rest)) (Err NotJournal)) b

pub text-there : (n k : ℕ) (s : List ℕ) → k ≡ capped n → length s + 4 < 2 ^ 64 → k < length s → is_utf8 (take k s) ≡ true → name_at n s ≡ (word_at newline (drop k s) >>= λ rest. Ok (take k s, rest))
text-there n k s c h l b =
    ap (λ m. name_at m s) (same-len n k s c h l) ∙ whole-name k s l ∙ ap (λ x. cond x (word_at newline (drop k s) >>= λ rest. Ok (take k s, rest)) (Err NotJournal)) b

pub word-fails : (n k : ℕ) (s : List ℕ) (e : JournalFail) → k ≡ capped n → length s + 4 < 2 ^ 64 → k < length s → is_utf8 (take k s) ≡ true → word_at newline (drop k s) ≡ Err e
    → ◌≡◌ {A = Reading (List ℕ)} (name_at n s) (Err e)
word-fails n k s e c h l b w = text-there n k s c h l b ∙ ap (λ r. r >>= λ rest. Ok (take k s, rest)) w

pub word-reads : (n k : ℕ) (s name rest : List ℕ) → k ≡ capped n → length s + 4 < 2 ^ 64 → k < length s → is_utf8 (take k s) ≡ true → word_at newline (drop k s) ≡ Ok rest → name ≡ take k s
    → name_at n s ≡ Ok (name, rest)
word-reads n k s name rest c h l b w same = text-there n k s c h l b ∙ ap (λ r. r >>= λ rest. Ok (take k s, rest)) w ∙ ap (λ u. Ok (u, rest)) (sym same)

pub none-from-some : (o : Option ℕ) → is_some o ≡ true → is_none o ≡ false
none-from-some None e = cc
none-from-some (Some k) e = refl

pub none-from-none : (o : Option ℕ) → is_some o ≡ false → is_none o ≡ true
none-from-none None e = refl
none-from-none (Some k) e = cc
