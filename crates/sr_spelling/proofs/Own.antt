-- A piece that is cut out of a source reads as it did there, whatever follows it, unless that goes on with it.
use Rattle.std.proofs.Common.{◌≡◌, ℕ, zero, suc, ◌+◌, ◌<◌, ◌≤◌, ◌==◌, Bool, true, false, cond, not, ◌&&◌, ◌||◌, List, [], ◌∷◌, ◌++◌, length, take, drop, refl, ap, sym, subst, ◌∙◌, arith, add-one, Option, Some, None, Result, Ok, Err, is_ok, nat_lt, nat_eq, codes, ◌⊎◌, inl, inr}
use Rattle.std.specs.List.{prefix_len, starts_with}
use Rattle.std.proofs.Math.Numerals.{one-add}
use Rattle.std.proofs.Math.Seq.{drop-length}
use Rattle.std.proofs.lemmas.List.{take-take}
use Rattle.std.proofs.lemmas.Bool.{and_parts as both_of}
use Rattle.sr_lexer.specs.Bytes.{is_digit, is_letter, is_name_byte}
use Rattle.sr_lexer.specs.Pieces.{first_passes, run_len, line_comment, name_piece, number_of, is_number, number_piece, piece_at}
use Rattle.sr_spelling.specs.Longer.{touches}
use Rattle.sr_spelling.proofs.Alone.{along, split, run_is, name_at, name_alone, number_at, number_alone, hash_at, line_comment_alone, no_touch}

abbrev pub on_ok : {A E B : Type 0} → Result A E → (A → B) → B → B
on_ok (Ok x) f d = f x
on_ok (Err e) f d = d

-- how many bytes the piece in front has
abbrev pub len_front : List ℕ → ℕ
len_front bytes = on_ok (piece_at bytes) (λ piece. piece.len) 0

-- the piece in front, cut out, reads as it did
abbrev pub Own : List ℕ → Type 0
Own bytes = (rest : List ℕ) → touches bytes rest ≡ false → piece_at (take (len_front bytes) bytes ++ rest) ≡ piece_at bytes

-- ---- runs

prefix_step : (test : ℕ → Bool) (x : ℕ) (xs : List ℕ) (b : Bool) → test x ≡ b → prefix_len test (take (prefix_len test xs) xs) ≡ prefix_len test xs → prefix_len test (take (cond b (1 + prefix_len test xs) 0) (x ∷ xs)) ≡ cond b (1 + prefix_len test xs) 0
prefix_step test x xs true e more =
    along (one-add (prefix_len test xs)) (λ (n : ℕ). prefix_len test (take n (x ∷ xs)))
    ∙ along e (λ (b : Bool). cond b (1 + prefix_len test (take (prefix_len test xs) xs)) 0)
    ∙ ap (λ (n : ℕ). 1 + n) more
prefix_step test x xs false e more = refl

prefix_taken : (test : ℕ → Bool) (xs : List ℕ) → prefix_len test (take (prefix_len test xs) xs) ≡ prefix_len test xs
prefix_taken test [] = refl
prefix_taken test (x ∷ xs) = prefix_step test x xs (test x) refl (prefix_taken test xs)

-- a run that is taken out of a list is a run of all of itself
run_taken : (test : ℕ → Bool) (xs : List ℕ) → run_len test (take (run_len test xs) xs) ≡ run_len test xs
run_taken test xs =
    run_is test (take (run_len test xs) xs)
    ∙ ap (λ (n : ℕ). prefix_len test (take n xs)) (run_is test xs)
    ∙ prefix_taken test xs ∙ sym (run_is test xs)

taken_len : (test : ℕ → Bool) (xs : List ℕ) → length (take (run_len test xs) xs) ≡ run_len test xs
taken_len test xs = ap (λ (n : ℕ). length (take n xs)) (run_is test xs)

-- the first byte and a run after it
first_and : (byte n : ℕ) (more : List ℕ) → take (n + 1) (byte ∷ more) ≡ byte ∷ take n more
first_and byte n more = along (add-one n) (λ (m : ℕ). take m (byte ∷ more))

-- ---- names and words

same_name : (byte : ℕ) (more : List ℕ) → name_piece (byte ∷ take (run_len is_name_byte more) more) ≡ name_piece (byte ∷ more)
same_name byte more =
    let taken = run_taken is_name_byte more in
    let bytes : take (run_len is_name_byte more + 1) (byte ∷ take (run_len is_name_byte more) more) ≡ take (run_len is_name_byte more + 1) (byte ∷ more) =
    first_and byte (run_len is_name_byte more) (take (run_len is_name_byte more) more)
    ∙ along (take-take (run_len is_name_byte more) (run_len is_name_byte more) more (omega arith)) (λ (xs : List ℕ). byte ∷ xs)
    ∙ sym (first_and byte (run_len is_name_byte more) more) in
    rw (taken, bytes) refl

pub own_name : (byte : ℕ) (more rest : List ℕ) → is_letter byte ≡ true → first_passes is_name_byte rest ≡ false → piece_at (take (len_front (byte ∷ more)) (byte ∷ more) ++ rest) ≡ piece_at (byte ∷ more)
own_name byte more rest e ends =
    let run = run_len is_name_byte more in
    let own = take run more in
    along (along (name_at byte more e) (λ r. on_ok r (λ piece. piece.len) 0)) (λ (n : ℕ). piece_at (take n (byte ∷ more) ++ rest))
    ∙ along (first_and byte run more) (λ (text : List ℕ). piece_at (text ++ rest))
    ∙ name_alone byte own rest e (run_taken is_name_byte more ∙ sym (taken_len is_name_byte more)) ends
    ∙ name_at byte own e
    ∙ along (same_name byte more) (λ piece. Ok piece)
    ∙ sym (name_at byte more e)

-- ---- comments from `#`

same_line : (more : List ℕ) → line_comment (35 ∷ take (run_len (λ byte. not (byte == 10)) more) more) ≡ line_comment (35 ∷ more)
same_line more = let taken = run_taken (λ byte. not (byte == 10)) more in rw taken refl

pub own_line : (more rest : List ℕ) → first_passes (λ byte. not (byte == 10)) rest ≡ false → piece_at (take (len_front (35 ∷ more)) (35 ∷ more) ++ rest) ≡ piece_at (35 ∷ more)
own_line more rest ends =
    let test : ℕ → Bool = λ byte. not (byte == 10) in
    let run = run_len (λ byte. not (byte == 10)) more in
    along (along (hash_at more) (λ r. on_ok r (λ piece. piece.len) 0)) (λ (n : ℕ). piece_at (take n (35 ∷ more) ++ rest))
    ∙ along (first_and 35 run more) (λ (text : List ℕ). piece_at (text ++ rest))
    ∙ line_comment_alone (take run more) rest (run_taken (λ byte. not (byte == 10)) more ∙ sym (taken_len (λ byte. not (byte == 10)) more)) ends
    ∙ hash_at (take run more)
    ∙ along (same_line more) (λ piece. Ok piece)
    ∙ sym (hash_at more)

-- ---- numbers

digit_run : (byte : ℕ) (xs : List ℕ) → is_digit byte ≡ true → run_len is_digit (byte ∷ xs) ≡ suc (run_len is_digit xs)
digit_run byte xs e =
    run_is is_digit (byte ∷ xs)
    ∙ along e (λ (b : Bool). cond b (1 + prefix_len is_digit xs) 0)
    ∙ one-add (prefix_len is_digit xs)
    ∙ ap suc (sym (run_is is_digit xs))

-- what is a number before something is one before nothing
number_before_end : (digits rest : List ℕ) → is_number digits rest ≡ true → is_number digits [] ≡ true
number_before_end digits rest e =
    let both = both_of (not (nat_lt 2147483647 (number_of digits))) (not (first_passes (λ byte. is_letter byte || byte == 95) rest)) e in
    along both.0 (λ (b : Bool). b && true)

-- a number that is found is in range, and touches nothing
number_whole : (bytes : List ℕ) → is_ok (number_piece bytes) ≡ true → is_number (take (run_len is_digit bytes) bytes) (drop (run_len is_digit bytes) bytes) ≡ true
number_whole bytes ok =
    elim (split (is_number (take (run_len is_digit bytes) bytes) (drop (run_len is_digit bytes) bytes))) [
      | inl e ↦ e
      | inr e ↦ (let bad : false ≡ true = rw e at ok in absurd (cc))
    ]

number_len : (bytes : List ℕ) → is_ok (number_piece bytes) ≡ true → on_ok (number_piece bytes) (λ piece. piece.len) 0 ≡ run_len is_digit bytes
number_len bytes ok = let whole = number_whole bytes ok in rw whole refl

-- two whole numbers of one length are one piece
same_number : (bytes other : List ℕ) → run_len is_digit other ≡ run_len is_digit bytes
    → is_number (take (run_len is_digit bytes) bytes) (drop (run_len is_digit bytes) bytes) ≡ true
    → is_number (take (run_len is_digit bytes) other) (drop (run_len is_digit bytes) other) ≡ true
    → number_piece other ≡ number_piece bytes
same_number bytes other run whole same = rw (run, whole, same) refl

pub own_number : (byte : ℕ) (more rest : List ℕ) → is_digit byte ≡ true → is_ok (piece_at (byte ∷ more)) ≡ true → first_passes is_name_byte rest ≡ false → piece_at (take (len_front (byte ∷ more)) (byte ∷ more) ++ rest) ≡ piece_at (byte ∷ more)
own_number byte more rest e ok ends =
    let bytes = byte ∷ more in
    let run = run_len is_digit bytes in
    let m = run_len is_digit more in
    let rest_of = take m more in
    let own = byte ∷ rest_of in
    let is_suc : run ≡ suc m = digit_run byte more e in
    let ok_number : is_ok (number_piece bytes) ≡ true = sym (along (number_at byte more e) is_ok) ∙ ok in
    let whole = number_whole bytes ok_number in
    let same_run : run_len is_digit own ≡ run = digit_run byte rest_of e ∙ ap suc (run_taken is_digit more) ∙ sym is_suc in
    let own_len : run_len is_digit own ≡ length own = same_run ∙ is_suc ∙ ap suc (sym (taken_len is_digit more)) in
    let taken : take run bytes ≡ own = ap (λ (n : ℕ). take n bytes) is_suc in
    let again : take run own ≡ own = ap (λ (n : ℕ). take n own) is_suc ∙ along (take-take m m more (omega arith)) (λ (xs : List ℕ). byte ∷ xs) in
    let none : drop run own ≡ [] = ap (λ (n : ℕ). drop n own) (sym same_run ∙ own_len) ∙ drop-length own in
    let digits : is_number own [] ≡ true = number_before_end own (drop run bytes) (sym (ap (λ (text : List ℕ). is_number text (drop run bytes)) taken) ∙ whole) in
    let own_whole : is_number (take run own) (drop run own) ≡ true = ap (λ (text : List ℕ). is_number text (drop run own)) again ∙ ap (λ (left : List ℕ). is_number own left) none ∙ digits in
    along (along (number_at byte more e) (λ r. on_ok r (λ piece. piece.len) 0) ∙ number_len bytes ok_number) (λ (n : ℕ). piece_at (take n bytes ++ rest))
    ∙ along taken (λ (text : List ℕ). piece_at (text ++ rest))
    ∙ number_alone byte rest_of rest e own_len ends
    ∙ number_at byte rest_of e
    ∙ same_number bytes own same_run whole own_whole
    ∙ sym (number_at byte more e)
