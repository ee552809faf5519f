-- A text that is written bit by bit, each of which reads alone, is a chain of these bits.
use Rattle.std.proofs.Common.{◌≡◌, ℕ, ◌+◌, ◌<◌, ◌≤◌, Bool, true, false, List, [], ◌∷◌, ◌++◌, length, take, drop, map, refl, ap, sym, subst, ◌∙◌, arith, append_assoc, Result, Ok, Err, is_ok, length-append}
use Rattle.std.proofs.lemmas.List.{append-nil}
use Rattle.std.proofs.Math.Seq.{take-append_seam, drop-append_seam}
use Rattle.sr_lexer.specs.Pieces.{piece_at}
use Rattle.sr_lexer.specs.Separators.{Placed}
use Rattle.sr_lexer.specs.Tokens.{placed, BeginsAt, Chain}
use Rattle.sr_spelling.proofs.Alone.{along}
use Rattle.sr_spelling.proofs.Own.{on_ok, len_front}

-- all bits, one after the other
abbrev pub joined : List (List ℕ) → List ℕ
joined [] = []
joined (bit ∷ bits) = bit ++ joined bits

-- each bit is the piece that begins with it
abbrev pub Read : List (List ℕ) → Type 0
Read [] = Unit {0}
Read (bit ∷ bits) = (is_ok (piece_at (bit ++ joined bits)) ≡ true) × (len_front (bit ++ joined bits) ≡ length bit) × Read bits

-- the pieces are these bits
abbrev pub texts_of : List Placed → List (List ℕ)
texts_of pieces = map (λ p. p.text) pieces

pub ok_of : {A E : Type 0} (r : Result A E) → is_ok r ≡ true → (x : A) × (r ≡ Ok x)
ok_of (Ok x) e = (x, refl)
ok_of (Err e) f = absurd (cc)

-- a chain from the end of what stands before the bits
abbrev pub ChainOf : ℕ → List ℕ → List (List ℕ) → Type 0
ChainOf file before bits = (pieces : List Placed) × Chain file (before ++ joined bits) (length before) pieces (length (before ++ joined bits)) × (texts_of pieces ≡ bits)

one_bit : (file : ℕ) (before bit : List ℕ) (bits : List (List ℕ)) → is_ok (piece_at (bit ++ joined bits)) ≡ true → len_front (bit ++ joined bits) ≡ length bit → ChainOf file (before ++ bit) bits → ChainOf file before (bit ∷ bits)
one_bit file before bit bits ok len more =
    let source = before ++ (bit ++ joined bits) in
    let same : (before ++ bit) ++ joined bits ≡ source = append_assoc before bit (joined bits) in
    let here : drop (length before) source ≡ bit ++ joined bits = drop-append_seam before (bit ++ joined bits) in
    let found = ok_of (piece_at (bit ++ joined bits)) ok in
    let found_len : found.0.len ≡ length bit = sym (along found.1 (λ r. on_ok r (λ piece. piece.len) 0)) ∙ len in
    let p = placed file source (length before) found.0 in
    let begins : BeginsAt file source (length before) p = (found.0, ap piece_at here ∙ found.1, refl) in
    let text : p.text ≡ bit = along found_len (λ (n : ℕ). take n (drop (length before) source)) ∙ ap (λ (xs : List ℕ). take (length bit) xs) here ∙ take-append_seam bit (joined bits) in
    let end : length (before ++ bit) ≡ p.span.to = omega (arith, length-append before bit, found_len) in
    let rest : Chain file source p.span.to more.0 (length source) =
    subst (λ (n : ℕ). Chain file source n more.0 (length source)) end
    (subst (λ (xs : List ℕ). Chain file xs (length (before ++ bit)) more.0 (length xs)) same more.1) in
    (p ∷ more.0, (begins, rest), ap (λ (t : List ℕ). t ∷ texts_of more.0) text ∙ ap (λ (ts : List (List ℕ)). bit ∷ ts) more.2)

pub chain_of : (file : ℕ) (before : List ℕ) (bits : List (List ℕ)) → Read bits → ChainOf file before bits
chain_of file before [] read = ([], sym (ap (λ (xs : List ℕ). length xs) (append-nil before)), refl)
chain_of file before (bit ∷ bits) read = one_bit file before bit bits read.0 read.1 (chain_of file (before ++ bit) bits read.2)
