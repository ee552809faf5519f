-- A canonical text is a chain of the pieces that its bits are.
use Rattle.std.proofs.Common.{◌≡◌, ℕ, Bool, List, [], ◌∷◌, ◌++◌, length, take, drop, refl, ap, sym, subst, ◌∙◌, arith, append_assoc, length-append}
use Rattle.std.proofs.lemmas.List.{append-nil}
use Rattle.std.proofs.Math.Seq.{take-append_seam, drop-append_seam}
use Rattle.sr_lexer.specs.Pieces.{piece_at}
use Rattle.sr_lexer.specs.Separators.{Placed, tokens_at}
use Rattle.sr_lexer.specs.Tokens.{placed, BeginsAt, Chain}
use Rattle.sr_fmt.specs.Layout.{layout, first_pen}
use Rattle.sr_fmt.proofs.FrontLemmas.{on_ok, along}
use Rattle.sr_spelling.proofs.Bits.{ok_of}
use Rattle.sr_fmt_laws.specs.Bits.{Bit, text_of, layout_bits}
use Rattle.sr_fmt_laws.proofs.LayoutBits.{text_joined}
use Rattle.sr_fmt_laws.proofs.TokenBits.{told_as, ReadsAs}
use Rattle.sr_fmt_laws.proofs.ReadBits.{ReadBefore, layout_reads, all_pieces}

-- the piece is this bit
pub record IsBit (p : Placed) (bit : Bit) : Type 0 where
  pub text : p.text ≡ bit.text
  pub told : (before : List Placed) → tokens_at before p.kind p.text p.span ≡ told_as before bit.kind p.text p.span

abbrev pub AreBits : List Placed → List Bit → Type 0
AreBits [] [] = Unit {0}
AreBits (p ∷ pieces) (bit ∷ bits) = IsBit p bit × AreBits pieces bits
AreBits _ _ = ⊥

-- a chain from the end of what stands before the bits
abbrev pub ChainOf : ℕ → List ℕ → List Bit → Type 0
ChainOf file before bits = (pieces : List Placed) × Chain file (before ++ text_of bits) (length before) pieces (length (before ++ text_of bits)) × AreBits pieces bits

one_bit : (file : ℕ) (before : List ℕ) (bit : Bit) (bits : List Bit) → ReadsAs bit (text_of bits) → ChainOf file (before ++ bit.text) bits → ChainOf file before (bit ∷ bits)
one_bit file before bit bits reads more =
    let front = bit.text ++ text_of bits in
    let source = before ++ front in
    let same : (before ++ bit.text) ++ text_of bits ≡ source = append_assoc before bit.text (text_of bits) in
    let here : drop (length before) source ≡ front = drop-append_seam before front in
    let found = ok_of (piece_at front) reads.ok in
    let found_len : found.0.len ≡ length bit.text = sym (along found.1 (λ r. on_ok r (λ piece. piece.len) 0)) ∙ reads.len in
    let p = placed file source (length before) found.0 in
    let begins : BeginsAt file source (length before) p = (found.0, ap piece_at here ∙ found.1, refl) in
    let text : p.text ≡ bit.text = along found_len (λ (n : ℕ). take n (drop (length before) source)) ∙ ap (λ (xs : List ℕ). take (length bit.text) xs) here ∙ take-append_seam bit.text (text_of bits) in
    let told : (b : List Placed) → tokens_at b p.kind p.text p.span ≡ told_as b bit.kind p.text p.span =
    λ b. sym (along found.1 (λ r. on_ok r (λ piece. tokens_at b piece.kind p.text p.span) [])) ∙ reads.told b p.text p.span in
    let end : length (before ++ bit.text) ≡ p.span.to = omega (arith, length-append before bit.text, found_len) in
    let rest : Chain file source p.span.to more.0 (length source) =
    subst (λ (n : ℕ). Chain file source n more.0 (length source)) end
    (subst (λ (xs : List ℕ). Chain file xs (length (before ++ bit.text)) more.0 (length xs)) same more.1) in
    (p ∷ more.0, (begins, rest), (record { text = text; told = told }, more.2))

pub chain_of : (file : ℕ) (before : List ℕ) (bits : List Bit) → ReadBefore bits [] → ChainOf file before bits
chain_of file before [] read = ([], sym (ap (λ (xs : List ℕ). length xs) (append-nil before)), tt)
chain_of file before (bit ∷ bits) read =
    one_bit file before bit bits (subst (ReadsAs bit) (append-nil (text_of bits)) read.0) (chain_of file (before ++ bit.text) bits read.1)

-- the canonical text of the pieces of a source is a chain of its bits
pub canonical_chain : (file : ℕ) (source : List ℕ) (pieces : List Placed) (begins : ℕ → Bool) → Chain file source 0 pieces (length source)
    → (again : List Placed) × Chain file (layout begins first_pen pieces) 0 again (length (layout begins first_pen pieces)) × AreBits again (layout_bits begins first_pen [] pieces)
canonical_chain file source pieces begins chain =
    let bits = layout_bits begins first_pen [] pieces in
    let found = chain_of file [] bits (layout_reads begins first_pen [] pieces refl tt (all_pieces file source 0 pieces (length source) chain)) in
    (found.0, subst (λ (xs : List ℕ). Chain file xs 0 found.0 (length xs)) (text_joined begins pieces) found.1, found.2)
