-- A file has one chain of pieces, which goes as far as pieces go.
use Rattle.std.proofs.Common.{◌≡◌, ℕ, zero, suc, ◌+◌, ◌<◌, ◌≤◌, List, [], ◌∷◌, length, drop, refl, ap, sym, subst, ◌∙◌, arith, Ok, Err, Result, ◌⊎◌, inl, inr, length-drop}
use Rattle.std.proofs.Math.Seq.{drop-length}
use Rattle.std.proofs.Math.Nat.{eq-or-lt_of_le}
use Rattle.sr_text.specs.declared.refusal.Kind.TheVariants.{BadByte}
use Rattle.sr_text.specs.declared.refusal.Refusal.{Refusal}
use Rattle.sr_text.specs.Lines.{line_at}
use Rattle.sr_tree.specs.declared.token.Token.{Token}
use Rattle.sr_lexer.specs.declared.piece.Piece.{Piece}
use Rattle.sr_lexer.specs.declared.piece.Fault.{Fault}
use Rattle.sr_lexer.specs.Symbols.{listed_sign}
use Rattle.sr_lexer.specs.Pieces.{piece_at, FitsIn}
use Rattle.sr_lexer.specs.Separators.{Placed, tokens_of}
use Rattle.sr_lexer.specs.Tokens.{placed, BeginsAt, Chain, Lexes, RefusesToLex}
use Rattle.sr_lexer.proofs.PieceLemmas.{piece_fits}

-- no piece begins here
Stops : List ℕ → ℕ → Type 0
Stops bytes at = (fault : Fault) × (piece_at (drop at bytes) ≡ Err fault)

-- nor after the last byte
stops_at_end : (bytes : List ℕ) → Stops bytes (length bytes)
unfolding Stops piece_at listed_sign
stops_at_end bytes = (record { kind = BadByte; at = 0 }, ap piece_at (drop-length bytes))

-- one piece begins at a byte
one_piece : (file : ℕ) (bytes : List ℕ) (from : ℕ) (p q : Placed) → BeginsAt file bytes from p → BeginsAt file bytes from q → p ≡ q
one_piece file bytes from p q a b =
    let same : a.0 ≡ b.0 = cc (sym a.1 ∙ b.1) in
    a.2 ∙ ap (placed file bytes from) same ∙ sym b.2

-- where a piece begins the pieces go on
goes_on : (file : ℕ) (bytes : List ℕ) (from at : ℕ) (p : Placed) → from ≡ at → BeginsAt file bytes from p → Stops bytes at → ⊥
unfolding Stops
goes_on file bytes from at p e begins stops =
    let clash : ◌≡◌ {A = Result Piece Fault} (Ok begins.0) (Err stops.0) = sym begins.1 ∙ ap (λ n. piece_at (drop n bytes)) e ∙ stops.1 in
    cc

-- two chains that go as far as pieces go are one
one_chain : (file : ℕ) (bytes : List ℕ) (from : ℕ) (ps qs : List Placed) (a b : ℕ) → Chain file bytes from ps a → Chain file bytes from qs b → Stops bytes a → Stops bytes b → (ps ≡ qs) × (a ≡ b)
one_chain file bytes from [] [] a b e f stops ends = (refl, sym e ∙ f)
one_chain file bytes from [] (q ∷ qs) a b e chain stops ends = absurd (goes_on file bytes from a q e chain.0 stops)
one_chain file bytes from (p ∷ ps) [] a b chain f stops ends = absurd (goes_on file bytes from b p f chain.0 ends)
one_chain file bytes from (p ∷ ps) (q ∷ qs) a b chain other stops ends =
    let same = one_piece file bytes from p q chain.0 other.0 in
    let rest = one_chain file bytes p.span.to ps qs a b chain.1 (subst (λ (r : Placed). Chain file bytes r.span.to qs b) (sym same) other.1) stops ends in
    (ap (λ r. r ∷ ps) same ∙ ap (λ rs. q ∷ rs) rest.0, rest.1)

-- one list of tokens
pub one_list : (file : ℕ) (bytes : List ℕ) (a b : List Token) → Lexes file bytes a → Lexes file bytes b → a ≡ b
one_list file bytes a b l m =
    let end = stops_at_end bytes in
    l.told ∙ ap tokens_of (one_chain file bytes 0 l.pieces m.pieces (length bytes) (length bytes) l.chain m.chain end end).0 ∙ sym m.told

stops_at : (file : ℕ) (bytes : List ℕ) (r : Refusal) (l : RefusesToLex file bytes r) → Stops bytes l.at
unfolding Stops
stops_at file bytes r l = (l.fault, l.none)

-- one refusal
pub one_refusal : (file : ℕ) (bytes : List ℕ) (r s : Refusal) → RefusesToLex file bytes r → RefusesToLex file bytes s → r ≡ s
one_refusal file bytes r s l m =
    let at = (one_chain file bytes 0 l.pieces m.pieces l.at m.at l.chain m.chain (stops_at file bytes r l) (stops_at file bytes s m)).1 in
    let clash : ◌≡◌ {A = Result Piece Fault} (Err l.fault) (Err m.fault) = sym l.none ∙ ap (λ n. piece_at (drop n bytes)) at ∙ m.none in
    let fault : l.fault ≡ m.fault = cc in
    let refusal_by : ℕ → Fault → Refusal = λ n f. record { kind = f.kind; place = record { file = file; line = line_at bytes (n + f.at) } } in
    l.told ∙ ap (λ n. refusal_by n l.fault) at ∙ ap (λ f. refusal_by m.at f) fault ∙ sym m.told

-- and not both
pub not_both : (file : ℕ) (bytes : List ℕ) (a : List Token) (r : Refusal) → Lexes file bytes a → RefusesToLex file bytes r → ⊥
not_both file bytes a r l m =
    let at = (one_chain file bytes 0 l.pieces m.pieces (length bytes) m.at l.chain m.chain (stops_at_end bytes) (stops_at file bytes r m)).1 in
    omega (arith, at, m.within)

-- a chain to the end, or to a byte where no piece begins
Ends : ℕ → List ℕ → ℕ → Type 0
Ends file bytes from = (ps : List Placed) × Chain file bytes from ps (length bytes)

Breaks : ℕ → List ℕ → ℕ → Type 0
Breaks file bytes from = (ps : List Placed) × (at : ℕ) × (fault : Fault) × Chain file bytes from ps at × (at < length bytes) × (piece_at (drop at bytes) ≡ Err fault)

-- a piece in front of what follows it
put_before : (file : ℕ) (bytes : List ℕ) (from : ℕ) (p : Placed) → BeginsAt file bytes from p → Ends file bytes p.span.to ⊎ Breaks file bytes p.span.to → Ends file bytes from ⊎ Breaks file bytes from
unfolding Ends Breaks
put_before file bytes from p begins (inl e) = inl (p ∷ e.0, (begins, e.1))
put_before file bytes from p begins (inr b) = inr (p ∷ b.0, b.1, b.2, (begins, b.3), b.4, b.5)

step : (file : ℕ) (bytes : List ℕ) (from : ℕ) (outcome : Result Piece Fault) → from < length bytes → piece_at (drop from bytes) ≡ outcome → FitsIn (drop from bytes) outcome → ((next : ℕ) → from < next → next ≤ length bytes → Ends file bytes next ⊎ Breaks file bytes next) → Ends file bytes from ⊎ Breaks file bytes from
unfolding Ends Breaks
step file bytes from (Err fault) within e fits rest = inr ([], from, fault, refl, within, e)
step file bytes from (Ok piece) within e fits rest =
    put_before file bytes from (placed file bytes from piece) (piece, e, refl) (rest (from + piece.len) (omega (arith, fits.0)) (omega (arith, fits.1, length-drop from bytes)))

some_end : (file : ℕ) (bytes : List ℕ) (fuel from : ℕ) → from ≤ length bytes → length bytes ≤ from + fuel → Ends file bytes from ⊎ Breaks file bytes from
unfolding Ends
some_end file bytes zero from within enough = inl ([], omega arith)
some_end file bytes (suc fuel) from within enough =
    elim (eq-or-lt_of_le within) [
      | inl e ↦ inl ([], e)
      | inr lt ↦ step file bytes from (piece_at (drop from bytes)) lt refl (piece_fits (drop from bytes) (omega (arith, length-drop from bytes)))
          (λ next later within. some_end file bytes fuel next within (omega arith))
    ]

told_end : (file : ℕ) (bytes : List ℕ) → Ends file bytes 0 ⊎ Breaks file bytes 0 → ((a : List Token) × Lexes file bytes a) ⊎ ((r : Refusal) × RefusesToLex file bytes r)
unfolding Ends Breaks
told_end file bytes (inl e) = inl (tokens_of e.0, record { pieces = e.0; chain = e.1; told = refl })
told_end file bytes (inr b) = inr (record { kind = b.2.kind; place = record { file = file; line = line_at bytes (b.1 + b.2.at) } }, record { pieces = b.0; at = b.1; fault = b.2; chain = b.3; within = b.4; none = b.5; told = refl })

-- a list or a refusal
pub some_outcome : (file : ℕ) (bytes : List ℕ) → ((a : List Token) × Lexes file bytes a) ⊎ ((r : Refusal) × RefusesToLex file bytes r)
some_outcome file bytes = told_end file bytes (some_end file bytes (length bytes) 0 (omega arith) (omega arith))
