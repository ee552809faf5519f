-- Chains of pieces, and the lines at which pieces begin.
use Rattle.std.proofs.Common.{◌≡◌, ℕ, ◌+◌, ◌-◌, ◌≤◌, ◌==◌, Bool, true, false, cond, List, [], ◌∷◌, ◌++◌, length, take, drop, refl, ap, sym, subst, ◌∙◌, arith, length-drop, count_by}
use Rattle.std.proofs.Math.Seq.{take-add, take-length}
use Rattle.std.proofs.lemmas.List.Sums.{sum_by-append}
use Rattle.sr_value.specs.declared.place.Span.{Span}
use Rattle.sr_text.specs.Lines.{line_at}
use Rattle.sr_lexer.specs.declared.piece.PieceKind.{PieceKind}
use Rattle.sr_lexer.specs.declared.piece.PieceKind.TheVariants as pieces
use Rattle.sr_lexer.specs.declared.reader.Reader.{Reader}
use Rattle.sr_lexer.specs.Roles.{opens_bracket, closes_bracket}
use Rattle.sr_lexer.specs.Separators.{Placed}
use Rattle.sr_lexer.specs.Reading.{after_piece}
use Rattle.sr_lexer.specs.Tokens.{newlines, BeginsAt, Chain}

-- a chain goes on with a piece that begins where it ends
pub chain_more : (file : ℕ) (bytes : List ℕ) (from : ℕ) (ps : List Placed) (to : ℕ) (p : Placed) → Chain file bytes from ps to → BeginsAt file bytes to p → Chain file bytes from (ps ++ p ∷ []) p.span.to
chain_more file bytes from [] to p e begins = (let At : ℕ → Type 0 = λ at. BeginsAt file bytes at p in subst At (sym e) begins, refl)
chain_more file bytes from (q ∷ ps) to p chain begins = (chain.0, chain_more file bytes q.span.to ps to p chain.1 begins)

-- what stands from a byte on
pub rest_is : (at : ℕ) (bytes : List ℕ) → take (length bytes - at) (drop at bytes) ≡ drop at bytes
rest_is at bytes = ap (λ n. take n (drop at bytes)) (sym (length-drop at bytes)) ∙ take-length (drop at bytes)

-- the line of a byte is that of an earlier one and the newlines between
line_more : (bytes : List ℕ) (at more : ℕ) → line_at bytes (at + more) ≡ line_at bytes at + newlines (take more (drop at bytes))
line_more bytes at more =
    let parts : count_by (λ byte. byte == 10) (take (at + more) bytes) ≡ count_by (λ byte. byte == 10) (take at bytes) + count_by (λ byte. byte == 10) (take more (drop at bytes)) =
    ap (count_by (λ byte. byte == 10)) (take-add at more bytes) ∙ sum_by-append (λ byte. cond (byte == 10) 1 0) (take at bytes) (take more (drop at bytes)) in
    omega (arith, parts)

pub line_here : (bytes : List ℕ) (at more line : ℕ) → line ≡ line_at bytes at → line + newlines (take more (take (length bytes - at) (drop at bytes))) ≡ line_at bytes (at + more)
line_here bytes at more line here =
    ap (λ n. n + newlines (take more (take (length bytes - at) (drop at bytes)))) here
    ∙ ap (λ rest. line_at bytes at + newlines (take more rest)) (rest_is at bytes)
    ∙ sym (line_more bytes at more)

-- no piece opens more than one bracket
one_more : (opens closes : Bool) (depth : ℕ) → cond opens (depth + 1) (cond closes (depth - 1) depth) ≤ depth + 1
one_more true closes depth = omega arith
one_more false true depth = omega arith
one_more false false depth = omega arith

pub depth_grows : (reader : Reader) (kind : PieceKind) (text : List ℕ) (span : Span) → (after_piece reader kind text span).depth ≤ reader.depth + 1
depth_grows reader pieces.Blank text span = omega arith
depth_grows reader pieces.Comment text span = omega arith
depth_grows reader pieces.Newline text span = omega arith
depth_grows reader (pieces.Token kind) text span = one_more (opens_bracket kind) (closes_bracket kind) reader.depth
