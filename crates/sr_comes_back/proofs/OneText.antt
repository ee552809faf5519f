-- A source and its tree have one canonical text.
use Rattle.std.proofs.Common.{◌≡◌, ℕ, List, [], ◌∷◌, length, drop, refl, ap, sym, subst, ◌∙◌, is_ok}
use Rattle.std.proofs.Math.Seq.{drop-length}
use Rattle.sr_tree.specs.declared.component.File.{File}
use Rattle.sr_lexer.specs.Pieces.{piece_at}
use Rattle.sr_lexer.specs.Separators.{Placed}
use Rattle.sr_lexer.specs.Tokens.{placed, BeginsAt, Chain}
use Rattle.sr_order.specs.Spans.{statement_spans}
use Rattle.sr_fmt.proofs.FrontLemmas.{none_at_end}
use Rattle.sr_fmt.specs.Canonical.{canonical_text, IsCanonical}

one_piece : (file : ℕ) (bytes : List ℕ) (from : ℕ) (p q : Placed) → BeginsAt file bytes from p → BeginsAt file bytes from q → p ≡ q
one_piece file bytes from p q a b =
    let same : a.0 ≡ b.0 = cc (sym a.1 ∙ b.1) in
    a.2 ∙ ap (placed file bytes from) same ∙ sym b.2

-- no piece begins after the last byte
none_left : (file : ℕ) (bytes : List ℕ) (from : ℕ) (p : Placed) → from ≡ length bytes → BeginsAt file bytes from p → ⊥
none_left file bytes from p e begins =
    none_at_end (ap is_ok (sym (ap piece_at (ap (λ n. drop n bytes) e ∙ drop-length bytes)) ∙ begins.1))

one_chain : (file : ℕ) (bytes : List ℕ) (from : ℕ) (ps qs : List Placed) → Chain file bytes from ps (length bytes) → Chain file bytes from qs (length bytes) → ps ≡ qs
one_chain file bytes from [] [] e f = refl
one_chain file bytes from [] (q ∷ qs) e chain = absurd (none_left file bytes from q e chain.0)
one_chain file bytes from (p ∷ ps) [] chain f = absurd (none_left file bytes from p f chain.0)
one_chain file bytes from (p ∷ ps) (q ∷ qs) chain other =
    let same = one_piece file bytes from p q chain.0 other.0 in
    let rest = one_chain file bytes p.span.to ps qs chain.1 (subst (λ (r : Placed). Chain file bytes r.span.to qs (length bytes)) (sym same) other.1) in
    ap (λ r. r ∷ ps) same ∙ ap (λ rs. q ∷ rs) rest

pub one_text : (source : List ℕ) (tree : File) (a b : List ℕ) → IsCanonical source tree a → IsCanonical source tree b → a ≡ b
one_text source tree a b is other =
    is.told ∙ ap (canonical_text (statement_spans tree)) (one_chain 0 source 0 is.pieces other.pieces is.chain other.chain) ∙ sym other.told
