-- The chain grows by a piece each time.
use Rattle.std.proofs.Common.{ℕ, ◌+◌, [], ◌∷◌, ◌++◌, take, drop, refl, ap, sym, subst, ◌∙◌, arith}
use Rattle.sr_value.specs.declared.place.Span.{Span}
use Rattle.sr_text.specs.declared.refusal.Refusal.{Refusal}
use Rattle.sr_lexer.specs.declared.reader.Reader.{Reader}
use Rattle.sr_lexer.specs.Pieces.{piece_at}
use Rattle.sr_lexer.specs.Separators.{tokens_of}
use Rattle.sr_lexer.specs.Reading.{after_piece, Tracks}
use Rattle.sr_lexer.specs.Tokens.{placed}
use Rattle.sr_lexer.proofs.ChainLemmas.{chain_more, rest_is, line_here, depth_grows}
use Rattle.sr_lexer.proofs.TrackLemmas.{tracks_more}
use Rattle.sr_lexer.proofs.lexer.lex.Goals as goal

pub loop-at-init : goal.loop-at-init
unfolding tokens_of
loop-at-init c = record {
  pieces = [];
  chain = refl;
  tracks = record { tokens = c.new-reader.ensures.tokens; depth = c.new-reader.ensures.depth; may_end = c.new-reader.ensures.may_end; newline = c.new-reader.ensures.newline };
  within = omega arith;
  line = refl;
  shallow = omega (arith, c.new-reader.ensures.depth);
}

pub returns-in-Err-clause-refused : goal.returns-in-Err-clause-refused
returns-in-Err-clause-refused c =
    let bytes = c.args.bytes.now in
    let at = c.loop-at.at in
    let fault = c.in-Err.fault in
    record {
      pieces = c.loop-at.invariant.pieces;
      at = at;
      fault = fault;
      chain = c.loop-at.invariant.chain;
      within = omega arith;
      none = ap piece_at (sym (rest_is at bytes)) ∙ sym c.in-Err.ensures.value;
      told = c.refusal_of.ensures ∙ ap (λ (line : ℕ). let refusal : Refusal = record { kind = fault.kind; place = record { file = c.args.file; line = line } } in refusal) (line_here bytes at fault.at c.loop-at.line c.loop-at.invariant.line);
    }

pub loop-at-preserved : goal.loop-at-preserved
loop-at-preserved c =
    let file = c.args.file in
    let bytes = c.args.bytes.now in
    let at = c.loop-at.at in
    let piece = c.in-Ok.piece in
    let reader = c.loop-at.reader in
    let p = placed file bytes at piece in
    let span : ℕ → Span = λ line. record { file = file; from = at; to = at + piece.len; line = line } in
    let taken = c.in_ok-take.ensures
    ∙ ap (λ rest. after_piece reader piece.kind (take piece.len rest) (span c.loop-at.line)) (rest_is at bytes)
    ∙ ap (λ line. after_piece reader piece.kind (take piece.len (drop at bytes)) (span line)) c.loop-at.invariant.line in
    record {
      pieces = c.loop-at.invariant.pieces ++ p ∷ [];
      chain = chain_more file bytes 0 c.loop-at.invariant.pieces at p c.loop-at.invariant.chain (piece, ap piece_at (sym (rest_is at bytes)) ∙ sym c.in-Ok.ensures.value, refl);
      tracks = subst (Tracks (c.loop-at.invariant.pieces ++ p ∷ [])) (sym taken) (tracks_more c.loop-at.invariant.pieces reader piece.kind p.text p.span c.loop-at.invariant.tracks);
      within = omega (arith, c.in-Ok.ensures.fits.1);
      line = ap (λ n. c.loop-at.line + n) c.newlines_in-line.ensures.value ∙ line_here bytes at piece.len c.loop-at.line c.loop-at.invariant.line;
      shallow = omega (arith, ap (λ (r : Reader). r.depth) taken, depth_grows reader piece.kind p.text p.span, c.in-Ok.ensures.fits.0);
    }
