-- A comment or sign fits in the bytes that it is at the front of.
use Rattle.std.proofs.Common.{sym, subst}
use Rattle.sr_lexer.specs.Pieces.{FitsIn}
use Rattle.sr_lexer.proofs.PieceLemmas.{fits_sign}
use Rattle.sr_lexer.proofs.piece.piece_in_front.Goals as goal

pub returns-in-Other-clause-fits : goal.returns-in-Other-clause-fits
returns-in-Other-clause-fits c = subst (FitsIn c.args.rest.now) (sym c.comment_or_sign_in_front.ensures) (fits_sign c.args.rest.now c.requires)
