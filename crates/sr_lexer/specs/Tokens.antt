-- The tokens of a file, or where and why it has none.
use Rattle.std.specs.Prelude.{◌≡◌, ℕ, ◌+◌, ◌<◌, List, [], ◌∷◌, take, drop, length, Ok, Err, count_by, ◌==◌}
use Rattle.sr_tree.specs.declared.token.Token.{Token}
use Rattle.sr_text.specs.declared.refusal.Refusal.{Refusal}
use Rattle.sr_text.specs.declared.refusal.FrontFail.{FrontFail}
use Rattle.sr_text.specs.declared.refusal.FrontFail.TheVariants.{Refused, NoMemory}
use Rattle.sr_text.specs.Lines.{line_at}
use Rattle.sr_lexer.specs.declared.piece.Piece.{Piece}
use Rattle.sr_lexer.specs.declared.piece.Fault.{Fault}
use Rattle.sr_lexer.specs.Pieces.{piece_at}
use Rattle.sr_lexer.specs.Separators.{Placed, tokens_of}

-- how many newlines the bytes have
abbrev pub newlines : List ℕ → ℕ
newlines bytes = count_by (λ byte. byte == 10) bytes

-- a piece that begins at the byte `from` of a file
abbrev pub placed : ℕ → List ℕ → ℕ → Piece → Placed
placed file bytes from piece = record {
  kind = piece.kind;
  text = take piece.len (drop from bytes);
  span = record { file = file; from = from; to = from + piece.len; line = line_at bytes from };
}

-- the piece is the longest that begins at the byte `from`
abbrev pub BeginsAt : ℕ → List ℕ → ℕ → Placed → Type 0
BeginsAt file bytes from p = (piece : Piece) × (piece_at (drop from bytes) ≡ Ok piece) × (p ≡ placed file bytes from piece)

-- the pieces stand one after the other, from the byte `from` up to the byte `to`
abbrev pub Chain : ℕ → List ℕ → ℕ → List Placed → ℕ → Type 0
Chain file bytes from [] to = from ≡ to
Chain file bytes from (p ∷ ps) to = BeginsAt file bytes from p × Chain file bytes p.span.to ps to

-- the whole file is a chain of pieces, and these are its tokens and separators
pub record Lexes (file : ℕ) (bytes : List ℕ) (tokens : List Token) : Type 0 where
  pub pieces : List Placed
  pub chain : Chain file bytes 0 pieces (length bytes)
  pub told : tokens ≡ tokens_of pieces

-- after a chain of pieces no piece begins, for this reason and at this place
pub record RefusesToLex (file : ℕ) (bytes : List ℕ) (refusal : Refusal) : Type 0 where
  pub pieces : List Placed
  pub at : ℕ
  pub fault : Fault
  pub chain : Chain file bytes 0 pieces at
  pub within : at < length bytes
  pub none : piece_at (drop at bytes) ≡ Err fault
  pub told : refusal ≡ record { kind = fault.kind; place = record { file = file; line = line_at bytes (at + fault.at) } }

-- the failure is that refusal, or out of memory
abbrev pub FailsToLex : ℕ → List ℕ → FrontFail → Type 0
FailsToLex file bytes (Refused refusal) = RefusesToLex file bytes refusal
FailsToLex file bytes NoMemory = Unit {0}
