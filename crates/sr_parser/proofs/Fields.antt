-- The field of the readers of a bound is the reader of the bound below it.
use Rattle.std.proofs.Common.{zero, suc, List, Result, arith}
use Rattle.sr_tree.specs.declared.statement.BlockItem.{BlockItem}
use Rattle.sr_tree.specs.declared.token.Token.{Token}
use Rattle.sr_parse_tokens.specs.declared.reading.ReadFail.{ReadFail}
use Rattle.sr_program_reader.specs.StatementReaders.{block_at, blocks}
use Rattle.sr_parser.specs.Reads.{ReadsStatementBelow, ReadsStatementUpTo}

module _ {X : Type 0} (view : X → List BlockItem × List Token) (s : List Token) (result : Result X ReadFail) where
  pub below_block : ReadsStatementUpTo view s result (λ r. block_at r) → ReadsStatementBelow view s result (λ r. r.block)
  unfolding blocks
  below_block h zero i = absurd (omega (arith, i))
  below_block h (suc k) i = h k (omega (arith, i))
