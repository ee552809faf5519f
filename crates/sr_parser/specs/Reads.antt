-- What a function that reads statements promises: its answer is the reader's answer, for every bound that suffices.
use Rattle.std.specs.Prelude.{ℕ, ◌<◌, ◌≤◌, List, Result, length}
use Rattle.sr_reader.specs.Reader.{Reader}
use Rattle.sr_tree.specs.declared.token.Token.{Token}
use Rattle.sr_parse_tokens.specs.declared.reading.ReadFail.{ReadFail}
use Rattle.sr_parse_tokens.specs.Gives.{Gives}
use Rattle.sr_program_reader.specs.StatementReaders.{StatementReaders, statement_readers}

abbrev pub ReadsStatementUpTo : {X A : Type 0} → (X → A × List Token) → List Token → Result X ReadFail → (StatementReaders → Reader Token A) → Type 0
ReadsStatementUpTo view s result read = (k : ℕ) → length s ≤ k → Gives view result (read (statement_readers k) s)

abbrev pub ReadsStatementBelow : {X A : Type 0} → (X → A × List Token) → List Token → Result X ReadFail → (StatementReaders → Reader Token A) → Type 0
ReadsStatementBelow view s result read = (k : ℕ) → length s < k → Gives view result (read (statement_readers k) s)
