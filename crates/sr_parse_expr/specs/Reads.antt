-- What a function of the parser promises: its answer is the reader's answer, for every bound that suffices.
use Rattle.std.specs.Prelude.{ℕ, ◌<◌, ◌≤◌, List, Result, length}
use Rattle.sr_reader.specs.Reader.{Reader}
use Rattle.sr_tree.specs.declared.token.Token.{Token}
use Rattle.sr_parse_tokens.specs.declared.reading.ReadFail.{ReadFail}
use Rattle.sr_parse_tokens.specs.Gives.{Gives}
use Rattle.sr_expr_reader.specs.Readers.{Readers, readers}
use Rattle.sr_tree.specs.declared.types.TypePlace.{TypePlace}
use Rattle.sr_expr_reader.specs.TypeReaders.{TypeReaders, type_readers, within}

abbrev pub ReadsUpTo : {X A : Type 0} → (X → A × List Token) → List Token → Result X ReadFail → (Readers → Reader Token A) → Type 0
ReadsUpTo view s result read = (k : ℕ) → length s ≤ k → Gives view result (read (readers k) s)

abbrev pub ReadsBelow : {X A : Type 0} → (X → A × List Token) → List Token → Result X ReadFail → (Readers → Reader Token A) → Type 0
ReadsBelow view s result read = (k : ℕ) → length s < k → Gives view result (read (readers k) s)

-- the same of readers of types
abbrev pub ReadsTypeUpTo : {X A : Type 0} → (X → A × List Token) → List Token → Result X ReadFail → (TypeReaders → Reader Token A) → Type 0
ReadsTypeUpTo view s result read = (k : ℕ) → length s ≤ k → Gives view result (read (type_readers k) s)

-- the same of readers of what stands at a place
abbrev pub ReadsTypeIn : {X A : Type 0} → TypePlace → (X → A × List Token) → List Token → Result X ReadFail → (TypeReaders → Reader Token A) → Type 0
ReadsTypeIn place view s result read = (k : ℕ) → length s ≤ k → Gives view result (read (within place (type_readers k)) s)

abbrev pub ReadsTypeBelowIn : {X A : Type 0} → TypePlace → (X → A × List Token) → List Token → Result X ReadFail → (TypeReaders → Reader Token A) → Type 0
ReadsTypeBelowIn place view s result read = (k : ℕ) → length s < k → Gives view result (read (within place (type_readers k)) s)
