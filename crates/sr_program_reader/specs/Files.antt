-- Files as they are spelled and read.
use Rattle.std.specs.Prelude.{◌≡◌, ◌≤◌, ℕ, List, length, Result}
use Rattle.sr_tree.specs.declared.component.File.{File}
use Rattle.sr_tree.specs.declared.token.Token.{Token}
use Rattle.sr_tree.specs.Components.{Spells}
use Rattle.sr_program_reader.specs.ComponentReaders.{file_at}
use Rattle.sr_program_reader.specs.StatementReaders.{statement_readers}

-- these tokens spell the file
abbrev pub SpellsFile : File → List Token → Type 0
SpellsFile f u = Spells u f

-- what reading these tokens as a file answers, where the readers have enough turns
abbrev pub ReadsFile : List Token → Result (File × List Token) ℕ → Type 0
ReadsFile s z = (k : ℕ) → length s ≤ k → file_at (statement_readers k) s ≡ z
