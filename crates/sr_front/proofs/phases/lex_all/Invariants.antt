-- What the other files lead to, all lead to.
use Rattle.std.proofs.Common.{◌≡◌}
use Rattle.sr_lexer.specs.Tokens.{Lexes, RefusesToLex}
use Rattle.sr_front.proofs.Lists.FileByFile.{LeadsOn}
use Rattle.sr_front.proofs.phases.lex_all.Given as goal

abbrev pub invariant-loop-content : goal.invariant-loop-content
invariant-loop-content l = (l.number ≡ l.content-index) × LeadsOn Lexes RefusesToLex (λ file. file.1) (λ file. file.items) l.files l.content-index l.all
