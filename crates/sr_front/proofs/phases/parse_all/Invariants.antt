-- What the other files lead to, all lead to.
use Rattle.sr_front.specs.Reading.{HasTree, HasNoTree}
use Rattle.sr_front.proofs.Lists.FileByFile.{LeadsOn}
use Rattle.sr_front.proofs.phases.parse_all.Given as goal

abbrev pub invariant-loop-tokens : goal.invariant-loop-tokens
invariant-loop-tokens l = LeadsOn HasTree HasNoTree (λ file. file.items) (λ tree. tree) l.files l.tokens-index l.trees
