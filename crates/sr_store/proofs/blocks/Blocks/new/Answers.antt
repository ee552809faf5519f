use Rattle.sr_buckets.proofs.PartLemmas.{empty-in-place, none-gathered}
use Rattle.sr_store.specs.Variables.{Stored}
use Rattle.sr_store.proofs.blocks.Blocks.new.Goals as goal

pub invariant_of-result : goal.invariant_of-result
invariant_of-result c = record { all = c.no_variables.ensures.all; variables = empty-in-place (λ (s : Stored). s.variables) c.no_variables.result c.no_variables.ensures.none }

pub returns : goal.returns
returns c = none-gathered (λ (s : Stored). s.variables) c.no_variables.result c.no_variables.ensures.none
