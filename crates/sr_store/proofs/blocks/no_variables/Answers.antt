use Rattle.std.proofs.Common.{◌≡◌}
use Rattle.std.specs.FinMap as map
use Rattle.sr_buckets.proofs.PartLemmas.{filled}
use Rattle.sr_store.specs.Variables.{Stored}
use Rattle.sr_store.proofs.blocks.no_variables.Goals as goal

pub returns-clause-all : goal.returns-clause-all
returns-clause-all c = c.from_fn.ensures.items.long

pub returns-clause-none : goal.returns-clause-none
returns-clause-none c =
    filled _ (λ (b : Stored). b.variables ≡ map.empty) c.from_fn.result 32 c.from_fn.ensures.items.long c.from_fn.ensures.items.at
    (λ p q i b made. made.met.1)
