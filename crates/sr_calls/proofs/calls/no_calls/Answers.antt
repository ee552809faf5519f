use Rattle.std.proofs.Common.{◌≡◌}
use Rattle.std.specs.FinMap as map
use Rattle.sr_buckets.proofs.PartLemmas.{filled}
use Rattle.sr_calls.specs.Calls.{Called}
use Rattle.sr_calls.proofs.calls.no_calls.Goals as goal

pub returns-clause-all : goal.returns-clause-all
returns-clause-all c = c.from_fn.ensures.items.long

pub returns-clause-none : goal.returns-clause-none
returns-clause-none c =
    filled _ (λ (b : Called). (b.held ≡ map.empty) × (b.replies ≡ map.empty)) c.from_fn.result 32 c.from_fn.ensures.items.long c.from_fn.ensures.items.at
    (λ p q i b made. made.met.1)
