use Rattle.sr_buckets.proofs.PartLemmas.{none-gathered}
use Rattle.sr_calls.specs.Calls.{Called}
use Rattle.sr_calls.proofs.BucketLemmas.{buckets-empty}
use Rattle.sr_calls.proofs.calls.Calls.new.Goals as goal

pub invariant_of-result : goal.invariant_of-result
invariant_of-result c = buckets-empty c.no_calls.result c.no_calls.ensures.all c.no_calls.ensures.none

pub returns-clause-held : goal.returns-clause-held
returns-clause-held c = none-gathered (λ (b : Called). b.held) c.no_calls.result (λ i b at. (c.no_calls.ensures.none i b at).0)

pub returns-clause-replies : goal.returns-clause-replies
returns-clause-replies c = none-gathered (λ (b : Called). b.replies) c.no_calls.result (λ i b at. (c.no_calls.ensures.none i b at).1)
