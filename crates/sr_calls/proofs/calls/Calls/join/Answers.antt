use Rattle.std.proofs.Common.{◌<◌, subst, sym}
use Rattle.sr_buckets.proofs.PartLemmas.{part-gathered}
use Rattle.sr_calls.specs.Calls.{Called}
use Rattle.sr_calls.proofs.BucketLemmas.{room-look}
use Rattle.sr_calls.proofs.calls.Calls.join.Goals as goal

pub returns-clause-held : goal.returns-clause-held
returns-clause-held c = λ i b at. part-gathered (λ (d : Called). d.held) c.args.buckets c.requires.held i b at

pub returns-clause-replies : goal.returns-clause-replies
returns-clause-replies c = λ i b at. part-gathered (λ (d : Called). d.replies) c.args.buckets c.requires.replies i b at

pub returns-clause-holds : goal.returns-clause-holds
returns-clause-holds c = λ p b at can. subst (λ r. 0 < r.holds) (sym (room-look c.args.buckets p b at)) can

pub returns-clause-answers : goal.returns-clause-answers
returns-clause-answers c = λ p b at can. subst (λ r. 0 < r.answers) (sym (room-look c.args.buckets p b at)) can
