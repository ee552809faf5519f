use Rattle.std.proofs.Common.{◌<◌, ◌∙◌, ap, subst, sym}
use Rattle.sr_buckets.proofs.PartLemmas.{part-gathered}
use Rattle.sr_buckets.specs.Parts.{part}
use Rattle.sr_calls.specs.Calls.{Called, room_of}
use Rattle.sr_calls.proofs.BucketLemmas.{room-look}
use Rattle.sr_calls.proofs.calls.Calls.divide.Goals as goal

pub returns-clause-held : goal.returns-clause-held
returns-clause-held c = λ i b at. sym (part-gathered (λ (d : Called). d.held) c.self.inside.buckets c.self.invariant.held i b at) ∙ ap (λ (d : Called). part i d.held) c.self.view_is

pub returns-clause-replies : goal.returns-clause-replies
returns-clause-replies c = λ i b at. sym (part-gathered (λ (d : Called). d.replies) c.self.inside.buckets c.self.invariant.replies i b at) ∙ ap (λ (d : Called). part i d.replies) c.self.view_is

pub returns-clause-holds : goal.returns-clause-holds
returns-clause-holds c = λ p b at can. subst (λ r. 0 < r.holds) (ap (λ d. room_of d p) (sym c.self.view_is) ∙ room-look c.self.inside.buckets p b at) can

pub returns-clause-answers : goal.returns-clause-answers
returns-clause-answers c = λ p b at can. subst (λ r. 0 < r.answers) (ap (λ d. room_of d p) (sym c.self.view_is) ∙ room-look c.self.inside.buckets p b at) can

pub returns-clause-buckets : goal.returns-clause-buckets
returns-clause-buckets c = c.self.invariant
