use Rattle.std.proofs.Common.{[], ◌∙◌, ap, get_or, inl, inr}
use Rattle.std.specs.Prelude.{find, slice_set}
use Rattle.std.specs.Option.{option_map}
use Rattle.sr_calls.specs.Calls.{answers_one}
use Rattle.sr_calls.proofs.BucketLemmas.{Turns, all-same, held-same, keeps, placed-by, replies-less, replies-were, turned}
use Rattle.sr_calls.proofs.StepLemmas.{if_none}
use Rattle.sr_calls.proofs.calls.Calls.take.Goals as goal

turns : (c : goal.After-take) → Turns c.self.inside.buckets (slice_set c.self.inside.buckets c.home.result c.take.new.self) c.args.self.now c.args.caller (get_or c.self.inside.buckets c.home.result c.index-self-home.result) c.take.new.self
turns c = turned c.self.inside.buckets c.args.self.now c.args.caller c.home.result c.index-self-home.result c.take.new.self c.self.view_is c.self.invariant c.home.ensures.home

pub invariant_of-self : goal.invariant_of-self
invariant_of-self c = placed-by _ _ _ _ _ _ (turns c) [] _ (inl c.take.ensures.held) (inr c.take.ensures.replies)

pub returns-clause-found : goal.returns-clause-found
returns-clause-found c = c.take.ensures.found ∙ ap (λ replies. option_map (λ reply. (reply.id, reply.results)) (find (answers_one c.args.ids.now) replies)) (replies-were _ _ _ _ _ _ (turns c))

pub returns-clause-replies : goal.returns-clause-replies
returns-clause-replies c = replies-less _ _ _ _ _ _ (turns c) c.args.ids.now c.take.ensures.replies

pub returns-clause-held : goal.returns-clause-held
returns-clause-held c = held-same _ _ _ _ _ _ (turns c) c.take.ensures.held

pub returns-clause-none : goal.returns-clause-none
returns-clause-none c = if_none c.take.result c.take.ensures.none (λ same. all-same _ _ _ _ _ _ (turns c) same)

pub returns-clause-holds : goal.returns-clause-holds
returns-clause-holds c = λ q can. keeps _ _ _ _ _ _ (turns c) (λ r. r.holds) q (c.take.ensures.holds q) can

pub returns-clause-answers : goal.returns-clause-answers
returns-clause-answers c = λ q can. keeps _ _ _ _ _ _ (turns c) (λ r. r.answers) q (c.take.ensures.answers q) can
