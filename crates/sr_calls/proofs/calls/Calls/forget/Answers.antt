use Rattle.std.proofs.Common.{[], get_or, inr}
use Rattle.std.specs.Prelude.{slice_set}
use Rattle.sr_calls.proofs.BucketLemmas.{Turns, held-none, keeps, placed-by, replies-none, turned}
use Rattle.sr_calls.proofs.calls.Calls.forget.Goals as goal

turns : (c : goal.After-forget) → Turns c.self.inside.buckets (slice_set c.self.inside.buckets c.home.result c.forget.new.self) c.args.self.now c.args.process (get_or c.self.inside.buckets c.home.result c.index-self-home.result) c.forget.new.self
turns c = turned c.self.inside.buckets c.args.self.now c.args.process c.home.result c.index-self-home.result c.forget.new.self c.self.view_is c.self.invariant c.home.ensures.home

pub invariant_of-self : goal.invariant_of-self
invariant_of-self c = placed-by _ _ _ _ _ _ (turns c) [] [] (inr c.forget.ensures.held) (inr c.forget.ensures.replies)

pub returns-clause-held : goal.returns-clause-held
returns-clause-held c = held-none _ _ _ _ _ _ (turns c) c.forget.ensures.held

pub returns-clause-replies : goal.returns-clause-replies
returns-clause-replies c = replies-none _ _ _ _ _ _ (turns c) c.forget.ensures.replies

pub returns-clause-holds : goal.returns-clause-holds
returns-clause-holds c = λ q ne can. keeps _ _ _ _ _ _ (turns c) (λ r. r.holds) q (c.forget.ensures.holds q ne) can

pub returns-clause-answers : goal.returns-clause-answers
returns-clause-answers c = λ q ne can. keeps _ _ _ _ _ _ (turns c) (λ r. r.answers) q (c.forget.ensures.answers q ne) can
