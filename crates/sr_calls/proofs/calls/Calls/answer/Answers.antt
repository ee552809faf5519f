use Rattle.std.proofs.Common.{◌<◌, [], ap, get_or, inl, inr, subst}
use Rattle.std.specs.Prelude.{slice_set}
use Rattle.sr_calls.proofs.BucketLemmas.{Turns, all-same, either-way, held-same, keeps, placed-by, replies-more, room-was, turned}
use Rattle.sr_calls.proofs.StepLemmas.{on_err, on_ok}
use Rattle.sr_calls.proofs.calls.Calls.answer.Goals as goal

turns : (c : goal.After-answer) → Turns c.self.inside.buckets (slice_set c.self.inside.buckets c.home.result c.answer.new.self) c.args.self.now c.args.caller (get_or c.self.inside.buckets c.home.result c.index-self-home.result) c.answer.new.self
turns c = turned c.self.inside.buckets c.args.self.now c.args.caller c.home.result c.index-self-home.result c.answer.new.self c.self.view_is c.self.invariant c.home.ensures.home

pub invariant_of-self : goal.invariant_of-self
invariant_of-self c =
    either-way c.answer.result c.answer.ensures.replies c.answer.ensures.err
    (λ is. placed-by _ _ _ _ _ _ (turns c) [] _ (inl c.answer.ensures.held) (inr is))
    (λ same. placed-by _ _ _ _ _ _ (turns c) [] [] (inl c.answer.ensures.held) (inl (ap (λ b. b.replies) same)))

pub returns-clause-replies : goal.returns-clause-replies
returns-clause-replies c = on_ok c.answer.result c.answer.ensures.replies (λ is. replies-more _ _ _ _ _ _ (turns c) _ is)

pub returns-clause-held : goal.returns-clause-held
returns-clause-held c = held-same _ _ _ _ _ _ (turns c) c.answer.ensures.held

pub returns-clause-succeeds : goal.returns-clause-succeeds
returns-clause-succeeds c = λ can. c.answer.ensures.succeeds (subst (λ r. 0 < r.answers) (room-was _ _ _ _ _ _ (turns c)) can)

pub returns-clause-holds : goal.returns-clause-holds
returns-clause-holds c = λ q can. keeps _ _ _ _ _ _ (turns c) (λ r. r.holds) q (c.answer.ensures.holds q) can

pub returns-clause-answers : goal.returns-clause-answers
returns-clause-answers c = λ q ne can. keeps _ _ _ _ _ _ (turns c) (λ r. r.answers) q (c.answer.ensures.answers q ne) can

pub returns-clause-err : goal.returns-clause-err
returns-clause-err c = on_err c.answer.result c.answer.ensures.err (λ same. all-same _ _ _ _ _ _ (turns c) same)
