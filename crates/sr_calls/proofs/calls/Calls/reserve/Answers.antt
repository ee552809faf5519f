use Rattle.std.proofs.Common.{◌<◌, [], get_or, inl, subst, sym}
use Rattle.std.specs.Prelude.{slice_set}
use Rattle.sr_calls.proofs.BucketLemmas.{Turns, held-same, keeps, placed-by, replies-same, room-is, turned}
use Rattle.sr_calls.proofs.StepLemmas.{on_ok}
use Rattle.sr_calls.proofs.calls.Calls.reserve.Goals as goal

turns : (c : goal.After-reserve) → Turns c.self.inside.buckets (slice_set c.self.inside.buckets c.home.result c.reserve.new.self) c.args.self.now c.args.process (get_or c.self.inside.buckets c.home.result c.index-self-home.result) c.reserve.new.self
turns c = turned c.self.inside.buckets c.args.self.now c.args.process c.home.result c.index-self-home.result c.reserve.new.self c.self.view_is c.self.invariant c.home.ensures.home

pub invariant_of-self : goal.invariant_of-self
invariant_of-self c = placed-by _ _ _ _ _ _ (turns c) [] [] (inl c.reserve.ensures.held) (inl c.reserve.ensures.replies)

pub returns-clause-can_hold : goal.returns-clause-can_hold
returns-clause-can_hold c = on_ok c.reserve.result c.reserve.ensures.can_hold (λ has. subst (λ r. 0 < r.holds) (sym (room-is _ _ _ _ _ _ (turns c))) has)

pub returns-clause-can_answer : goal.returns-clause-can_answer
returns-clause-can_answer c = on_ok c.reserve.result c.reserve.ensures.can_answer (λ has. subst (λ r. 0 < r.answers) (sym (room-is _ _ _ _ _ _ (turns c))) has)

pub returns-clause-held : goal.returns-clause-held
returns-clause-held c = held-same _ _ _ _ _ _ (turns c) c.reserve.ensures.held

pub returns-clause-replies : goal.returns-clause-replies
returns-clause-replies c = replies-same _ _ _ _ _ _ (turns c) c.reserve.ensures.replies

pub returns-clause-holds : goal.returns-clause-holds
returns-clause-holds c = λ q can. keeps _ _ _ _ _ _ (turns c) (λ r. r.holds) q (c.reserve.ensures.holds q) can

pub returns-clause-answers : goal.returns-clause-answers
returns-clause-answers c = λ q can. keeps _ _ _ _ _ _ (turns c) (λ r. r.answers) q (c.reserve.ensures.answers q) can
