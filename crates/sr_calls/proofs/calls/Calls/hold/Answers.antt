use Rattle.std.proofs.Common.{◌<◌, [], ap, get_or, inl, inr, subst}
use Rattle.std.specs.Prelude.{slice_set}
use Rattle.sr_calls.proofs.BucketLemmas.{Turns, all-same, either-way, held-more, keeps, placed-by, replies-same, room-was, turned}
use Rattle.sr_calls.proofs.StepLemmas.{on_err, on_ok}
use Rattle.sr_calls.proofs.calls.Calls.hold.Goals as goal

turns : (c : goal.After-hold) → Turns c.self.inside.buckets (slice_set c.self.inside.buckets c.home.result c.hold.new.self) c.args.self.now c.args.actor (get_or c.self.inside.buckets c.home.result c.index-self-home.result) c.hold.new.self
turns c = turned c.self.inside.buckets c.args.self.now c.args.actor c.home.result c.index-self-home.result c.hold.new.self c.self.view_is c.self.invariant c.home.ensures.home

pub invariant_of-self : goal.invariant_of-self
invariant_of-self c =
    either-way c.hold.result c.hold.ensures.held c.hold.ensures.err
    (λ is. placed-by _ _ _ _ _ _ (turns c) _ [] (inr is) (inl c.hold.ensures.replies))
    (λ same. placed-by _ _ _ _ _ _ (turns c) [] [] (inl (ap (λ b. b.held) same)) (inl c.hold.ensures.replies))

pub returns-clause-held : goal.returns-clause-held
returns-clause-held c = on_ok c.hold.result c.hold.ensures.held (λ is. held-more _ _ _ _ _ _ (turns c) _ is)

pub returns-clause-replies : goal.returns-clause-replies
returns-clause-replies c = replies-same _ _ _ _ _ _ (turns c) c.hold.ensures.replies

pub returns-clause-succeeds : goal.returns-clause-succeeds
returns-clause-succeeds c = λ can. c.hold.ensures.succeeds (subst (λ r. 0 < r.holds) (room-was _ _ _ _ _ _ (turns c)) can)

pub returns-clause-holds : goal.returns-clause-holds
returns-clause-holds c = λ q ne can. keeps _ _ _ _ _ _ (turns c) (λ r. r.holds) q (c.hold.ensures.holds q ne) can

pub returns-clause-answers : goal.returns-clause-answers
returns-clause-answers c = λ q can. keeps _ _ _ _ _ _ (turns c) (λ r. r.answers) q (c.hold.ensures.answers q) can

pub returns-clause-err : goal.returns-clause-err
returns-clause-err c = on_err c.hold.result c.hold.ensures.err (λ same. all-same _ _ _ _ _ _ (turns c) same)
