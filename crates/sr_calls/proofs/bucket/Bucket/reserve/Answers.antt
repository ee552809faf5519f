use Rattle.std.proofs.Common.{◌∙◌, arith}
use Rattle.sr_calls.proofs.ProcessCallsLemmas.{no_process_calls}
use Rattle.sr_calls.proofs.StepLemmas.{Step, can-answer-now, can-hold-now, held-stays, keeps-answers, keeps-holds, lent, made, on_ok, replies-stay}
use Rattle.sr_calls.proofs.bucket.Bucket.reserve.Goals as goal

some : (c : goal.After-self-in-Some-1) → Step c.self.inside.by_process.entries (c.get_mut.follows.lender c.reserve.new.self).entries c.args.self.now c.args.process c.in-Some.process_calls.now c.reserve.new.self
some c =
    lent c.self.inside.by_process (c.get_mut.follows.lender c.reserve.new.self) c.args.self.now c.args.process c.in-Some.process_calls.now c.reserve.new.self c.self.view_is c.in-Some.ensures.value
    (c.get_mut.follows.holds c.reserve.new.self)

pub returns-in-Some-clause-can_hold : goal.returns-in-Some-clause-can_hold
returns-in-Some-clause-can_hold c =
    on_ok c.reserve.result c.reserve.ensures.holds (λ has. can-hold-now _ _ _ _ _ _ (some c) has)

pub returns-in-Some-clause-can_answer : goal.returns-in-Some-clause-can_answer
returns-in-Some-clause-can_answer c =
    on_ok c.reserve.result c.reserve.ensures.answers (λ has. can-answer-now _ _ _ _ _ _ (some c) has)

pub returns-in-Some-clause-held : goal.returns-in-Some-clause-held
returns-in-Some-clause-held c =
    held-stays _ _ _ _ _ _ (some c) c.reserve.ensures.held

pub returns-in-Some-clause-replies : goal.returns-in-Some-clause-replies
returns-in-Some-clause-replies c =
    replies-stay _ _ _ _ _ _ (some c) c.reserve.ensures.replies

pub returns-in-Some-clause-holds : goal.returns-in-Some-clause-holds
returns-in-Some-clause-holds c =
    keeps-holds _ _ _ _ _ _ (some c) c.reserve.ensures.kept.holds

pub returns-in-Some-clause-answers : goal.returns-in-Some-clause-answers
returns-in-Some-clause-answers c =
    keeps-answers _ _ _ _ _ _ (some c) c.reserve.ensures.kept.answers

none : (c : goal.Joined-branch-3) → Step c.self.inside.by_process.entries c.insert.new.self.entries c.args.self.now c.args.process no_process_calls c.reserve-2.new.self
none c =
    made c.self.inside.by_process c.get_mut.follows.lender-at-none c.insert.new.self c.args.self.now c.args.process c.reserve-2.new.self c.self.view_is c.in_default.ensures.value
    c.get_mut.follows.holds-at-none c.in_ok-insert.ensures.updates

pub returns-clause-can_hold : goal.returns-clause-can_hold
returns-clause-can_hold c =
    can-hold-now _ _ _ _ _ _ (none c) c.in_ok-reserve.ensures.holds

pub returns-clause-can_answer : goal.returns-clause-can_answer
returns-clause-can_answer c =
    can-answer-now _ _ _ _ _ _ (none c) c.in_ok-reserve.ensures.answers

pub returns-clause-held : goal.returns-clause-held
returns-clause-held c =
    held-stays _ _ _ _ _ _ (none c) (c.in_ok-reserve.ensures.held ∙ c.new-process_calls.ensures.held)

pub returns-clause-replies : goal.returns-clause-replies
returns-clause-replies c =
    replies-stay _ _ _ _ _ _ (none c) (c.in_ok-reserve.ensures.replies ∙ c.new-process_calls.ensures.replies)

pub returns-clause-holds : goal.returns-clause-holds
returns-clause-holds c =
    keeps-holds _ _ _ _ _ _ (none c) (omega arith)

pub returns-clause-answers : goal.returns-clause-answers
returns-clause-answers c =
    keeps-answers _ _ _ _ _ _ (none c) (omega arith)
