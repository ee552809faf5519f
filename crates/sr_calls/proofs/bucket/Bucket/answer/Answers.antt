use Rattle.std.proofs.Common.{[], ◌∷◌, ◌++◌, ap, refl, ◌∙◌, arith}
use Rattle.sr_calls.proofs.ProcessCallsLemmas.{no_process_calls}
use Rattle.sr_calls.proofs.StepLemmas.{Step, absent, answers-more, could-answer, held-stays, keeps-holds, keeps-other-answers, lent, lent-same, made, on_err, on_ok}
use Rattle.sr_calls.proofs.bucket.Bucket.answer.Goals as goal

some : (c : goal.After-self-in-Some-1) → Step c.self.inside.by_process.entries (c.get_mut.follows.lender c.answer.new.self).entries c.args.self.now c.args.caller c.in-Some.process_calls.now c.answer.new.self
some c =
    lent c.self.inside.by_process (c.get_mut.follows.lender c.answer.new.self) c.args.self.now c.args.caller c.in-Some.process_calls.now c.answer.new.self c.self.view_is c.in-Some.ensures.value
    (c.get_mut.follows.holds c.answer.new.self)

pub returns-in-Some-clause-replies : goal.returns-in-Some-clause-replies
returns-in-Some-clause-replies c =
    on_ok c.answer.result c.answer.ensures.ok (λ grown. answers-more _ _ _ _ _ _ (some c) (record { id = c.args.id; results = c.args.results }) grown)

pub returns-in-Some-clause-held : goal.returns-in-Some-clause-held
returns-in-Some-clause-held c =
    held-stays _ _ _ _ _ _ (some c) c.answer.ensures.held

pub returns-in-Some-clause-succeeds : goal.returns-in-Some-clause-succeeds
returns-in-Some-clause-succeeds c =
    λ can. c.answer.ensures.succeeds (could-answer _ _ _ _ _ _ (some c) can)

pub returns-in-Some-clause-answers : goal.returns-in-Some-clause-answers
returns-in-Some-clause-answers c =
    keeps-other-answers _ _ _ _ _ _ (some c)

pub returns-in-Some-clause-holds : goal.returns-in-Some-clause-holds
returns-in-Some-clause-holds c =
    keeps-holds _ _ _ _ _ _ (some c) (omega arith)

pub returns-in-Some-clause-err : goal.returns-in-Some-clause-err
returns-in-Some-clause-err c =
    on_err c.answer.result c.answer.ensures.err (λ same. lent-same c.self.inside.by_process (c.get_mut.follows.lender c.answer.new.self) c.args.self.now c.args.caller c.in-Some.process_calls.now c.answer.new.self c.self.view_is c.in-Some.ensures.value
    (c.get_mut.follows.holds c.answer.new.self) same)

pub returns-in_err-answer-clause-succeeds : goal.returns-in_err-answer-clause-succeeds
returns-in_err-answer-clause-succeeds c =
    λ can. absurd (omega (arith, could-answer _ _ _ _ _ _ (absent c.self.inside.by_process c.self.inside.by_process c.args.self.now c.args.caller c.self.view_is c.in_default.ensures.value refl) can))

pub returns-in_err-insert-clause-succeeds : goal.returns-in_err-insert-clause-succeeds
returns-in_err-insert-clause-succeeds c =
    λ can. absurd (omega (arith, could-answer _ _ _ _ _ _ (absent c.self.inside.by_process c.self.inside.by_process c.args.self.now c.args.caller c.self.view_is c.in_default.ensures.value refl) can))

none : (c : goal.Joined-branch-3) → Step c.self.inside.by_process.entries c.insert.new.self.entries c.args.self.now c.args.caller no_process_calls c.answer-2.new.self
none c =
    made c.self.inside.by_process c.get_mut.follows.lender-at-none c.insert.new.self c.args.self.now c.args.caller c.answer-2.new.self c.self.view_is c.in_default.ensures.value
    c.get_mut.follows.holds-at-none c.in_ok-insert.ensures.updates

pub returns-clause-replies : goal.returns-clause-replies
returns-clause-replies c =
    answers-more _ _ _ _ _ _ (none c) (record { id = c.args.id; results = c.args.results }) (c.in_ok-answer.ensures.ok ∙ ap (λ all. all ++ (record { id = c.args.id; results = c.args.results }) ∷ []) c.new-process_calls.ensures.replies)

pub returns-clause-held : goal.returns-clause-held
returns-clause-held c =
    held-stays _ _ _ _ _ _ (none c) (c.in_ok-answer.ensures.held ∙ c.new-process_calls.ensures.held)

pub returns-clause-answers : goal.returns-clause-answers
returns-clause-answers c =
    keeps-other-answers _ _ _ _ _ _ (none c)

pub returns-clause-holds : goal.returns-clause-holds
returns-clause-holds c =
    keeps-holds _ _ _ _ _ _ (none c) (omega arith)
