use Rattle.std.proofs.Common.{[], ◌∷◌, ◌++◌, ap, refl, ◌∙◌, arith}
use Rattle.sr_calls.proofs.ProcessCallsLemmas.{no_process_calls}
use Rattle.sr_calls.proofs.StepLemmas.{Step, absent, could-hold, holds-more, keeps-answers, keeps-other-holds, lent, lent-same, made, on_err, on_ok, replies-stay}
use Rattle.sr_calls.proofs.bucket.Bucket.hold.Goals as goal

some : (c : goal.After-self-in-Some-1) → Step c.self.inside.by_process.entries (c.get_mut.follows.lender c.hold.new.self).entries c.args.self.now c.args.actor c.in-Some.process_calls.now c.hold.new.self
some c =
    lent c.self.inside.by_process (c.get_mut.follows.lender c.hold.new.self) c.args.self.now c.args.actor c.in-Some.process_calls.now c.hold.new.self c.self.view_is c.in-Some.ensures.value
    (c.get_mut.follows.holds c.hold.new.self)

pub returns-in-Some-clause-held : goal.returns-in-Some-clause-held
returns-in-Some-clause-held c =
    on_ok c.hold.result c.hold.ensures.ok (λ grown. holds-more _ _ _ _ _ _ (some c) (record { id = c.args.id; back = c.args.back; back_id = c.args.back_id }) grown)

pub returns-in-Some-clause-replies : goal.returns-in-Some-clause-replies
returns-in-Some-clause-replies c =
    replies-stay _ _ _ _ _ _ (some c) c.hold.ensures.replies

pub returns-in-Some-clause-succeeds : goal.returns-in-Some-clause-succeeds
returns-in-Some-clause-succeeds c =
    λ can. c.hold.ensures.succeeds (could-hold _ _ _ _ _ _ (some c) can)

pub returns-in-Some-clause-holds : goal.returns-in-Some-clause-holds
returns-in-Some-clause-holds c =
    keeps-other-holds _ _ _ _ _ _ (some c)

pub returns-in-Some-clause-answers : goal.returns-in-Some-clause-answers
returns-in-Some-clause-answers c =
    keeps-answers _ _ _ _ _ _ (some c) (omega arith)

pub returns-in-Some-clause-err : goal.returns-in-Some-clause-err
returns-in-Some-clause-err c =
    on_err c.hold.result c.hold.ensures.err (λ same. lent-same c.self.inside.by_process (c.get_mut.follows.lender c.hold.new.self) c.args.self.now c.args.actor c.in-Some.process_calls.now c.hold.new.self c.self.view_is c.in-Some.ensures.value
    (c.get_mut.follows.holds c.hold.new.self) same)

pub returns-in_err-hold-clause-succeeds : goal.returns-in_err-hold-clause-succeeds
returns-in_err-hold-clause-succeeds c =
    λ can. absurd (omega (arith, could-hold _ _ _ _ _ _ (absent c.self.inside.by_process c.self.inside.by_process c.args.self.now c.args.actor c.self.view_is c.in_default.ensures.value refl) can))

pub returns-in_err-insert-clause-succeeds : goal.returns-in_err-insert-clause-succeeds
returns-in_err-insert-clause-succeeds c =
    λ can. absurd (omega (arith, could-hold _ _ _ _ _ _ (absent c.self.inside.by_process c.self.inside.by_process c.args.self.now c.args.actor c.self.view_is c.in_default.ensures.value refl) can))

none : (c : goal.Joined-branch-3) → Step c.self.inside.by_process.entries c.insert.new.self.entries c.args.self.now c.args.actor no_process_calls c.hold-2.new.self
none c =
    made c.self.inside.by_process c.get_mut.follows.lender-at-none c.insert.new.self c.args.self.now c.args.actor c.hold-2.new.self c.self.view_is c.in_default.ensures.value
    c.get_mut.follows.holds-at-none c.in_ok-insert.ensures.updates

pub returns-clause-held : goal.returns-clause-held
returns-clause-held c =
    holds-more _ _ _ _ _ _ (none c) (record { id = c.args.id; back = c.args.back; back_id = c.args.back_id }) (c.in_ok-hold.ensures.ok ∙ ap (λ all. all ++ (record { id = c.args.id; back = c.args.back; back_id = c.args.back_id }) ∷ []) c.new-process_calls.ensures.held)

pub returns-clause-replies : goal.returns-clause-replies
returns-clause-replies c =
    replies-stay _ _ _ _ _ _ (none c) (c.in_ok-hold.ensures.replies ∙ c.new-process_calls.ensures.replies)

pub returns-clause-holds : goal.returns-clause-holds
returns-clause-holds c =
    keeps-other-holds _ _ _ _ _ _ (none c)

pub returns-clause-answers : goal.returns-clause-answers
returns-clause-answers c =
    keeps-answers _ _ _ _ _ _ (none c) (omega arith)
