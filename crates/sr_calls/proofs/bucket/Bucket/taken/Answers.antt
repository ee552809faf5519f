use Rattle.std.proofs.Common.{refl, ◌∙◌}
use Rattle.sr_calls.proofs.StepLemmas.{absent, reply-found, held-stays, if_none, keeps-answers, keeps-holds, lent, lent-same, takes}
use Rattle.sr_calls.proofs.bucket.Bucket.taken.Goals as goal

pub returns-in_err-process_calls-clause-found : goal.returns-in_err-process_calls-clause-found
returns-in_err-process_calls-clause-found c =
    c.from_residual.ensures ∙ reply-found _ _ _ _ _ _ (absent c.self.inside.by_process c.get_mut.follows.lender-at-none c.args.self.now c.args.caller c.self.view_is c.in_err-process_calls.ensures.value c.get_mut.follows.holds-at-none) c.args.ids.now

pub returns-in_err-process_calls-clause-replies : goal.returns-in_err-process_calls-clause-replies
returns-in_err-process_calls-clause-replies c =
    takes _ _ _ _ _ _ (absent c.self.inside.by_process c.get_mut.follows.lender-at-none c.args.self.now c.args.caller c.self.view_is c.in_err-process_calls.ensures.value c.get_mut.follows.holds-at-none) c.args.ids.now refl

pub returns-clause-found : goal.returns-clause-found
returns-clause-found c =
    let s = lent c.self.inside.by_process (c.get_mut.follows.lender c.take.new.self) c.args.self.now c.args.caller c.in_ok-process_calls.process_calls.now c.take.new.self c.self.view_is c.in_ok-process_calls.ensures.value (c.get_mut.follows.holds c.take.new.self) in
    c.take.ensures.found ∙ reply-found _ _ _ _ _ _ s c.args.ids.now

pub returns-clause-replies : goal.returns-clause-replies
returns-clause-replies c =
    let s = lent c.self.inside.by_process (c.get_mut.follows.lender c.take.new.self) c.args.self.now c.args.caller c.in_ok-process_calls.process_calls.now c.take.new.self c.self.view_is c.in_ok-process_calls.ensures.value (c.get_mut.follows.holds c.take.new.self) in
    takes _ _ _ _ _ _ s c.args.ids.now c.take.ensures.replies

pub returns-clause-held : goal.returns-clause-held
returns-clause-held c =
    let s = lent c.self.inside.by_process (c.get_mut.follows.lender c.take.new.self) c.args.self.now c.args.caller c.in_ok-process_calls.process_calls.now c.take.new.self c.self.view_is c.in_ok-process_calls.ensures.value (c.get_mut.follows.holds c.take.new.self) in
    held-stays _ _ _ _ _ _ s c.take.ensures.held

pub returns-clause-none : goal.returns-clause-none
returns-clause-none c =
    if_none c.take.result c.take.ensures.none (λ same. lent-same c.self.inside.by_process (c.get_mut.follows.lender c.take.new.self) c.args.self.now c.args.caller c.in_ok-process_calls.process_calls.now c.take.new.self c.self.view_is c.in_ok-process_calls.ensures.value
    (c.get_mut.follows.holds c.take.new.self) same)

pub returns-clause-holds : goal.returns-clause-holds
returns-clause-holds c =
    let s = lent c.self.inside.by_process (c.get_mut.follows.lender c.take.new.self) c.args.self.now c.args.caller c.in_ok-process_calls.process_calls.now c.take.new.self c.self.view_is c.in_ok-process_calls.ensures.value (c.get_mut.follows.holds c.take.new.self) in
    keeps-holds _ _ _ _ _ _ s c.take.ensures.kept.holds

pub returns-clause-answers : goal.returns-clause-answers
returns-clause-answers c =
    let s = lent c.self.inside.by_process (c.get_mut.follows.lender c.take.new.self) c.args.self.now c.args.caller c.in_ok-process_calls.process_calls.now c.take.new.self c.self.view_is c.in_ok-process_calls.ensures.value (c.get_mut.follows.holds c.take.new.self) in
    keeps-answers _ _ _ _ _ _ s c.take.ensures.kept.answers
