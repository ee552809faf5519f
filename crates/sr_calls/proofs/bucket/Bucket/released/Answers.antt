use Rattle.std.proofs.Common.{refl, ◌∙◌}
use Rattle.sr_calls.proofs.StepLemmas.{absent, held-found, replies-stay, if_none, keeps-answers, keeps-holds, lent, lent-same, releases}
use Rattle.sr_calls.proofs.bucket.Bucket.released.Goals as goal

pub returns-in_err-process_calls-clause-found : goal.returns-in_err-process_calls-clause-found
returns-in_err-process_calls-clause-found c =
    c.from_residual.ensures ∙ held-found _ _ _ _ _ _ (absent c.self.inside.by_process c.get_mut.follows.lender-at-none c.args.self.now c.args.actor c.self.view_is c.in_err-process_calls.ensures.value c.get_mut.follows.holds-at-none) c.args.id

pub returns-in_err-process_calls-clause-held : goal.returns-in_err-process_calls-clause-held
returns-in_err-process_calls-clause-held c =
    releases _ _ _ _ _ _ (absent c.self.inside.by_process c.get_mut.follows.lender-at-none c.args.self.now c.args.actor c.self.view_is c.in_err-process_calls.ensures.value c.get_mut.follows.holds-at-none) c.args.id refl

pub returns-clause-found : goal.returns-clause-found
returns-clause-found c =
    let s = lent c.self.inside.by_process (c.get_mut.follows.lender c.release.new.self) c.args.self.now c.args.actor c.in_ok-process_calls.process_calls.now c.release.new.self c.self.view_is c.in_ok-process_calls.ensures.value (c.get_mut.follows.holds c.release.new.self) in
    c.release.ensures.found ∙ held-found _ _ _ _ _ _ s c.args.id

pub returns-clause-held : goal.returns-clause-held
returns-clause-held c =
    let s = lent c.self.inside.by_process (c.get_mut.follows.lender c.release.new.self) c.args.self.now c.args.actor c.in_ok-process_calls.process_calls.now c.release.new.self c.self.view_is c.in_ok-process_calls.ensures.value (c.get_mut.follows.holds c.release.new.self) in
    releases _ _ _ _ _ _ s c.args.id c.release.ensures.held

pub returns-clause-replies : goal.returns-clause-replies
returns-clause-replies c =
    let s = lent c.self.inside.by_process (c.get_mut.follows.lender c.release.new.self) c.args.self.now c.args.actor c.in_ok-process_calls.process_calls.now c.release.new.self c.self.view_is c.in_ok-process_calls.ensures.value (c.get_mut.follows.holds c.release.new.self) in
    replies-stay _ _ _ _ _ _ s c.release.ensures.replies

pub returns-clause-none : goal.returns-clause-none
returns-clause-none c =
    if_none c.release.result c.release.ensures.none (λ same. lent-same c.self.inside.by_process (c.get_mut.follows.lender c.release.new.self) c.args.self.now c.args.actor c.in_ok-process_calls.process_calls.now c.release.new.self c.self.view_is c.in_ok-process_calls.ensures.value
    (c.get_mut.follows.holds c.release.new.self) same)

pub returns-clause-holds : goal.returns-clause-holds
returns-clause-holds c =
    let s = lent c.self.inside.by_process (c.get_mut.follows.lender c.release.new.self) c.args.self.now c.args.actor c.in_ok-process_calls.process_calls.now c.release.new.self c.self.view_is c.in_ok-process_calls.ensures.value (c.get_mut.follows.holds c.release.new.self) in
    keeps-holds _ _ _ _ _ _ s c.release.ensures.kept.holds

pub returns-clause-answers : goal.returns-clause-answers
returns-clause-answers c =
    let s = lent c.self.inside.by_process (c.get_mut.follows.lender c.release.new.self) c.args.self.now c.args.actor c.in_ok-process_calls.process_calls.now c.release.new.self c.self.view_is c.in_ok-process_calls.ensures.value (c.get_mut.follows.holds c.release.new.self) in
    keeps-answers _ _ _ _ _ _ s c.release.ensures.kept.answers
