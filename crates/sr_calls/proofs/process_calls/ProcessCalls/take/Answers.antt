use Rattle.std.proofs.Common.{◌≡◌, ◌<◌, None, Some, Option, OnSome, ap, get_or, subst, sym, ◌∙◌}
use Rattle.std.specs.Prelude.{find, position}
use Rattle.std.proofs.lemmas.Option.{slice_get-get_or}
use Rattle.sr_calls.specs.Calls.{answers_one, without_first}
use Rattle.sr_calls.specs.PerProcess.{ProcessCalled}
use Rattle.sr_calls.specs.declared.held.Reply.{Reply}
use Rattle.sr_calls.proofs.FirstLemmas.{none-found, none-gone, one-found, one-gone, place-within}
use Rattle.sr_calls.proofs.process_calls.ProcessCalls.take.Goals as goal

none : (c : goal.After-from_residual) → position (answers_one c.args.ids.now) c.args.self.now.replies ≡ None
none c =
    ap (λ (d : ProcessCalled). position (answers_one c.args.ids.now) d.replies) (sym c.self.view_is)
    ∙ sym c.in_err-at.ensures

pub returns-in_err-at-clause-found : goal.returns-in_err-at-clause-found
returns-in_err-at-clause-found c = c.from_residual.ensures ∙ sym (none-found (answers_one c.args.ids.now) c.args.self.now.replies (none c))

pub returns-in_err-at-clause-replies : goal.returns-in_err-at-clause-replies
returns-in_err-at-clause-replies c = sym (none-gone (answers_one c.args.ids.now) c.args.self.now.replies (none c))

at : (c : goal.After-take_at) → position (answers_one c.args.ids.now) c.self.inside.replies.items ≡ Some c.in_ok-at.at
at c = sym c.in_ok-at.ensures

no_reply : Reply
no_reply = record { id = 0; results = None }

removed : (c : goal.After-take_at) → c.take_at.result ≡ Some (get_or c.self.inside.replies.items c.in_ok-at.at no_reply)
removed c =
    let within = place-within (answers_one c.args.ids.now) c.self.inside.replies.items c.in_ok-at.at (at c) in
    c.take_at.ensures.succeeds no_reply (subst (λ n. c.in_ok-at.at < n) (sym c.self.inside.replies.ok.0) within)

pub returns-clause-found : goal.returns-clause-found
returns-clause-found c =
    let items = c.self.inside.replies.items in
    let within = place-within (answers_one c.args.ids.now) items c.in_ok-at.at (at c) in
    removed c ∙ sym (slice_get-get_or items c.in_ok-at.at no_reply within)
    ∙ sym (one-found (answers_one c.args.ids.now) items c.in_ok-at.at (at c))
    ∙ ap (λ (d : ProcessCalled). find (answers_one c.args.ids.now) d.replies) c.self.view_is

on_some : {A : Type 0} (o : Option A) (x : A) (P : Type 0) → o ≡ Some x → OnSome o P → P
on_some o x P is h = subst (λ r. OnSome r P) is h

pub returns-clause-replies : goal.returns-clause-replies
returns-clause-replies c =
    on_some c.take_at.result _ _ (removed c) c.take_at.ensures.items
    ∙ sym (one-gone (answers_one c.args.ids.now) c.self.inside.replies.items c.in_ok-at.at (at c))
    ∙ ap (λ (d : ProcessCalled). without_first (answers_one c.args.ids.now) d.replies) c.self.view_is
