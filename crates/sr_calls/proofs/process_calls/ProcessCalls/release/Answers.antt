use Rattle.std.proofs.Common.{◌≡◌, None, Some, ap, sym, ◌∙◌}
use Rattle.std.specs.Prelude.{position}
use Rattle.std.proofs.lemmas.Option.{slice_get_read}
use Rattle.sr_calls.specs.Calls.{is_held_as, without_first}
use Rattle.sr_calls.specs.PerProcess.{ProcessCalled}
use Rattle.std.specs.Prelude.{find}
use Rattle.sr_calls.proofs.FirstLemmas.{none-found, none-gone, one-found, one-gone, place-within}
use Rattle.std.proofs.Common.{refl}
use Rattle.sr_calls.proofs.process_calls.ProcessCalls.release.Goals as goal

none : (c : goal.After-from_residual) → position (is_held_as c.args.id) c.args.self.now.held ≡ None
none c = ap (λ (d : ProcessCalled). position (is_held_as c.args.id) d.held) (sym c.self.view_is) ∙ ap (position (is_held_as c.args.id)) (sym c.as_slice.ensures.value) ∙ sym c.in_err-at.ensures

pub returns-in_err-at-clause-found : goal.returns-in_err-at-clause-found
returns-in_err-at-clause-found c = c.from_residual.ensures ∙ sym (none-found (is_held_as c.args.id) c.args.self.now.held (none c))

pub returns-in_err-at-clause-held : goal.returns-in_err-at-clause-held
returns-in_err-at-clause-held c = sym (none-gone (is_held_as c.args.id) c.args.self.now.held (none c))

at : (c : goal.After-remove) → position (is_held_as c.args.id) c.self.inside.held.items ≡ Some c.in_ok-at.at
at c = ap (position (is_held_as c.args.id)) (sym c.as_slice.ensures.value) ∙ sym c.in_ok-at.ensures

pub returns-clause-found : goal.returns-clause-found
returns-clause-found c =
    let items = c.self.inside.held.items in
    sym (slice_get_read items _ c.in_ok-at.at c.remove.result refl (place-within (is_held_as c.args.id) items c.in_ok-at.at (at c)) c.remove.ensures.value)
    ∙ sym (one-found (is_held_as c.args.id) items c.in_ok-at.at (at c))
    ∙ ap (λ (d : ProcessCalled). find (is_held_as c.args.id) d.held) c.self.view_is

pub returns-clause-held : goal.returns-clause-held
returns-clause-held c =
    c.remove.ensures.items
    ∙ sym (one-gone (is_held_as c.args.id) c.self.inside.held.items c.in_ok-at.at (at c))
    ∙ ap (λ (d : ProcessCalled). without_first (is_held_as c.args.id) d.held) c.self.view_is
