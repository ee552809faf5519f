-- Each token is tested by what was counted up to it.
use Rattle.std.proofs.Common.{◌+◌, take, sym, subst, ◌∙◌}
use Rattle.sr_lexer.specs.Limits.{ExceedsLimits}
use Rattle.sr_lexer.proofs.TallyLemmas.{tally_more, fault_is, within_more, exceeds}
use Rattle.sr_lexer.proofs.limits.profile.Goals as goal

pub returns-in-Some-clause-refused : goal.returns-in-Some-clause-refused
returns-in-Some-clause-refused c =
    let tokens = c.as_slice-token-items.result.now in
    let at = c.loop-token.token-index in
    let t = c.token-item.result in
    let is = c.token-item.is in
    let counted = c.with-tally.ensures ∙ tally_more tokens at t c.loop-token.tally c.loop-token-test.true is c.loop-token.invariant.counted in
    let fault = sym (fault_is c.with-tally.result (take (at + 1) tokens) t.kind counted) ∙ sym c.fault.ensures ∙ c.in-Some.is in
    subst (λ items. ExceedsLimits items (record { kind = c.in-Some.kind; place = c.place_of-place.result })) c.as_slice-token-items.ensures
    (exceeds tokens at t _ c.loop-token.invariant.fine c.loop-token-test.true is fault c.place_of-place.ensures)

pub loop-token-preserved : goal.loop-token-preserved
loop-token-preserved c =
    let tokens = c.as_slice-token-items.result.now in
    let at = c.loop-token.token-index in
    let t = c.token-item.result in
    let is = c.token-item.is in
    let counted = c.with-tally.ensures ∙ tally_more tokens at t c.loop-token.tally c.loop-token-test.true is c.loop-token.invariant.counted in
    record {
      counted = counted;
      fine = within_more tokens at t c.loop-token.invariant.fine is
          (sym (fault_is c.with-tally.result (take (at + 1) tokens) t.kind counted) ∙ sym c.fault.ensures ∙ c.in_default.is);
    }
