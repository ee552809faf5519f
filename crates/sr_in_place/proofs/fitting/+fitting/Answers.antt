use Rattle.std.proofs.Common.{◌≡◌, ◌+◌, List, ◌∷◌, Ok, Err, Result, refl, ap, sym, ◌∙◌, rules, arith}
use Rattle.std.proofs.lemmas.Option.{slice_get_read}
use Rattle.sr_value.specs.declared.fault.Fault.{Fault}
use Rattle.sr_value.specs.declared.fault.Fault.TheVariants.{Index}
use Rattle.sr_value.specs.declared.value.Value.{Value}
use Rattle.sr_value.specs.Parts.{all_fit, fitted_in, with_ok}
use Rattle.sr_value.proofs.FitLemmas.{fitted-record}
use Rattle.sr_in_place.proofs.FittingLemmas.{all-fitted, field-fails, field-fits, field-missing, fields-end, fields-past, fields_from, next-fitted, not-fitted, recorded, too-few, too-many}
use Rattle.sr_in_place.proofs.fitting.+fitting.Goals as goal

pub fit-returns-in-Rec-value : goal.fit-returns-in-Rec-value
fit-returns-in-Rec-value t c =
    let e = fitted-record c.in-Rec.shapes c.in-Rec-value.fields in
    let r = recorded c.fit_each.result c.fit_each.new.values in search rules

pub fit_all-returns-in_err-fit : goal.fit_all-returns-in_err-fit
fit_all-returns-in_err-fit t c =
    let fails : (more : List Value) → all_fit (fitted_in c.args.shape.now) (c.at_mut.result.now ∷ more) ≡ Err c.in_err-fit.field-0.0 =
    λ more. ap (λ (r : Result Value Fault). with_ok r (λ first. with_ok (all_fit (fitted_in c.args.shape.now) more) (λ rest. Ok (first ∷ rest)))) c.in_err-fit.ensures in
    let none = sym c.loop-at.invariant.left ∙ not-fitted c.loop-at.at (all_fit (fitted_in c.args.shape.now)) c.loop-at.values c.at_mut.result.now c.in_err-fit.field-0.0 c.at_mut.ensures.value fails in
    search rules

pub fit_all-loop-at-preserved : goal.fit_all-loop-at-preserved
fit_all-loop-at-preserved t c = record {
  count = search rules;
  left = next-fitted c.loop-at.at (all_fit (fitted_in c.args.shape.now)) (all_fit (fitted_in c.args.shape.now)) c.loop-at.values c.at_mut.result.now c.fit.new.value c.at_mut.ensures.value
      (λ more. ap (λ (r : Result Value Fault). with_ok r (λ first. with_ok (all_fit (fitted_in c.args.shape.now) more) (λ rest. Ok (first ∷ rest)))) c.in_ok-fit.ensures) ∙ c.loop-at.invariant.left;
}

pub fit_all-returns : goal.fit_all-returns
fit_all-returns t c = sym c.loop-at.invariant.left ∙ all-fitted c.loop-at.at (all_fit (fitted_in c.args.shape.now)) c.loop-at.values (omega arith) refl

pub fit_each-returns-then-at-len : goal.fit_each-returns-then-at-len
fit_each-returns-then-at-len t c =
    sym c.loop-at.invariant.left ∙ too-few c.loop-at.at (fields_from c.loop-at.at c.args.shapes.now) c.loop-at.values Index (omega arith) (field-missing c.loop-at.at c.args.shapes.now c.index-shapes-at.result (slice_get_read c.args.shapes.now _ c.loop-at.at c.index-shapes-at.result refl c.loop-at-test.true c.index-shapes-at.is))

pub fit_each-returns-in_err-fit : goal.fit_each-returns-in_err-fit
fit_each-returns-in_err-fit t c =
    let none = sym c.loop-at.invariant.left ∙ not-fitted c.loop-at.at (fields_from c.loop-at.at c.args.shapes.now) c.loop-at.values c.at_mut.result.now c.in_err-fit.field-0.0 c.at_mut.ensures.value
    (field-fails c.loop-at.at c.args.shapes.now c.index-shapes-at.result (slice_get_read c.args.shapes.now _ c.loop-at.at c.index-shapes-at.result refl c.loop-at-test.true c.index-shapes-at.is) c.at_mut.result.now c.in_err-fit.field-0.0 c.in_err-fit.ensures) in
    search rules

pub fit_each-loop-at-preserved : goal.fit_each-loop-at-preserved
fit_each-loop-at-preserved t c = record {
  within = search rules;
  left = next-fitted c.loop-at.at (fields_from c.loop-at.at c.args.shapes.now) (fields_from (c.loop-at.at + 1) c.args.shapes.now) c.loop-at.values c.at_mut.result.now c.fit.new.value c.at_mut.ensures.value
      (field-fits c.loop-at.at c.args.shapes.now c.index-shapes-at.result (slice_get_read c.args.shapes.now _ c.loop-at.at c.index-shapes-at.result refl c.loop-at-test.true c.index-shapes-at.is) c.at_mut.result.now c.fit.new.value c.in_ok-fit.ensures) ∙ c.loop-at.invariant.left;
}

pub fit_each-returns-then-len-shapes : goal.fit_each-returns-then-len-shapes
fit_each-returns-then-len-shapes t c =
    sym c.loop-at.invariant.left ∙ too-many c.loop-at.at (fields_from c.loop-at.at c.args.shapes.now) c.loop-at.values Index (omega arith) (fields-past c.loop-at.at c.args.shapes.now (omega arith))

pub fit_each-returns : goal.fit_each-returns
fit_each-returns t c =
    sym c.loop-at.invariant.left ∙ all-fitted c.loop-at.at (fields_from c.loop-at.at c.args.shapes.now) c.loop-at.values (omega arith) (fields-end c.loop-at.at c.args.shapes.now (omega arith))
