use Rattle.std.proofs.Common.{◌≡◌, ◌∙◌, sym, ap, ℕ, ◌+◌, ◌-◌, ◌^◌, min, get_or, arith}
use Rattle.sr_journal.specs.Reading.{limit_of, grown, capped}
use Rattle.sr_journal.proofs.DigitSteps.{at-end-byte, at-no-digit, at-too-great, at-digit, cap-grown, at-end-of-bytes}
use Rattle.sr_journal.proofs.number.digits.Goals as goal

pub returns-then-byte-end : goal.returns-then-byte-end
returns-then-byte-end c =
    let i = c.loop-at.invariant in
    at-end-byte (limit_of c.args.most) c.args.end i.0 c.loop-at.at c.loop-at.number c.args.bytes.now c.loop-at-test.true c.if-byte-end.true i.1 i.2

pub returns-then-not-is_ascii_digit : goal.returns-then-not-is_ascii_digit
returns-then-not-is_ascii_digit c =
    let i = c.loop-at.invariant in
    at-no-digit (limit_of c.args.most) c.args.end i.0 c.loop-at.at c.args.bytes.now c.loop-at-test.true c.if-byte-end.false (sym c.is_ascii_digit.ensures.value ∙ c.if-not-is_ascii_digit.true) i.2

pub returns-then-number-most : goal.returns-then-number-most
returns-then-number-most c =
    let i = c.loop-at.invariant in
    let b : ℕ = get_or c.args.bytes.now c.loop-at.at 0 in
    let grew : c.saturating_add-number.result ≡ capped (grown i.0 b) =
    c.saturating_add-number.ensures ∙ ap (λ m. min (m + (b - 48)) (2 ^ 64 - 1)) c.saturating_mul.ensures ∙ cap-grown i.0 c.loop-at.number b i.1 in
    at-too-great c.args.most c.args.end i.0 c.loop-at.at c.saturating_add-number.result c.args.bytes.now (omega arith) c.loop-at-test.true c.if-byte-end.false
    (sym c.is_ascii_digit.ensures.value ∙ c.if-not-is_ascii_digit.false) grew c.if-number-most.true i.2

pub loop-at-preserved : goal.loop-at-preserved
loop-at-preserved c =
    let i = c.loop-at.invariant in
    let b : ℕ = get_or c.args.bytes.now c.loop-at.at 0 in
    let grew : c.saturating_add-number.result ≡ capped (grown i.0 b) =
    c.saturating_add-number.ensures ∙ ap (λ m. min (m + (b - 48)) (2 ^ 64 - 1)) c.saturating_mul.ensures ∙ cap-grown i.0 c.loop-at.number b i.1 in (
      grown i.0 b,
      grew,
      at-digit c.args.most c.args.end i.0 c.loop-at.at c.saturating_add-number.result c.args.bytes.now (omega arith) c.loop-at-test.true c.if-byte-end.false
          (sym c.is_ascii_digit.ensures.value ∙ c.if-not-is_ascii_digit.false) grew c.if-number-most.false i.2,
    )

pub returns : goal.returns
returns c =
    let i = c.loop-at.invariant in
    at-end-of-bytes (limit_of c.args.most) c.args.end i.0 c.loop-at.at c.args.bytes.now c.loop-at-test.false i.2
