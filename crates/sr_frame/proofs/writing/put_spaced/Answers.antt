use Rattle.std.proofs.Common.{◌++◌, ap, arith, ◌∙◌}
use Rattle.sr_frame.proofs.Spacing.{led_end, led_step}
use Rattle.sr_frame.proofs.writing.put_spaced.Goals as goal

pub loop-text-preserved : goal.loop-text-preserved
loop-text-preserved c =
    led_step _ c.loop-text.text-index c.text-item.result c.loop-text.bytes c.push.new.self c.push_all-in-loop-text.new.self _ c.loop-text.invariant (omega arith) c.text-item.is c.in_ok-push.ensures.ok
    (c.in_ok-push_all-2.ensures.ok ∙ ap (λ more. c.push.new.self ++ more) c.as_bytes-in-loop-text.ensures)

pub returns : goal.returns
returns c =
    led_end c.args.texts.now c.first-item.result c.loop-text.text-index c.args.bytes.now c.push_all.new.self c.loop-text.bytes c.in-len1-up.len_at_least c.first-item.is (omega arith)
    (c.in_ok-push_all.ensures.ok ∙ ap (λ more. c.args.bytes.now ++ more) c.as_bytes.ensures) c.loop-text.invariant
