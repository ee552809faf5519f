use Rattle.std.proofs.Common.{sym, ◌∙◌}
use Rattle.sr_plain.proofs.BeginLemmas.{on_ok}
use Rattle.sr_plain.proofs.ListedLemmas.{waits-idle}
use Rattle.sr_plain.proofs.aside.wait_for.Goals as goal

pub returns-then-is_simple : goal.returns-then-is_simple
returns-then-is_simple c =
    on_ok c.idle_at_arms.result
    (waits-idle c.args.core.now c.args.me c.args.request.now c.in-Select.site c.in-Select.env c.in-Some.site.now c.args.waiters.now c.idle_at_arms.new.waiters c.in-Select.is (sym c.in-Some.ensures.value)
    (sym c.is_simple.ensures ∙ c.if-is_simple.true)) c.idle_at_arms.ensures
