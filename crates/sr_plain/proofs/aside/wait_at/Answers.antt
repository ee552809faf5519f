use Rattle.sr_plain.proofs.BeginLemmas.{on_ok}
use Rattle.sr_plain.proofs.ListedLemmas.{waits-listed}
use Rattle.std.proofs.Common.{sym, ◌∙◌}
use Rattle.sr_plain.proofs.aside.wait_at.Goals as goal

pub returns : goal.returns
returns c =
    on_ok c.wait_for_counts.result
    (λ counts.
    waits-listed c.args.core.now c.args.me c.args.env.now c.args.site.now c.args.waiters.now c.wait_at_arms.new.waiters c.wait_for_reads.new.waiters c.wait_for_counts.new.waiters
    (sym c.names_listed.ensures ∙ c.if-not-names_listed.false) c.in_ok-wait_at_arms.ensures c.in_ok-wait_for_reads.ensures counts)
    c.wait_for_counts.ensures
