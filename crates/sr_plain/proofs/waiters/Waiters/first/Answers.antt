use Rattle.std.proofs.Common.{subst}
use Rattle.sr_plain.specs.Waiting.{IsFirst, is_open, is_ready}
use Rattle.sr_plain.proofs.waiters.Waiters.first.Goals as goal

pub returns : goal.returns
returns c =
    let waiters = c.args.self.now in
    c.sooner.ensures (is_ready waiters) (is_open waiters.opened) c.first.ensures
    (subst (λ crowds. IsFirst (is_open crowds) c.first_open.result) c.as_slice.ensures c.first_open.ensures)
