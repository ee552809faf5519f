use Rattle.std.proofs.Common.{◌&&◌, subst}
use Rattle.std.specs.Prelude.{nat_lt}
use Rattle.sr_plain.specs.Waiting.{IsFirst, is_open, is_ready}
use Rattle.sr_plain.proofs.CrowdLemmas.{may-first}
use Rattle.sr_plain.proofs.waiters.Waiters.first_after.Goals as goal

pub returns : goal.returns
returns c =
    let waiters = c.args.self.now in
    let last = c.args.last in
    may-first waiters last c.sooner.result
    (c.sooner.ensures (λ q. nat_lt last q && is_ready waiters q) (λ q. nat_lt last q && is_open waiters.opened q) c.first_after.ensures
    (subst (λ crowds. IsFirst (λ q. nat_lt last q && is_open crowds q) c.first_open_after.result) c.as_slice.ensures c.first_open_after.ensures))
