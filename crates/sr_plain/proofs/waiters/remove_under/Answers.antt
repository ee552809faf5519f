use Rattle.std.proofs.Common.{ap}
use Rattle.sr_plain.specs.Waiting.{is_among}
use Rattle.sr_plain.specs.declared.waiters.Waiting.TheVariants.{Nobody}
use Rattle.sr_plain.proofs.WaitLemmas.{removed-under}
use Rattle.sr_plain.proofs.waiters.remove_under.Goals as goal

pub returns-in-Some : goal.returns-in-Some
returns-in-Some g c = removed-under g.K.PartialEq.eq c.args.table.now c.args.key c.remove.new.self c.in-Some.waiting (λ p. ap (λ o. is_among o p) c.in-Some.ensures.value) c.remove.ensures.updates

pub returns-in-None : goal.returns-in-None
returns-in-None g c = removed-under g.K.PartialEq.eq c.args.table.now c.args.key c.remove.new.self Nobody (λ p. ap (λ o. is_among o p) c.in-None.ensures.value) c.remove.ensures.updates
