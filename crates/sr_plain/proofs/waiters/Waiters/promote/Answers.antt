use Rattle.sr_plain.proofs.CrowdLemmas.{promoted-alone}
use Rattle.sr_plain.proofs.waiters.Waiters.promote.Goals as goal

pub returns-then-is_empty : goal.returns-then-is_empty
returns-then-is_empty c = promoted-alone c.args.process c.args.self.now c.requires (c.is_empty.ensures.0 c.if-is_empty.true)
