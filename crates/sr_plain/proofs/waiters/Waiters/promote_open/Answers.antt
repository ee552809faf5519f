use Rattle.std.proofs.Common.{◌≡◌, false, subst}
use Rattle.sr_plain.specs.Waiting.{HoldsProcess, is_open}
use Rattle.sr_plain.proofs.CrowdLemmas.{promoted-same}
use Rattle.sr_plain.proofs.waiters.Waiters.promote_open.Goals as goal

pub promote_from-requires : goal.promote_from-requires
promote_from-requires c = subst (λ crowds. HoldsProcess crowds c.args.process c.in-Some.place) c.as_slice.ensures c.in-Some.ensures.some

pub returns-in-None : goal.returns-in-None
returns-in-None c = promoted-same c.args.process c.args.self.now c.requires (subst (λ crowds. is_open crowds c.args.process ≡ false) c.as_slice.ensures c.in-None.ensures.none)
