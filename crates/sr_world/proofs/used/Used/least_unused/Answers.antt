use Rattle.std.proofs.Common.{subst}
use Rattle.sr_world.specs.Names.{IsLeastUnused}
use Rattle.sr_world.specs.Parts.{Numbers}
use Rattle.sr_world.proofs.UsedLemmas.{above_all}
use Rattle.sr_world.proofs.used.Used.least_unused.Goals as goal

pub returns-then-self-clause-some : goal.returns-then-self-clause-some
returns-then-self-clause-some c =
    subst (λ (n : Numbers). IsLeastUnused n.names c.self.inside.next) c.self.view_is
    (above_all c.self.inside.names.items c.self.inside.next c.self.inside.greatest c.self.invariant c.if-self.true)
