use Rattle.sr_plain.proofs.CrowdLemmas.{next-after, next-nobody}
use Rattle.sr_plain.proofs.waiters.Waiters.next_of_all.Goals as goal

pub returns-in-Some : goal.returns-in-Some
returns-in-Some c = next-after c.args.self.now c.args.last c.in-Some.process c.in-Some.ensures

pub returns-in-None : goal.returns-in-None
returns-in-None c = next-nobody c.args.self.now c.args.last c.first.result c.in-None.ensures c.first.ensures
