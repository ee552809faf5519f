use Rattle.std.proofs.Common.{None, Some}
use Rattle.sr_plain.proofs.CrowdLemmas.{next-after, next-nobody, ready-first, ready-later, sole-next}
use Rattle.sr_plain.proofs.waiters.Waiters.next_ready.Goals as goal

pub returns-in-Some : goal.returns-in-Some
returns-in-Some c = sole-next c.args.self.now c.args.last c.in-Some.process c.requires c.in-Some.ensures

pub returns-in-Some-first_after : goal.returns-in-Some-first_after
returns-in-Some-first_after c =
    let waiters = c.args.self.now in
    let last = c.args.last in
    next-after waiters last c.in-Some-first_after.process (ready-later waiters last (Some c.in-Some-first_after.process) c.requires c.in-Some-first_after.ensures)

pub returns-in-None : goal.returns-in-None
returns-in-None c =
    let waiters = c.args.self.now in
    let last = c.args.last in
    next-nobody waiters last c.first.result (ready-later waiters last None c.requires c.in-None.ensures) (ready-first waiters c.first.result c.requires c.first.ensures)
