-- All operations after the first are joined with it.
use Rattle.std.proofs.Common.{subst}
use Rattle.sr_classes.specs.Joins.{Stands}
use Rattle.sr_classes.proofs.Groups.{group-joined}
use Rattle.sr_classes.proofs.sites.join_group.Goals as goal

pub returns-after-loop-other-clause-joined : goal.returns-after-loop-other-clause-joined
returns-after-loop-other-clause-joined c = λ of stands. subst (λ joins. Stands joins c.loop-other.parents)
    (group-joined c.args.group.now _ c.loop-other.other-index of c.in-len1-up.len_at_least c.loop-other-test.false)
    (c.loop-other.invariant.2 of stands)
