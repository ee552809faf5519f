-- The operations so far are joined.
use Rattle.std.proofs.Common.{◌≡◌, fold, take, length}
use Rattle.sr_classes.specs.Joins.{IsForest, StandsOn, joined}
use Rattle.sr_classes.proofs.sites.join_group.Given as goal

abbrev pub invariant-loop-other : goal.invariant-loop-other
invariant-loop-other l = (length l.parents ≡ length l.initial.parents) × IsForest l.parents
    × StandsOn l.initial.parents l.parents (λ of. fold (λ so_far other. joined so_far l.first other) of (take l.other-index l.others))
