-- The sites so far are joined.
use Rattle.std.proofs.Common.{◌≡◌, fold, map, take, length}
use Rattle.sr_classes.specs.Classes.{named_by}
use Rattle.sr_classes.specs.Joins.{IsForest, StandsOn, group_joined}
use Rattle.sr_classes.proofs.sites.join_sites.Given as goal

abbrev pub invariant-loop-site : goal.invariant-loop-site
invariant-loop-site l = (length l.parents ≡ length l.initial.parents) × IsForest l.parents
    × StandsOn l.initial.parents l.parents (λ of. fold group_joined of (map (λ site. named_by (length l.initial.parents) site.arms) (take l.site-index l.sites)))
