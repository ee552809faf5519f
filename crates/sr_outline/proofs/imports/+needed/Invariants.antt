-- What there is so far and what the rest adds are what all add. No chain is longer than the depth.
use Rattle.std.proofs.Common.{drop, ◌+◌, ◌*◌, ◌≡◌}
use Rattle.sr_outline.specs.Outline.{with_needed}
use Rattle.sr_outline.proofs.imports.+needed.Given as goal

abbrev pub decreases-push_global : goal.decreases-push_global
decreases-push_global l = 2 * l.depth

abbrev pub decreases-push_needed : goal.decreases-push_needed
decreases-push_needed l = 2 * l.depth + 1

abbrev pub invariant-push_needed-loop-global : goal.invariant-push_needed-loop-global
invariant-push_needed-loop-global l = with_needed l.depth l.imports l.there (drop l.global-index l.wanted) ≡ with_needed l.depth l.imports l.fn.there l.wanted
