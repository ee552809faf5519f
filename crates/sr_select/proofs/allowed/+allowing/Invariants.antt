-- What is left to look at decides.
use Rattle.std.proofs.Common.{◌≡◌, drop, map}
use Rattle.sr_select.specs.Tests.{all_pass, expr_all, part_all, step_all}
use Rattle.sr_select.proofs.allowed.+allowing.Given as goal

abbrev pub invariant-exprs_allowed-loop-expr : goal.invariant-exprs_allowed-loop-expr
invariant-exprs_allowed-loop-expr g l =
    all_pass (map (expr_all (g.A.Allowed.leaves l.allowed) (g.A.Allowed.roots l.allowed)) (drop l.expr-index l.exprs))
    ≡ all_pass (map (expr_all (g.A.Allowed.leaves l.allowed) (g.A.Allowed.roots l.allowed)) l.exprs)

abbrev pub invariant-steps_allowed-loop-step : goal.invariant-steps_allowed-loop-step
invariant-steps_allowed-loop-step g l =
    all_pass (map (step_all (g.A.Allowed.leaves l.allowed) (g.A.Allowed.roots l.allowed)) (drop l.step-index l.steps))
    ≡ all_pass (map (step_all (g.A.Allowed.leaves l.allowed) (g.A.Allowed.roots l.allowed)) l.steps)

abbrev pub invariant-parts_allowed-loop-part : goal.invariant-parts_allowed-loop-part
invariant-parts_allowed-loop-part g l =
    all_pass (map (part_all (g.A.Allowed.leaves l.allowed) (g.A.Allowed.roots l.allowed)) (drop l.part-index l.parts))
    ≡ all_pass (map (part_all (g.A.Allowed.leaves l.allowed) (g.A.Allowed.roots l.allowed)) l.parts)
