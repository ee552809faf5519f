-- The code so far makes the formals from here on.
use Rattle.std.proofs.Common.{◌≤◌, drop, length}
use Rattle.sr_code.specs.Operands.{put_list}
use Rattle.sr_core.specs.declared.component.Core.{Core}
use Rattle.sr_meaning.specs.Statements.{make_formals}
use Rattle.sr_gen_expr.specs.Emitting.{Takes, put_nothing, put_only}
use Rattle.sr_gen_expr.proofs.formals.gen_formals.Given as goal

abbrev pub invariant-loop-at : goal.invariant-loop-at
invariant-loop-at l =
    (l.at ≤ length l.formals) × ((core : Core) → Takes put_list (put_only put_nothing) core l.place (λ args. make_formals l.scope (drop l.at l.formals) args) l.fn.out l.out)

abbrev pub decreases-loop-at : goal.decreases-loop-at
decreases-loop-at l = l.at
