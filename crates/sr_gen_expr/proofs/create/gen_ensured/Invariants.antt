-- The code so far asks for the globals from here on.
use Rattle.std.proofs.Common.{◌≤◌, drop, length}
use Rattle.sr_code.specs.Operands.{put_cap}
use Rattle.sr_core.specs.declared.component.Core.{Core}
use Rattle.sr_meaning.specs.Expressions.{ensured}
use Rattle.sr_gen_expr.specs.Emitting.{Takes, keep_top}
use Rattle.sr_gen_expr.proofs.create.gen_ensured.Given as goal

abbrev pub invariant-loop-at : goal.invariant-loop-at
invariant-loop-at l =
    (l.at ≤ length l.globals) × ((core : Core) → Takes put_cap (keep_top put_cap) core l.place (λ vm. ensured (drop l.at l.globals) vm) l.initial.out l.out)

abbrev pub decreases-loop-at : goal.decreases-loop-at
decreases-loop-at l = l.at
