-- The code so far joins what is named from here on.
use Rattle.std.proofs.Common.{◌≤◌, drop, length, map}
use Rattle.sr_code.specs.Operands.{join_value}
use Rattle.sr_core.specs.declared.component.Core.{Core}
use Rattle.sr_meaning.specs.Expressions.{in_order}
use Rattle.sr_meaning.specs.Statements.{named_value}
use Rattle.sr_gen_expr.specs.Emitting.{Gives, join_all}
use Rattle.sr_gen.proofs.site.gen_named.Given as goal

abbrev pub invariant-loop-at : goal.invariant-loop-at
invariant-loop-at l =
    (l.at ≤ length l.names) × ((core : Core) → Gives (join_all join_value) core l.place (in_order (map named_value (drop l.at l.names))) l.initial.out l.out)

abbrev pub decreases-loop-at : goal.decreases-loop-at
decreases-loop-at l = l.at
