-- One number more is appended.
use Rattle.std.proofs.Common.{◌+◌, ℕ, List, ◌++◌, map, drop, ap, ◌∙◌}
use Rattle.sr_core.specs.declared.statement.Scope.TheVariants.{Shared}
use Rattle.sr_desugar.specs.Declarations.{var_number}
use Rattle.sr_lower_expr.proofs.Turns.{map_next}
use Rattle.sr_desugar.proofs.program.shared_numbers.Goals as goal

pub loop-spot-preserved : goal.loop-spot-preserved
loop-spot-preserved c =
    ap (λ (made : List ℕ). made ++ map (var_number c.args.scene.now Shared) (drop (c.loop-spot.spot-index + 1) c.args.spots.now)) c.in_ok-push.ensures.ok
    ∙ map_next (var_number c.args.scene.now Shared) c.loop-spot.numbers c.in_ok-var_number.field-0 c.args.spots.now c.loop-spot.spot-index (record { file = 0; from = 0 })
    c.loop-spot-test.true c.in_ok-var_number.ensures
    ∙ c.loop-spot.invariant
