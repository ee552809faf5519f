-- One number more is appended.
use Rattle.std.proofs.Common.{◌+◌, ℕ, List, ◌++◌, map, drop, ap, ◌∙◌}
use Rattle.sr_lower_expr.specs.Places.{own_number}
use Rattle.sr_lower_expr.proofs.Turns.{map_next}
use Rattle.sr_lower_expr.proofs.places.own_numbers.Goals as goal

pub loop-spot-preserved : goal.loop-spot-preserved
loop-spot-preserved c =
    ap (λ (made : List ℕ). made ++ map (own_number c.args.scene.now) (drop (c.loop-spot.spot-index + 1) c.args.spots.now)) c.in_ok-push.ensures.ok
    ∙ map_next (own_number c.args.scene.now) c.loop-spot.numbers c.in_ok-own_number.field-0 c.args.spots.now c.loop-spot.spot-index (record { file = 0; from = 0 })
    c.loop-spot-test.true c.in_ok-own_number.ensures
    ∙ c.loop-spot.invariant
