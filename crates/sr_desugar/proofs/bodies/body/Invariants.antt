-- What there is so far and what the rest adds are what all add.
use Rattle.std.proofs.Common.{drop, map, ◌++◌, ◌≡◌}
use Rattle.sr_desugar.specs.Bodies.{inner_made}
use Rattle.sr_desugar.specs.Statements.{block_made}
use Rattle.sr_desugar.proofs.bodies.body.Given as goal

abbrev pub invariant-loop-item : goal.invariant-loop-item
invariant-loop-item l =
    (l.code ++ (block_made (map (inner_made l.scene) (drop l.item-index l.block))).made ≡ (block_made (map (inner_made l.scene) l.block)).made)
    × (l.sites ++ (block_made (map (inner_made l.scene) (drop l.item-index l.block))).sites ≡ l.fn.sites ++ (block_made (map (inner_made l.scene) l.block)).sites)
