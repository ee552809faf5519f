-- What there is so far and what the rest adds are what all add.
use Rattle.std.proofs.Common.{drop, ◌≡◌}
use Rattle.sr_desugar.specs.Bodies.{item_outputs, with_codes, with_outputs}
use Rattle.sr_desugar.proofs.program.push_items.Given as goal

abbrev pub invariant-loop-item : goal.invariant-loop-item
invariant-loop-item l =
    (l.scene ≡ l.fn.scene)
    × (with_codes l.codes (item_outputs l.fn.scene (drop l.item-index l.items)) ≡ with_codes l.fn.codes (item_outputs l.fn.scene l.items))
    × (with_outputs l.gathered (item_outputs l.fn.scene (drop l.item-index l.items)) ≡ with_outputs l.fn.gathered (item_outputs l.fn.scene l.items))
