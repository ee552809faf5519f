-- The first tokens of the statements in lists of parts.
use Rattle.std.specs.Prelude.{List, map}
use Rattle.sr_value.specs.declared.place.Span.{Span}
use Rattle.sr_tree.specs.declared.statement.Arm.{Arm}
use Rattle.sr_tree.specs.declared.statement.BlockItem.{BlockItem}
use Rattle.sr_tree.specs.declared.statement.Branch.{Branch}
use Rattle.sr_tree.specs.declared.statement.CoArm.{CoArm}
use Rattle.sr_order.specs.Spans.{joined, block_item_spans, arm_spans, branch_spans, co_arm_spans}

abbrev pub block_spans : List BlockItem → List Span
block_spans block = joined (map block_item_spans block)

abbrev pub branches_spans : List Branch → List Span
branches_spans branches = joined (map branch_spans branches)

abbrev pub arms_spans : List Arm → List Span
arms_spans arms = joined (map arm_spans arms)

abbrev pub co_arms_spans : List CoArm → List Span
co_arms_spans arms = joined (map co_arm_spans arms)
