-- The folds that list the own variables of statements, and the statements that wait.
use Rattle.std.proofs.Common.{List}
use Rattle.sr_names.specs.declared.spot.Spot.{Spot}
use Rattle.sr_tree.proofs.StatementFolds.{Fold}
use Rattle.sr_tables.specs.Lists.{lists, maybe_lists}
use Rattle.sr_check_expr.specs.declared.facts.Facts.{Facts}
use Rattle.sr_outline.specs.Numbers.{arm_names, block_item_names, block_item_sites, co_arm_names, statement_names, statement_sites}

abbrev pub owned : Facts → Fold (List Spot) (List Spot) (List Spot) (List Spot) (List Spot)
owned facts = record { item = block_item_names facts; statement = statement_names facts; arm = arm_names; branch = λ branch. lists branch.block; co_arm = co_arm_names }

abbrev pub waiting : Facts → Fold (List Spot) (List Spot) (List Spot) (List Spot) (List Spot)
waiting facts = record { item = block_item_sites; statement = statement_sites facts; arm = λ arm. lists arm.block; branch = λ branch. lists branch.block; co_arm = λ arm. maybe_lists arm.block }
