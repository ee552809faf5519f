-- The folds that read statements, and list what they service.
use Rattle.sr_names.specs.Noted.{Meanings}
use Rattle.sr_tree.proofs.StatementFolds.{Fold}
use Rattle.sr_check.specs.Contexts.{Steps}
use Rattle.sr_check.specs.Servicing.{ArmWaits, Waits, arm_step as arm_waiting, branch_step as branch_waiting, co_arm_step as co_arm_waiting, item_step as item_waiting, statement_step as statement_waiting}
use Rattle.sr_check.specs.Statements.{ArmSteps, CoArmSteps, arm_step, branch_step, co_arm_step, item_step, statement_step}

abbrev pub reading : Fold Steps Steps ArmSteps Steps CoArmSteps
reading = record { item = item_step; statement = statement_step; arm = arm_step; branch = branch_step; co_arm = co_arm_step }

abbrev pub servicing : Meanings → Fold Waits Waits ArmWaits Waits Waits
servicing uses = record { item = item_waiting; statement = statement_waiting uses; arm = arm_waiting uses; branch = branch_waiting; co_arm = co_arm_waiting }
