-- By the names that are declared outside of blocks.
use Rattle.sr_scope.proofs.Operations.{means_operation, means_shared}
use Rattle.sr_scope.proofs.laws.procs_mean_shared.Goals as goal

pub returns : goal.returns
returns c = record {
  operation = means_operation;
  shared = means_shared;
}
