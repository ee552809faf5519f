-- The formals so far and those of the rest are all formals.
use Rattle.std.proofs.Common.{◌≡◌, ◌++◌, drop}
use Rattle.sr_check_decl.specs.Declaring.{process_params}
use Rattle.sr_check_decl.proofs.operations.process_params.Given as goal

abbrev pub invariant-loop-quantifier : goal.invariant-loop-quantifier
invariant-loop-quantifier l = l.row ++ process_params (drop l._quantifier-index l.quantifiers) ≡ process_params l.quantifiers
