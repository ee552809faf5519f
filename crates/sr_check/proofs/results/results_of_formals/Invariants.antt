-- The results of the formals so far are there; those of the rest are after them.
use Rattle.std.proofs.Common.{◌≡◌, ◌++◌, drop}
use Rattle.sr_check.specs.Results.{formal_results}
use Rattle.sr_check.proofs.results.results_of_formals.Given as goal

abbrev pub invariant-loop-formal : goal.invariant-loop-formal
invariant-loop-formal l = l.types ++ formal_results (drop l.formal-index l.formals) ≡ formal_results l.formals
