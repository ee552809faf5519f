-- The formals so far and those of the rest are all formals.
use Rattle.std.proofs.Common.{◌≡◌, ◌++◌, drop}
use Rattle.sr_check_decl.specs.TypeTrees.{params_of}
use Rattle.sr_check_decl.proofs.signatures.params_of.Given as goal

abbrev pub invariant-loop-param : goal.invariant-loop-param
invariant-loop-param l = l.row ++ params_of (drop l.param-index l.params) ≡ params_of l.params
