-- What is declared so far and what the rest declares are what all declare.
use Rattle.std.proofs.Common.{◌≡◌, drop}
use Rattle.sr_check_decl.specs.Declaring.{params_declared}
use Rattle.sr_check_decl.proofs.declaring.declare_params.Given as goal

abbrev pub invariant-loop-param : goal.invariant-loop-param
invariant-loop-param l = params_declared (drop l.param-index l.params) l.facts ≡ params_declared l.params l.fn.facts
