-- What is declared so far and what the rest declares are what all declare.
use Rattle.std.proofs.Common.{◌≡◌, drop}
use Rattle.sr_check_decl.specs.Variables.{vars_declared}
use Rattle.sr_check_decl.proofs.variables.declare_variables.Given as goal

abbrev pub invariant-loop-decl : goal.invariant-loop-decl
invariant-loop-decl l = vars_declared l.ty (drop l.decl-index l.decls) l.facts ≡ vars_declared l.ty l.decls l.fn.facts
