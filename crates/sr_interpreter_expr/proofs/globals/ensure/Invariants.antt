-- What is left to ask for is what follows from here on.
use Rattle.std.proofs.Common.{◌≡◌, drop}
use Rattle.sr_meaning.specs.Expressions.{ensured}
use Rattle.sr_interpreter_expr.specs.Interpreters.{here_of, stage_of}
use Rattle.sr_interpreter_expr.proofs.globals.ensure.Given as goal

abbrev pub invariant-loop-global : goal.invariant-loop-global
invariant-loop-global g l =
    ensured (drop l.global-index l.globals) l.vm (here_of g.C.HasCore.core_of l.scene) (stage_of l.interpreter) ≡ ensured l.globals l.vm (here_of g.C.HasCore.core_of l.scene) (stage_of l.initial.interpreter)
