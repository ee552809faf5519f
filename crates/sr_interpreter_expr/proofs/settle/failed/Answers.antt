use Rattle.sr_interpreter_expr.specs.Interpreters.{here_of, stage_of}
use Rattle.sr_meaning.proofs.Forever.{forever}
use Rattle.sr_interpreter_expr.proofs.settle.failed.Goals as goal

pub returns : goal.returns
returns g c = forever _ (here_of g.C.HasCore.core_of c.args.scene.now).limit (stage_of c.args.interpreter.now)
