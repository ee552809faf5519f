use Rattle.sr_interpreter_expr.specs.Interpreters.{stage_of}
use Rattle.sr_interpreter_parts.proofs.Drops.{dropped}
use Rattle.sr_interpreter_parts.proofs.co.take_out.Goals as goal

pub returns-clause-dropped : goal.returns-clause-dropped
returns-clause-dropped c = dropped (stage_of c.args.interpreter.now) _ c.args.at c.remove.result c.requires c.remove.ensures.item c.remove.ensures.others
