-- A variable more stands for the next formal.
use Rattle.sr_lower_expr.specs.Places.{formals_of}
use Rattle.sr_lower_expr.proofs.Formals.{formals_turn}
use Rattle.sr_lower_expr.proofs.places.formals_of.Goals as goal

pub loop-parameter-preserved : goal.loop-parameter-preserved
loop-parameter-preserved c =
    formals_turn c.loop-parameter.formals c.push.new.self c.in_ok-formal_of.field-0 c.loop-parameter.rest.now c.vars_after-rest.result.now c.first_var.result
    c.args.parameters.now c.loop-parameter.parameter-index c.parameter-item.result (formals_of c.args.vars.now c.args.parameters.now)
    c.loop-parameter-test.true c.parameter-item.is c.first_var.ensures c.in_ok-formal_of.ensures c.vars_after-rest.ensures c.in_ok-push.ensures.ok
    c.loop-parameter.invariant
