-- Where parts come one after another, what each adds is added in turn.
use Rattle.std.proofs.Common.{◌∙◌}
use Rattle.sr_check_expr.proofs.Chains.{unary-noted, binary-noted, index-noted, call-noted, create-noted}
use Rattle.sr_check_expr.proofs.exprs.+exprs.Goals as goal

pub create-returns-in_ok-machine-in-Resource-clause-noted :
    goal.create-returns-in_ok-machine-in-Resource-clause-noted
create-returns-in_ok-machine-in-Resource-clause-noted t c =
    create-noted c.instance.result c.in-Resource.span c.in-Resource.resource c.in-Resource.arguments c.as_slice.result.now c.in-Resource.machine
    c.resource_named-resource.result c.as_slice-in-Resource.result.now c.in_ok-machine-in-Resource.machine
    c.args.facts.now c.args.tree.now c.args.diagnostics.now c.all.new.diagnostics c.optional.new.diagnostics c.instance.new.diagnostics
    c.in-Resource.is c.as_slice.ensures
    (c.as_slice-in-Resource.ensures ∙ c.in_ok-arguments-in-Resource.ensures.value)
    c.in_ok-machine-in-Resource.ensures.value c.resource_named-resource.ensures
    c.in_ok-arguments-in-Resource.ensures.noted c.in_ok-machine-in-Resource.ensures.noted c.instance.ensures.noted

pub expr-returns-in_ok-second-in-Index-clause-noted :
    goal.expr-returns-in_ok-second-in-Index-clause-noted
expr-returns-in_ok-second-in-Index-clause-noted t c =
    index-noted c.indexed.result c.in-Index.span c.in-Index.array c.get-in-Index.result.now c.in-Index.first c.get-in-Index-2.result.now c.in-Index.second
    c.in_ok-array-in-Index.array c.in_ok-first-in-Index.first c.in_ok-second-in-Index.second
    c.args.facts.now c.args.tree.now c.args.diagnostics.now c.boxed-in-Index.new.diagnostics c.boxed-in-Index-2.new.diagnostics c.optional.new.diagnostics c.indexed.new.diagnostics
    c.in-Index.is c.get-in-Index.ensures c.get-in-Index-2.ensures
    c.in_ok-array-in-Index.ensures.value c.in_ok-first-in-Index.ensures.value c.in_ok-second-in-Index.ensures.value
    c.in_ok-array-in-Index.ensures.noted c.in_ok-first-in-Index.ensures.noted c.in_ok-second-in-Index.ensures.noted c.indexed.ensures.noted

pub expr-returns-in_ok-parts-in-Call-clause-noted :
    goal.expr-returns-in_ok-parts-in-Call-clause-noted
expr-returns-in_ok-parts-in-Call-clause-noted t c =
    call-noted c.called.result c.in-Call.invoked c.in_ok-parts-in-Call.parts
    c.args.facts.now c.args.tree.now c.args.diagnostics.now c.invocation.new.diagnostics c.called.new.diagnostics
    c.in-Call.is c.in_ok-parts-in-Call.ensures.value c.in_ok-parts-in-Call.ensures.noted c.called.ensures.noted

pub expr-returns-in_ok-operand-in-Unary-clause-noted :
    goal.expr-returns-in_ok-operand-in-Unary-clause-noted
expr-returns-in_ok-operand-in-Unary-clause-noted t c =
    unary-noted c.before-in-Unary.result c.in-Unary.span c.in-Unary.operator c.in-Unary.operand c.get-in-Unary.result.now
    c.in_ok-operand-in-Unary.operand
    c.args.facts.now c.args.tree.now c.args.diagnostics.now c.boxed-in-Unary.new.diagnostics c.before-in-Unary.new.diagnostics
    c.in-Unary.is c.get-in-Unary.ensures
    c.in_ok-operand-in-Unary.ensures.value c.in_ok-operand-in-Unary.ensures.noted c.before-in-Unary.ensures.noted

pub expr-returns-in_ok-right-in-Binary-clause-noted :
    goal.expr-returns-in_ok-right-in-Binary-clause-noted
expr-returns-in_ok-right-in-Binary-clause-noted t c =
    binary-noted c.between.result c.in-Binary.span c.in-Binary.operator c.in-Binary.left c.get-in-Binary.result.now c.in-Binary.right c.get-in-Binary-2.result.now
    c.in_ok-left-in-Binary.left c.in_ok-right-in-Binary.right
    c.args.facts.now c.args.tree.now c.args.diagnostics.now c.boxed-in-Binary.new.diagnostics c.boxed-in-Binary-2.new.diagnostics c.between.new.diagnostics
    c.in-Binary.is c.get-in-Binary.ensures c.get-in-Binary-2.ensures
    c.in_ok-left-in-Binary.ensures.value c.in_ok-right-in-Binary.ensures.value
    c.in_ok-left-in-Binary.ensures.noted c.in_ok-right-in-Binary.ensures.noted c.between.ensures.noted
