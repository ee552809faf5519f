-- Each formal, and what a signature returns, adds its literals after those before it.
use Rattle.std.proofs.lemmas.Result.{on_ok_weaker}
use Rattle.sr_scope.proofs.LiteralLists.{one_declared, one_noted, signature_declared, signature_noted}
use Rattle.sr_scope.proofs.literals.+literals.Goals as goal

pub declare_in_formals-loop-formal-preserved : goal.declare_in_formals-loop-formal-preserved
declare_in_formals-loop-formal-preserved t c =
    let at = c.loop-formal.formal-index in
    let formals = c.args.formals.now in
    let formal = c.formal-item.result in
    let within = c.loop-formal-test.true in
    let is = c.formal-item.is in
    let told = c.in_ok-declare_literals.ensures in (
      one_declared formals at formal within is c.loop-formal.table c.declare_literals.new.table _ told.table c.loop-formal.invariant.0,
      one_noted formals at formal within is c.loop-formal.table c.declare_literals.new.table c.loop-formal.diagnostics c.declare_literals.new.diagnostics _ told.table told.noted c.loop-formal.invariant.1,
    )

pub declare_in_signature-returns-clause-table : goal.declare_in_signature-returns-clause-table
declare_in_signature-returns-clause-table t c =
    on_ok_weaker c.declare_in_returned.result
    (signature_declared c.args.signature.now c.as_slice.result.now c.as_slice.ensures c.args.table.now c.declare_in_formals.new.table c.declare_in_returned.new.table c.in_ok-declare_in_formals.ensures.table)
    c.declare_in_returned.ensures.table

pub declare_in_signature-returns-clause-noted : goal.declare_in_signature-returns-clause-noted
declare_in_signature-returns-clause-noted t c =
    on_ok_weaker c.declare_in_returned.result
    (signature_noted c.args.signature.now c.as_slice.result.now c.as_slice.ensures c.args.table.now c.declare_in_formals.new.table c.args.diagnostics.now c.declare_in_formals.new.diagnostics c.declare_in_returned.new.diagnostics
    c.in_ok-declare_in_formals.ensures.table c.in_ok-declare_in_formals.ensures.noted)
    c.declare_in_returned.ensures.noted
