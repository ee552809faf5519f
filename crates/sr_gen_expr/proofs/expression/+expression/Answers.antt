use Rattle.std.proofs.Common.{ap, arith, length, map, refl}
use Rattle.sr_code.specs.Operands.{join_piece, join_sel, join_target, join_value}
use Rattle.sr_code.specs.declared.instruction.Instruction.TheVariants.{AndSkip, OrSkip}
use Rattle.sr_meaning.specs.Expressions.{argument_of, expr_meaning, part_of_expr, reading_of, step_of_expr}
use Rattle.sr_gen_expr.specs.Emitting.{and_meaning, join_sent, operand_meaning, or_meaning, part_meaning_of}
use Rattle.sr_gen_expr.proofs.Calls.{gives_call, gives_create, gives_read, takes_call}
use Rattle.sr_gen_expr.proofs.Forms.{gives_apply, gives_array, gives_list, gives_load, gives_member, gives_place, gives_unary, joins_at, joins_at2, joins_field, joins_one, joins_reading, joins_repeated, joins_res, joins_val, joins_value, joins_var, selects_at, selects_at2, selects_field, takes_and, takes_operand, takes_or}
use Rattle.sr_gen_expr.proofs.Rows.{rows_all, rows_begin, rows_step}
use Rattle.sr_gen_expr.proofs.Stretching.{emits_as, gives_as, gives_taken, takes_as}
use Rattle.sr_gen_expr.proofs.Trees.{and_is, at2_is, at_is, binary_is, call_is, create_is, field_is, leaf_is, of_is, one_is, or_is, place_is, reading_is, repeated_is, res_is, val_is, var_is}
use Rattle.sr_gen_expr.proofs.expression.+expression.Goals as goal

-- ---- expressions

pub gen_expr-returns-in_ok-gen_leaf-in-Leaf : goal.gen_expr-returns-in_ok-gen_leaf-in-Leaf
gen_expr-returns-in_ok-gen_leaf-in-Leaf t c = gives_as (leaf_is c.args.expr.now c.in-Leaf.leaf c.in-Leaf.is) (c.in_ok-gen_leaf-in-Leaf.ensures c.args.core.now)

pub gen_expr-returns-in_ok-gen_expr-in-Binary : goal.gen_expr-returns-in_ok-gen_expr-in-Binary
gen_expr-returns-in_ok-gen_expr-in-Binary t c =
    gives_as (binary_is c.args.expr.now c.in-Binary.op c.in-Binary.left c.in-Binary.right c.get-in-Binary-2.result.now c.get-in-Binary.result.now c.in-Binary.is c.get-in-Binary-2.ensures c.get-in-Binary.ensures)
    (gives_taken (operand_meaning c.in-Binary.op (expr_meaning c.get-in-Binary.result.now)) c.in_ok-gen_right-in-Binary.ensures c.in_ok-gen_expr-in-Binary.ensures)

pub gen_expr-returns-in_ok-gen_expr-in-And : goal.gen_expr-returns-in_ok-gen_expr-in-And
gen_expr-returns-in_ok-gen_expr-in-And t c =
    gives_as (and_is c.args.expr.now c.in-And.left c.in-And.right c.get-in-And-2.result.now c.get-in-And.result.now c.in-And.is c.get-in-And-2.ensures c.get-in-And.ensures)
    (gives_taken (and_meaning (expr_meaning c.get-in-And.result.now)) c.in_ok-gen_and_right-in-And.ensures c.in_ok-gen_expr-in-And.ensures)

pub gen_expr-returns-in_ok-gen_expr-in-Or : goal.gen_expr-returns-in_ok-gen_expr-in-Or
gen_expr-returns-in_ok-gen_expr-in-Or t c =
    gives_as (or_is c.args.expr.now c.in-Or.left c.in-Or.right c.get-in-Or-2.result.now c.get-in-Or.result.now c.in-Or.is c.get-in-Or-2.ensures c.get-in-Or.ensures)
    (gives_taken (or_meaning (expr_meaning c.get-in-Or.result.now)) c.in_ok-gen_or_right-in-Or.ensures c.in_ok-gen_expr-in-Or.ensures)

pub gen_expr-returns-in_ok-gen_expr-in-Of : goal.gen_expr-returns-in_ok-gen_expr-in-Of
gen_expr-returns-in_ok-gen_expr-in-Of t c =
    gives_as (of_is c.args.expr.now c.in-Of.whole c.get-in-Of-2.result.now c.in-Of.step c.get-in-Of.result.now c.in-Of.is c.get-in-Of-2.ensures c.get-in-Of.ensures)
    (gives_taken (part_meaning_of (step_of_expr c.get-in-Of.result.now)) c.in_ok-gen_selected-in-Of.ensures c.in_ok-gen_expr-in-Of.ensures)

pub gen_expr-returns-in_ok-gen_expr-in-Call : goal.gen_expr-returns-in_ok-gen_expr-in-Call
gen_expr-returns-in_ok-gen_expr-in-Call t c =
    gives_as (call_is c.args.expr.now c.in-Call.target c.get-in-Call.result.now c.in-Call.args c.as_slice-in-Call.result.now c.in-Call.returns c.in-Call.is c.get-in-Call.ensures c.as_slice-in-Call.ensures)
    (gives_call (map argument_of c.as_slice-in-Call.result.now) c.in-Call.returns c.in_ok-gen_called-in-Call.ensures c.in_ok-gen_expr-in-Call.ensures)

pub gen_expr-returns-in_ok-gen_list-in-Create : goal.gen_expr-returns-in_ok-gen_list-in-Create
gen_expr-returns-in_ok-gen_list-in-Create t c =
    gives_as (create_is c.args.expr.now c.in-Create.machine c.get-in-Create.result.now c.in-Create.resource c.in-Create.args c.as_slice-in-Create.result.now c.in-Create.is c.get-in-Create.ensures c.as_slice-in-Create.ensures)
    (gives_create c.in-Create.resource (map expr_meaning c.as_slice-in-Create.result.now) c.in_ok-gen_created-in-Create.ensures c.in_ok-gen_expr-in-Create.ensures c.in_ok-gen_list-in-Create.ensures)

-- ---- forms with one part

pub gen_load-returns : goal.gen_load-returns
gen_load-returns t c = gives_load c.in_ok-emit.ensures c.in_ok-gen_place.ensures

pub gen_unary-returns : goal.gen_unary-returns
gen_unary-returns t c = gives_unary c.in_ok-emit.ensures c.in_ok-gen_expr.ensures

pub gen_right-returns : goal.gen_right-returns
gen_right-returns t c = takes_operand c.in_ok-emit.ensures c.in_ok-gen_expr.ensures

pub gen_and_right-returns : goal.gen_and_right-returns
gen_and_right-returns t c =
    takes_and (expr_meaning c.args.right.now) (takes_operand c.in_ok-emit.ensures c.in_ok-gen_expr.ensures) (emits_as (ap AndSkip c.len-to.ensures) c.in_ok-emit-2.ensures)

pub gen_or_right-returns : goal.gen_or_right-returns
gen_or_right-returns t c =
    takes_or (expr_meaning c.args.right.now) (takes_operand c.in_ok-emit.ensures c.in_ok-gen_expr.ensures) (emits_as (ap OrSkip c.len-to.ensures) c.in_ok-emit-2.ensures)

pub gen_apply-returns : goal.gen_apply-returns
gen_apply-returns t c = gives_apply (map expr_meaning c.args.args.now) c.in_ok-emit.ensures c.in_ok-gen_list.ensures

pub gen_member-returns : goal.gen_member-returns
gen_member-returns t c = gives_member c.in_ok-emit.ensures c.in_ok-emit-2.ensures c.in_ok-gen_expr.ensures

pub gen_called-returns : goal.gen_called-returns
gen_called-returns t c =
    takes_call (map argument_of c.args.args.now) c.args.returns.now (c.in_ok-gen_answer.ensures c.args.core.now) c.in_ok-emit.ensures c.in_ok-gen_arguments.ensures c.in_ok-emit-2.ensures

pub gen_reading-returns : goal.gen_reading-returns
gen_reading-returns t c = gives_as (reading_is c.args.reading.now) (joins_reading _ _ c.in_ok-emit.ensures c.in_ok-gen_place.ensures)

pub gen_place-returns : goal.gen_place-returns
gen_place-returns t c =
    gives_as (place_is c.args.at.now c.as_slice.result.now c.as_slice.ensures) (gives_place _ (map step_of_expr c.as_slice.result.now) c.in_ok-emit.ensures c.in_ok-gen_steps.ensures)

-- ---- parts, steps, arguments

pub gen_part-returns-in_ok-gen_expr-in-One : goal.gen_part-returns-in_ok-gen_expr-in-One
gen_part-returns-in_ok-gen_expr-in-One t c =
    gives_as (one_is c.args.part.now c.in-One.value c.in-One.is) (joins_one c.in_ok-emit-in-One.ensures c.in_ok-gen_expr-in-One.ensures)

pub gen_part-returns-in_ok-gen_expr-in-Repeated-2 : goal.gen_part-returns-in_ok-gen_expr-in-Repeated-2
gen_part-returns-in_ok-gen_expr-in-Repeated-2 t c =
    gives_as (repeated_is c.args.part.now c.in-Repeated.count c.in-Repeated.value c.in-Repeated.is)
    (joins_repeated c.in_ok-emit-in-Repeated.ensures c.in_ok-gen_expr-in-Repeated.ensures c.in_ok-emit-in-Repeated-2.ensures c.in_ok-gen_expr-in-Repeated-2.ensures)

pub gen_selected-returns-in_ok-gen_expr-in-At : goal.gen_selected-returns-in_ok-gen_expr-in-At
gen_selected-returns-in_ok-gen_expr-in-At t c =
    takes_as (ap part_meaning_of (at_is c.args.step.now c.in-At.index c.in-At.is)) (selects_at c.in_ok-emit-in-At.ensures c.in_ok-emit-in-At-2.ensures c.in_ok-gen_expr-in-At.ensures)

pub gen_selected-returns-in_ok-gen_expr-in-At2-2 : goal.gen_selected-returns-in_ok-gen_expr-in-At2-2
gen_selected-returns-in_ok-gen_expr-in-At2-2 t c =
    takes_as (ap part_meaning_of (at2_is c.args.step.now c.in-At2.row c.in-At2.column c.in-At2.is))
    (selects_at2 c.in_ok-emit-in-At2.ensures c.in_ok-emit-in-At2-2.ensures c.in_ok-gen_expr-in-At2.ensures c.in_ok-emit-in-At2-3.ensures c.in_ok-gen_expr-in-At2-2.ensures)

pub gen_selected-returns-in_ok-emit-in-Field : goal.gen_selected-returns-in_ok-emit-in-Field
gen_selected-returns-in_ok-emit-in-Field t c =
    takes_as (ap part_meaning_of (field_is c.args.step.now c.in-Field.field c.in-Field.is)) (selects_field c.in_ok-emit-in-Field.ensures)

pub gen_step-returns-in_ok-gen_expr-in-At : goal.gen_step-returns-in_ok-gen_expr-in-At
gen_step-returns-in_ok-gen_expr-in-At t c =
    gives_as (at_is c.args.step.now c.in-At.index c.in-At.is) (joins_at c.in_ok-emit-in-At.ensures c.in_ok-emit-in-At-2.ensures c.in_ok-gen_expr-in-At.ensures)

pub gen_step-returns-in_ok-gen_expr-in-At2-2 : goal.gen_step-returns-in_ok-gen_expr-in-At2-2
gen_step-returns-in_ok-gen_expr-in-At2-2 t c =
    gives_as (at2_is c.args.step.now c.in-At2.row c.in-At2.column c.in-At2.is)
    (joins_at2 c.in_ok-emit-in-At2.ensures c.in_ok-emit-in-At2-2.ensures c.in_ok-gen_expr-in-At2.ensures c.in_ok-emit-in-At2-3.ensures c.in_ok-gen_expr-in-At2-2.ensures)

pub gen_step-returns-in_ok-emit-in-Field : goal.gen_step-returns-in_ok-emit-in-Field
gen_step-returns-in_ok-emit-in-Field t c =
    gives_as (field_is c.args.step.now c.in-Field.field c.in-Field.is) (joins_field c.in_ok-emit-in-Field.ensures)

pub gen_argument-returns-in_ok-gen_expr-in-Val : goal.gen_argument-returns-in_ok-gen_expr-in-Val
gen_argument-returns-in_ok-gen_expr-in-Val t c =
    gives_as (val_is c.args.arg.now c.in-Val.value c.in-Val.is) (joins_val c.in_ok-emit-in-Val.ensures c.in_ok-gen_expr-in-Val.ensures)

pub gen_argument-returns-in_ok-gen_place-in-Var : goal.gen_argument-returns-in_ok-gen_place-in-Var
gen_argument-returns-in_ok-gen_place-in-Var t c =
    gives_as (var_is c.args.arg.now c.in-Var.at c.in-Var.is) (joins_var c.in_ok-emit-in-Var.ensures c.in_ok-gen_place-in-Var.ensures)

pub gen_argument-returns-in_ok-gen_place-in-Res : goal.gen_argument-returns-in_ok-gen_place-in-Res
gen_argument-returns-in_ok-gen_place-in-Res t c =
    gives_as (res_is c.args.arg.now c.in-Res.at c.in-Res.is) (joins_res c.in_ok-emit-in-Res.ensures c.in_ok-gen_place-in-Res.ensures)

-- ---- rows

pub gen_list-loop-at-init : goal.gen_list-loop-at-init
gen_list-loop-at-init t c =
    rows_begin join_value c.args.core.now c.args.place expr_meaning c.args.exprs.now (length c.args.exprs.now) _ refl

pub gen_list-loop-at-preserved : goal.gen_list-loop-at-preserved
gen_list-loop-at-preserved t c =
    rows_step expr_meaning c.args.exprs.now c.loop-at.at c.index-exprs-at.result (omega arith) c.loop-at.invariant c.index-exprs-at.is (joins_value c.in_ok-emit.ensures c.in_ok-gen_expr.ensures)

pub gen_array-loop-at-init : goal.gen_array-loop-at-init
gen_array-loop-at-init t c =
    rows_begin join_piece c.args.core.now c.args.place part_of_expr c.args.parts.now (length c.args.parts.now) _ refl

pub gen_array-loop-at-preserved : goal.gen_array-loop-at-preserved
gen_array-loop-at-preserved t c =
    rows_step part_of_expr c.args.parts.now c.loop-at.at c.index-parts-at.result (omega arith) c.loop-at.invariant c.index-parts-at.is c.in_ok-gen_part.ensures

pub gen_arguments-loop-at-init : goal.gen_arguments-loop-at-init
gen_arguments-loop-at-init t c =
    rows_begin join_sent c.args.core.now c.args.place argument_of c.args.args.now (length c.args.args.now) _ refl

pub gen_arguments-loop-at-preserved : goal.gen_arguments-loop-at-preserved
gen_arguments-loop-at-preserved t c =
    rows_step argument_of c.args.args.now c.loop-at.at c.index-args-at.result (omega arith) c.loop-at.invariant c.index-args-at.is c.in_ok-gen_argument.ensures

pub gen_read-loop-at-init : goal.gen_read-loop-at-init
gen_read-loop-at-init t c =
    rows_begin join_target c.args.core.now c.args.place reading_of c.args.readings.now (length c.args.readings.now) _ refl

pub gen_read-loop-at-preserved : goal.gen_read-loop-at-preserved
gen_read-loop-at-preserved t c =
    rows_step reading_of c.args.readings.now c.loop-at.at c.index-readings-at.result (omega arith) c.loop-at.invariant c.index-readings-at.is c.in_ok-gen_reading.ensures

pub gen_steps-loop-at-init : goal.gen_steps-loop-at-init
gen_steps-loop-at-init t c =
    rows_begin join_sel c.args.core.now c.args.place step_of_expr c.args.steps.now (length c.args.steps.now) _ refl

pub gen_steps-loop-at-preserved : goal.gen_steps-loop-at-preserved
gen_steps-loop-at-preserved t c =
    rows_step step_of_expr c.args.steps.now c.loop-at.at c.index-steps-at.result (omega arith) c.loop-at.invariant c.index-steps-at.is c.in_ok-gen_step.ensures

pub gen_list-returns : goal.gen_list-returns
gen_list-returns t c =
    gives_list (map expr_meaning c.args.exprs.now) c.in_ok-emit-2.ensures (rows_all expr_meaning c.args.exprs.now c.loop-at.at (omega arith) c.loop-at.invariant.1)

pub gen_array-returns : goal.gen_array-returns
gen_array-returns t c =
    gives_array (map part_of_expr c.args.parts.now) c.in_ok-emit.ensures (rows_all part_of_expr c.args.parts.now c.loop-at.at (omega arith) c.loop-at.invariant.1) c.in_ok-emit-2.ensures

pub gen_arguments-returns : goal.gen_arguments-returns
gen_arguments-returns t c =
    rows_all argument_of c.args.args.now c.loop-at.at (omega arith) c.loop-at.invariant.1

pub gen_read-returns : goal.gen_read-returns
gen_read-returns t c =
    gives_read (map reading_of c.args.readings.now) (c.in_ok-gen_reads.ensures c.args.core.now) (rows_all reading_of c.args.readings.now c.loop-at.at (omega arith) c.loop-at.invariant.1) c.in_ok-emit.ensures

pub gen_steps-returns : goal.gen_steps-returns
gen_steps-returns t c =
    rows_all step_of_expr c.args.steps.now c.loop-at.at (omega arith) c.loop-at.invariant.1
