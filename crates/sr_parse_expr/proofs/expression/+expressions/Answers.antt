-- What is left of the readers of expressions: fields of the record of readers, and loops.
use Rattle.std.proofs.Common.{refl, sym, ◌∙◌, subst, List, arith}
use Rattle.std.proofs.lemmas.Result.{err_from_is_err_and}
use Rattle.std.specs.Borrow.{Bor}
use Rattle.sr_tree.specs.declared.expr.Expr.{Expr}
use Rattle.sr_tree.specs.declared.expr.Part.{Part}
use Rattle.sr_tree.specs.declared.token.Token.{Token}
use Rattle.sr_tree.specs.Tables.{right_level}
use Rattle.sr_expr_reader.specs.Readers.{is_comma, is_operator, is_suffix, more_arguments_at, more_parts_at, next_argument_at, next_part_at, operand_at, operation_at, operators_at, readers, suffix_at, suffixes_at}
use Rattle.sr_expr_reader.proofs.Yields.{steps-readers}
use Rattle.sr_parse_expr.specs.Reads.{ReadsUpTo}
use Rattle.sr_parse_expr.proofs.Fields.{below_operand, below_factor, below_primary}
use Rattle.sr_parse_expr.proofs.Loops.{leads-step, leads-fail, leads-end}
use Rattle.sr_parse_expr.proofs.expression.+expressions.Goals as goal

pub expression-returns-clause-reads : goal.expression-returns-clause-reads
expression-returns-clause-reads t c = below_operand _ _ _ 5 c.operand.ensures.reads

pub right_operand-returns-clause-reads : goal.right_operand-returns-clause-reads
right_operand-returns-clause-reads t c =
    below_operand (λ x. (x.0, x.1.now)) c.args.tokens.now c.operand.result (right_level c.args.operator)
    (subst (λ n. ReadsUpTo (λ x. (x.0, x.1.now)) c.args.tokens.now c.operand.result (λ r. operand_at r n)) c.level_to_the_right.ensures c.operand.ensures.reads)

pub signed_factor-returns-clause-reads : goal.signed_factor-returns-clause-reads
signed_factor-returns-clause-reads t c = below_factor _ _ _ c.factor.ensures.reads

pub host-returns-clause-reads : goal.host-returns-clause-reads
host-returns-clause-reads t c = below_primary _ _ _ c.primary.ensures.reads

pub operators-more-preserved : goal.operators-more-preserved
operators-more-preserved t c = record {
  shorter = omega (arith, c.in_ok-whole.ensures.shorter, c.more.invariant.shorter);
  leads = leads-step readers (λ r. r.steps) steps-readers (λ (x : Expr × Bor (List Token)). (x.0, x.1.now)) (is_operator c.args.limit) operation_at c.args.first c.args.tokens.now c.more.left c.more.rest.now c.more.invariant.leads c.more.invariant.shorter
      (c.in_ok-whole.whole, c.in_ok-whole.after) (sym c.next_is_operator.ensures ∙ c.more-test.true) c.in_ok-whole.ensures.reads c.in_ok-whole.ensures.shorter;
}

pub operators-returns-in_err-whole-clause-reads : goal.operators-returns-in_err-whole-clause-reads
unfolding operators_at
operators-returns-in_err-whole-clause-reads t c =
    let p = err_from_is_err_and c.from_residual.result c.from_residual.ensures.1 in
    rw (p.1, p.2)
    (leads-fail readers (λ r. r.steps) steps-readers (λ (x : Expr × Bor (List Token)). (x.0, x.1.now)) (is_operator c.args.limit) operation_at c.args.first c.args.tokens.now c.more.left c.more.rest.now c.more.invariant.leads c.more.invariant.shorter
    c.in_err-whole.field-0.0 (sym c.next_is_operator.ensures ∙ c.more-test.true) c.in_err-whole.ensures.reads)

pub operators-returns-clause-reads : goal.operators-returns-clause-reads
unfolding operators_at
operators-returns-clause-reads t c =
    leads-end readers (λ r. r.steps) steps-readers (λ (x : Expr × Bor (List Token)). (x.0, x.1.now)) (is_operator c.args.limit) operation_at c.args.first c.args.tokens.now c.more.left c.more.rest.now c.more.invariant.leads c.more.invariant.shorter
    (c.more.left, c.more.rest) refl (sym c.next_is_operator.ensures ∙ c.more-test.false)

pub more_parts-more-preserved : goal.more_parts-more-preserved
more_parts-more-preserved t c = record {
  shorter = omega (arith, c.in_ok-more.ensures.shorter, c.more.invariant.shorter);
  leads = leads-step readers (λ r. r.steps) steps-readers (λ (x : List Part × Bor (List Token)). (x.0, x.1.now)) is_comma next_part_at c.args.first c.args.tokens.now c.more.parts c.more.rest.now c.more.invariant.leads c.more.invariant.shorter
      (c.in_ok-more.more, c.in_ok-more.after) (sym c.next_is_sign.ensures ∙ c.more-test.true) c.in_ok-more.ensures.reads c.in_ok-more.ensures.shorter;
}

pub more_parts-returns-in_err-more-clause-reads : goal.more_parts-returns-in_err-more-clause-reads
unfolding more_parts_at
more_parts-returns-in_err-more-clause-reads t c =
    let p = err_from_is_err_and c.from_residual.result c.from_residual.ensures.1 in
    rw (p.1, p.2)
    (leads-fail readers (λ r. r.steps) steps-readers (λ (x : List Part × Bor (List Token)). (x.0, x.1.now)) is_comma next_part_at c.args.first c.args.tokens.now c.more.parts c.more.rest.now c.more.invariant.leads c.more.invariant.shorter
    c.in_err-more.field-0.0 (sym c.next_is_sign.ensures ∙ c.more-test.true) c.in_err-more.ensures.reads)

pub more_parts-returns-clause-reads : goal.more_parts-returns-clause-reads
unfolding more_parts_at
more_parts-returns-clause-reads t c =
    leads-end readers (λ r. r.steps) steps-readers (λ (x : List Part × Bor (List Token)). (x.0, x.1.now)) is_comma next_part_at c.args.first c.args.tokens.now c.more.parts c.more.rest.now c.more.invariant.leads c.more.invariant.shorter
    (c.more.parts, c.more.rest) refl (sym c.next_is_sign.ensures ∙ c.more-test.false)

pub suffixes-more-preserved : goal.suffixes-more-preserved
suffixes-more-preserved t c = record {
  shorter = omega (arith, c.in_ok-whole.ensures.shorter, c.more.invariant.shorter);
  leads = leads-step readers (λ r. r.steps) steps-readers (λ (x : Expr × Bor (List Token)). (x.0, x.1.now)) is_suffix suffix_at c.args.start c.args.tokens.now c.more.primary c.more.rest.now c.more.invariant.leads c.more.invariant.shorter
      (c.in_ok-whole.whole, c.in_ok-whole.after) (sym c.next_is_suffix.ensures ∙ c.more-test.true) c.in_ok-whole.ensures.reads c.in_ok-whole.ensures.shorter;
}

pub suffixes-returns-in_err-whole-clause-reads : goal.suffixes-returns-in_err-whole-clause-reads
unfolding suffixes_at
suffixes-returns-in_err-whole-clause-reads t c =
    let p = err_from_is_err_and c.from_residual.result c.from_residual.ensures.1 in
    rw (p.1, p.2)
    (leads-fail readers (λ r. r.steps) steps-readers (λ (x : Expr × Bor (List Token)). (x.0, x.1.now)) is_suffix suffix_at c.args.start c.args.tokens.now c.more.primary c.more.rest.now c.more.invariant.leads c.more.invariant.shorter
    c.in_err-whole.field-0.0 (sym c.next_is_suffix.ensures ∙ c.more-test.true) c.in_err-whole.ensures.reads)

pub suffixes-returns-clause-reads : goal.suffixes-returns-clause-reads
unfolding suffixes_at
suffixes-returns-clause-reads t c =
    leads-end readers (λ r. r.steps) steps-readers (λ (x : Expr × Bor (List Token)). (x.0, x.1.now)) is_suffix suffix_at c.args.start c.args.tokens.now c.more.primary c.more.rest.now c.more.invariant.leads c.more.invariant.shorter
    (c.more.primary, c.more.rest) refl (sym c.next_is_suffix.ensures ∙ c.more-test.false)

pub more_arguments-more-preserved : goal.more_arguments-more-preserved
more_arguments-more-preserved t c = record {
  shorter = omega (arith, c.in_ok-more.ensures.shorter, c.more.invariant.shorter);
  leads = leads-step readers (λ r. r.steps) steps-readers (λ (x : List Expr × Bor (List Token)). (x.0, x.1.now)) is_comma next_argument_at c.args.first c.args.tokens.now c.more.arguments c.more.rest.now c.more.invariant.leads c.more.invariant.shorter
      (c.in_ok-more.more, c.in_ok-more.after) (sym c.next_is_sign.ensures ∙ c.more-test.true) c.in_ok-more.ensures.reads c.in_ok-more.ensures.shorter;
}

pub more_arguments-returns-in_err-more-clause-reads : goal.more_arguments-returns-in_err-more-clause-reads
unfolding more_arguments_at
more_arguments-returns-in_err-more-clause-reads t c =
    let p = err_from_is_err_and c.from_residual.result c.from_residual.ensures.1 in
    rw (p.1, p.2)
    (leads-fail readers (λ r. r.steps) steps-readers (λ (x : List Expr × Bor (List Token)). (x.0, x.1.now)) is_comma next_argument_at c.args.first c.args.tokens.now c.more.arguments c.more.rest.now c.more.invariant.leads c.more.invariant.shorter
    c.in_err-more.field-0.0 (sym c.next_is_sign.ensures ∙ c.more-test.true) c.in_err-more.ensures.reads)

pub more_arguments-returns-clause-reads : goal.more_arguments-returns-clause-reads
unfolding more_arguments_at
more_arguments-returns-clause-reads t c =
    leads-end readers (λ r. r.steps) steps-readers (λ (x : List Expr × Bor (List Token)). (x.0, x.1.now)) is_comma next_argument_at c.args.first c.args.tokens.now c.more.arguments c.more.rest.now c.more.invariant.leads c.more.invariant.shorter
    (c.more.arguments, c.more.rest) refl (sym c.next_is_sign.ensures ∙ c.more-test.false)
