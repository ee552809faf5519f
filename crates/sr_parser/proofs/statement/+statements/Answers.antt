-- What is left of the readers of statements: the field of the record of readers, and loops.
use Rattle.std.proofs.Common.{refl, sym, ◌∙◌, subst, Bool, List, Option, arith}
use Rattle.std.proofs.lemmas.Result.{err_from_is_err_and}
use Rattle.std.specs.Borrow.{Bor}
use Rattle.sr_tree.specs.declared.statement.Arm.{Arm}
use Rattle.sr_tree.specs.declared.statement.BlockItem.{BlockItem}
use Rattle.sr_tree.specs.declared.statement.Branch.{Branch}
use Rattle.sr_tree.specs.declared.statement.CoArm.{CoArm}
use Rattle.sr_tree.specs.declared.token.Token.{Token}
use Rattle.sr_expr_reader.proofs.Yields.{steps-readers}
use Rattle.sr_parse_tokens.specs.Gives.{Gives}
use Rattle.sr_parse_expr.proofs.Loops.{leads-step, leads-fail, leads-end}
use Rattle.sr_program_reader.specs.DeclarationReaders.{items_at, may_go_on, next_item_at}
use Rattle.sr_program_reader.specs.StatementReaders.{arm_at, begins_block_item, block_item_at, branch_at, is_alternative, is_parallel, more_co_arms_at, next_alternative_at, next_co_arm_at, statement_readers}
use Rattle.sr_parser.proofs.Fields.{below_block}
use Rattle.sr_parser.proofs.ArmSplits.{arm-splits, co-splits}
use Rattle.sr_parser.proofs.statement.+statements.Goals as goal

pub block_after-returns-clause-reads : goal.block_after-returns-clause-reads
block_after-returns-clause-reads t c = below_block _ _ _ c.block.ensures.reads

pub arm-returns-clause-reads : goal.arm-returns-clause-reads
arm-returns-clause-reads t c = λ k h.
    subst (λ z. Gives (λ (x : Arm × Bor (List Token)). (x.0, x.1.now)) c.split_arm.result z) (arm-splits (statement_readers k) c.args.tokens.now)
    (c.split_arm.ensures.reads k h)

pub co_arm-returns-clause-reads : goal.co_arm-returns-clause-reads
co_arm-returns-clause-reads t c = λ k h.
    subst (λ z. Gives (λ (x : CoArm × Bor (List Token)). (x.0, x.1.now)) c.split_co_arm.result z) (co-splits (statement_readers k) c.args.tokens.now)
    (c.split_co_arm.ensures.reads k h)

pub more_branches-more-preserved : goal.more_branches-more-preserved
more_branches-more-preserved t c = record {
  shorter = omega (arith, c.in_ok-more.ensures.shorter, c.more.invariant.shorter);
  leads = leads-step statement_readers (λ r. r.types.expressions.steps) steps-readers (λ (x : (List Branch × Option (List BlockItem)) × Bor (List Token)). (x.0, x.1.now)) is_alternative (λ r. next_alternative_at r (branch_at r)) c.args.first c.args.tokens.now c.more.state c.more.rest.now c.more.invariant.leads c.more.invariant.shorter
      (c.in_ok-more.more, c.in_ok-more.after) (sym c.next_is_alternative.ensures ∙ c.more-test.true) c.in_ok-more.ensures.reads c.in_ok-more.ensures.shorter;
}

pub more_branches-returns-in_err-more-clause-reads : goal.more_branches-returns-in_err-more-clause-reads
more_branches-returns-in_err-more-clause-reads t c =
    let p = err_from_is_err_and c.from_residual.result c.from_residual.ensures.1 in
    rw (p.1, p.2)
    (leads-fail statement_readers (λ r. r.types.expressions.steps) steps-readers (λ (x : (List Branch × Option (List BlockItem)) × Bor (List Token)). (x.0, x.1.now)) is_alternative (λ r. next_alternative_at r (branch_at r)) c.args.first c.args.tokens.now c.more.state c.more.rest.now c.more.invariant.leads c.more.invariant.shorter
    c.in_err-more.field-0.0 (sym c.next_is_alternative.ensures ∙ c.more-test.true) c.in_err-more.ensures.reads)

pub more_branches-returns-clause-reads : goal.more_branches-returns-clause-reads
more_branches-returns-clause-reads t c =
    leads-end statement_readers (λ r. r.types.expressions.steps) steps-readers (λ (x : (List Branch × Option (List BlockItem)) × Bor (List Token)). (x.0, x.1.now)) is_alternative (λ r. next_alternative_at r (branch_at r)) c.args.first c.args.tokens.now c.more.state c.more.rest.now c.more.invariant.leads c.more.invariant.shorter
    (c.more.state, c.more.rest) refl (sym c.next_is_alternative.ensures ∙ c.more-test.false)

pub more_arms-more-preserved : goal.more_arms-more-preserved
more_arms-more-preserved t c = record {
  shorter = omega (arith, c.in_ok-more.ensures.shorter, c.more.invariant.shorter);
  leads = leads-step statement_readers (λ r. r.types.expressions.steps) steps-readers (λ (x : (List Arm × Option (List BlockItem)) × Bor (List Token)). (x.0, x.1.now)) is_alternative (λ r. next_alternative_at r (arm_at r)) c.args.first c.args.tokens.now c.more.state c.more.rest.now c.more.invariant.leads c.more.invariant.shorter
      (c.in_ok-more.more, c.in_ok-more.after) (sym c.next_is_alternative.ensures ∙ c.more-test.true) c.in_ok-more.ensures.reads c.in_ok-more.ensures.shorter;
}

pub more_arms-returns-in_err-more-clause-reads : goal.more_arms-returns-in_err-more-clause-reads
more_arms-returns-in_err-more-clause-reads t c =
    let p = err_from_is_err_and c.from_residual.result c.from_residual.ensures.1 in
    rw (p.1, p.2)
    (leads-fail statement_readers (λ r. r.types.expressions.steps) steps-readers (λ (x : (List Arm × Option (List BlockItem)) × Bor (List Token)). (x.0, x.1.now)) is_alternative (λ r. next_alternative_at r (arm_at r)) c.args.first c.args.tokens.now c.more.state c.more.rest.now c.more.invariant.leads c.more.invariant.shorter
    c.in_err-more.field-0.0 (sym c.next_is_alternative.ensures ∙ c.more-test.true) c.in_err-more.ensures.reads)

pub more_arms-returns-clause-reads : goal.more_arms-returns-clause-reads
more_arms-returns-clause-reads t c =
    leads-end statement_readers (λ r. r.types.expressions.steps) steps-readers (λ (x : (List Arm × Option (List BlockItem)) × Bor (List Token)). (x.0, x.1.now)) is_alternative (λ r. next_alternative_at r (arm_at r)) c.args.first c.args.tokens.now c.more.state c.more.rest.now c.more.invariant.leads c.more.invariant.shorter
    (c.more.state, c.more.rest) refl (sym c.next_is_alternative.ensures ∙ c.more-test.false)

pub more_co_arms-more-preserved : goal.more_co_arms-more-preserved
more_co_arms-more-preserved t c = record {
  shorter = omega (arith, c.in_ok-more.ensures.shorter, c.more.invariant.shorter);
  leads = leads-step statement_readers (λ r. r.types.expressions.steps) steps-readers (λ (x : List CoArm × Bor (List Token)). (x.0, x.1.now)) is_parallel next_co_arm_at c.args.first c.args.tokens.now c.more.arms c.more.rest.now c.more.invariant.leads c.more.invariant.shorter
      (c.in_ok-more.more, c.in_ok-more.after) (sym c.next_is_sign.ensures ∙ c.more-test.true) c.in_ok-more.ensures.reads c.in_ok-more.ensures.shorter;
}

pub more_co_arms-returns-in_err-more-clause-reads : goal.more_co_arms-returns-in_err-more-clause-reads
unfolding more_co_arms_at
more_co_arms-returns-in_err-more-clause-reads t c =
    let p = err_from_is_err_and c.from_residual.result c.from_residual.ensures.1 in
    rw (p.1, p.2)
    (leads-fail statement_readers (λ r. r.types.expressions.steps) steps-readers (λ (x : List CoArm × Bor (List Token)). (x.0, x.1.now)) is_parallel next_co_arm_at c.args.first c.args.tokens.now c.more.arms c.more.rest.now c.more.invariant.leads c.more.invariant.shorter
    c.in_err-more.field-0.0 (sym c.next_is_sign.ensures ∙ c.more-test.true) c.in_err-more.ensures.reads)

pub more_co_arms-returns-clause-reads : goal.more_co_arms-returns-clause-reads
unfolding more_co_arms_at
more_co_arms-returns-clause-reads t c =
    leads-end statement_readers (λ r. r.types.expressions.steps) steps-readers (λ (x : List CoArm × Bor (List Token)). (x.0, x.1.now)) is_parallel next_co_arm_at c.args.first c.args.tokens.now c.more.arms c.more.rest.now c.more.invariant.leads c.more.invariant.shorter
    (c.more.arms, c.more.rest) refl (sym c.next_is_sign.ensures ∙ c.more-test.false)

pub items-more-preserved : goal.items-more-preserved
items-more-preserved t c = record {
  shorter = omega (arith, c.in_ok-more.ensures.shorter, c.more.invariant.shorter);
  leads = leads-step statement_readers (λ r. r.types.expressions.steps) steps-readers (λ (x : (List BlockItem × Bool) × Bor (List Token)). (x.0, x.1.now)) (may_go_on (λ t. begins_block_item t.kind)) (λ r. next_item_at (block_item_at r)) c.args.first c.args.tokens.now c.more.state c.more.rest.now c.more.invariant.leads c.more.invariant.shorter
      (c.in_ok-more.more, c.in_ok-more.after) (sym c.next_goes_on.ensures ∙ c.more-test.true) c.in_ok-more.ensures.reads c.in_ok-more.ensures.shorter;
}

pub items-returns-in_err-more-clause-reads : goal.items-returns-in_err-more-clause-reads
unfolding items_at
items-returns-in_err-more-clause-reads t c =
    let p = err_from_is_err_and c.from_residual.result c.from_residual.ensures.1 in
    rw (p.1, p.2)
    (leads-fail statement_readers (λ r. r.types.expressions.steps) steps-readers (λ (x : (List BlockItem × Bool) × Bor (List Token)). (x.0, x.1.now)) (may_go_on (λ t. begins_block_item t.kind)) (λ r. next_item_at (block_item_at r)) c.args.first c.args.tokens.now c.more.state c.more.rest.now c.more.invariant.leads c.more.invariant.shorter
    c.in_err-more.field-0.0 (sym c.next_goes_on.ensures ∙ c.more-test.true) c.in_err-more.ensures.reads)

pub items-returns-clause-reads : goal.items-returns-clause-reads
unfolding items_at
items-returns-clause-reads t c =
    leads-end statement_readers (λ r. r.types.expressions.steps) steps-readers (λ (x : (List BlockItem × Bool) × Bor (List Token)). (x.0, x.1.now)) (may_go_on (λ t. begins_block_item t.kind)) (λ r. next_item_at (block_item_at r)) c.args.first c.args.tokens.now c.more.state c.more.rest.now c.more.invariant.leads c.more.invariant.shorter
    (c.more.state, c.more.rest) refl (sym c.next_goes_on.ensures ∙ c.more-test.false)
