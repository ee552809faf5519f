-- What is left of the readers of types: the field of the record of readers, and the loop.
use Rattle.std.proofs.Common.{refl, sym, ◌∙◌, List, arith}
use Rattle.std.proofs.lemmas.Result.{err_from_is_err_and}
use Rattle.std.specs.Borrow.{Bor}
use Rattle.sr_tree.specs.declared.token.Token.{Token}
use Rattle.sr_tree.specs.declared.types.Formal.{Formal}
use Rattle.sr_tree.specs.declared.types.TypePlace.TheVariants.{Declaration}
use Rattle.sr_expr_reader.specs.TypeReaders.{is_separated, more_fields_at, more_formals_at, next_field_at, next_formal_at}
use Rattle.sr_expr_reader.proofs.TypePieces.{readers_in}
use Rattle.sr_expr_reader.proofs.Yields.{steps-readers}
use Rattle.sr_parse_expr.proofs.Fields.{below_declared, below_nested}
use Rattle.sr_parse_expr.proofs.Loops.{leads-step, leads-fail, leads-end}
use Rattle.sr_parse_expr.proofs.types.+types.Goals as goal

pub nested_type-returns-in-Declaration-clause-reads : goal.nested_type-returns-in-Declaration-clause-reads
nested_type-returns-in-Declaration-clause-reads t c = below_declared _ _ _ c.args.place c.in-Declaration.is c.type_tree.ensures.reads

pub nested_type-returns-in-Elsewhere-clause-reads : goal.nested_type-returns-in-Elsewhere-clause-reads
nested_type-returns-in-Elsewhere-clause-reads t c = below_nested _ _ _ c.args.place c.in-Elsewhere.is c.plain_type_in.ensures.reads

pub more_formals-more-preserved : goal.more_formals-more-preserved
more_formals-more-preserved t c = record {
  shorter = omega (arith, c.in_ok-more.ensures.shorter, c.more.invariant.shorter);
  leads = leads-step (readers_in c.args.place) (λ r. r.expressions.steps) steps-readers (λ (x : List Formal × Bor (List Token)). (x.0, x.1.now)) is_separated next_formal_at c.args.first c.args.tokens.now c.more.formals c.more.rest.now c.more.invariant.leads c.more.invariant.shorter
      (c.in_ok-more.more, c.in_ok-more.after) (sym c.next_is_separator.ensures ∙ c.more-test.true) c.in_ok-more.ensures.reads c.in_ok-more.ensures.shorter;
}

pub more_formals-returns-in_err-more-clause-reads : goal.more_formals-returns-in_err-more-clause-reads
unfolding more_formals_at
more_formals-returns-in_err-more-clause-reads t c =
    let p = err_from_is_err_and c.from_residual.result c.from_residual.ensures.1 in
    rw (p.1, p.2)
    (leads-fail (readers_in c.args.place) (λ r. r.expressions.steps) steps-readers (λ (x : List Formal × Bor (List Token)). (x.0, x.1.now)) is_separated next_formal_at c.args.first c.args.tokens.now c.more.formals c.more.rest.now c.more.invariant.leads c.more.invariant.shorter
    c.in_err-more.field-0.0 (sym c.next_is_separator.ensures ∙ c.more-test.true) c.in_err-more.ensures.reads)

pub more_formals-returns-clause-reads : goal.more_formals-returns-clause-reads
unfolding more_formals_at
more_formals-returns-clause-reads t c =
    leads-end (readers_in c.args.place) (λ r. r.expressions.steps) steps-readers (λ (x : List Formal × Bor (List Token)). (x.0, x.1.now)) is_separated next_formal_at c.args.first c.args.tokens.now c.more.formals c.more.rest.now c.more.invariant.leads c.more.invariant.shorter
    (c.more.formals, c.more.rest) refl (sym c.next_is_separator.ensures ∙ c.more-test.false)

pub more_fields-more-preserved : goal.more_fields-more-preserved
more_fields-more-preserved t c = record {
  shorter = omega (arith, c.in_ok-more.ensures.shorter, c.more.invariant.shorter);
  leads = leads-step (readers_in Declaration) (λ r. r.expressions.steps) steps-readers (λ (x : List Formal × Bor (List Token)). (x.0, x.1.now)) is_separated next_field_at c.args.first c.args.tokens.now c.more.fields c.more.rest.now c.more.invariant.leads c.more.invariant.shorter
      (c.in_ok-more.more, c.in_ok-more.after) (sym c.next_is_separator.ensures ∙ c.more-test.true) c.in_ok-more.ensures.reads c.in_ok-more.ensures.shorter;
}

pub more_fields-returns-in_err-more-clause-reads : goal.more_fields-returns-in_err-more-clause-reads
unfolding more_fields_at
more_fields-returns-in_err-more-clause-reads t c =
    let p = err_from_is_err_and c.from_residual.result c.from_residual.ensures.1 in
    rw (p.1, p.2)
    (leads-fail (readers_in Declaration) (λ r. r.expressions.steps) steps-readers (λ (x : List Formal × Bor (List Token)). (x.0, x.1.now)) is_separated next_field_at c.args.first c.args.tokens.now c.more.fields c.more.rest.now c.more.invariant.leads c.more.invariant.shorter
    c.in_err-more.field-0.0 (sym c.next_is_separator.ensures ∙ c.more-test.true) c.in_err-more.ensures.reads)

pub more_fields-returns-clause-reads : goal.more_fields-returns-clause-reads
unfolding more_fields_at
more_fields-returns-clause-reads t c =
    leads-end (readers_in Declaration) (λ r. r.expressions.steps) steps-readers (λ (x : List Formal × Bor (List Token)). (x.0, x.1.now)) is_separated next_field_at c.args.first c.args.tokens.now c.more.fields c.more.rest.now c.more.invariant.leads c.more.invariant.shorter
    (c.more.fields, c.more.rest) refl (sym c.next_is_separator.ensures ∙ c.more-test.false)
