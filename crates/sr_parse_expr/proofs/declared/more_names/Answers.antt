-- What the loop gives is what its reader gives.
use Rattle.std.proofs.Common.{refl, sym, ◌∙◌, List, arith}
use Rattle.std.proofs.lemmas.Result.{err_from_is_err_and}
use Rattle.std.specs.Borrow.{Bor}
use Rattle.sr_tree.specs.declared.name.Name.{Name}
use Rattle.sr_tree.specs.declared.token.Token.{Token}
use Rattle.sr_expr_reader.specs.Readers.{is_comma}
use Rattle.sr_expr_reader.specs.Readers.{readers}
use Rattle.sr_expr_reader.specs.TypeReaders.{more_names_at, next_name_at}
use Rattle.sr_expr_reader.proofs.Yields.{steps-readers}
use Rattle.sr_parse_expr.proofs.Loops.{leads-step, leads-fail, leads-end}
use Rattle.sr_parse_expr.proofs.declared.more_names.Goals as goal

pub more-preserved : goal.more-preserved
more-preserved c = record {
  shorter = omega (arith, c.in_ok-more.ensures.shorter, c.more.invariant.shorter);
  leads = leads-step readers (λ r. r.steps) steps-readers (λ (x : List Name × Bor (List Token)). (x.0, x.1.now)) is_comma (λ r. next_name_at) c.args.first c.args.tokens.now c.more.names c.more.rest.now c.more.invariant.leads c.more.invariant.shorter
      (c.in_ok-more.more, c.in_ok-more.after) (sym c.next_is_sign.ensures ∙ c.more-test.true) c.in_ok-more.ensures.reads c.in_ok-more.ensures.shorter;
}

pub returns-in_err-more-clause-reads : goal.returns-in_err-more-clause-reads
unfolding more_names_at
returns-in_err-more-clause-reads c =
    let p = err_from_is_err_and c.from_residual.result c.from_residual.ensures.1 in
    rw (p.1, p.2)
    (leads-fail readers (λ r. r.steps) steps-readers (λ (x : List Name × Bor (List Token)). (x.0, x.1.now)) is_comma (λ r. next_name_at) c.args.first c.args.tokens.now c.more.names c.more.rest.now c.more.invariant.leads c.more.invariant.shorter
    c.in_err-more.field-0.0 (sym c.next_is_sign.ensures ∙ c.more-test.true) c.in_err-more.ensures.reads)

pub returns-clause-reads : goal.returns-clause-reads
unfolding more_names_at
returns-clause-reads c =
    leads-end readers (λ r. r.steps) steps-readers (λ (x : List Name × Bor (List Token)). (x.0, x.1.now)) is_comma (λ r. next_name_at) c.args.first c.args.tokens.now c.more.names c.more.rest.now c.more.invariant.leads c.more.invariant.shorter
    (c.more.names, c.more.rest) refl (sym c.next_is_sign.ensures ∙ c.more-test.false)
