-- What the loop gives is what its reader gives.
use Rattle.std.proofs.Common.{refl, sym, ◌∙◌, arith}
use Rattle.std.proofs.lemmas.Result.{err_from_is_err_and}
use Rattle.std.specs.Borrow.{Bor}
use Rattle.sr_expr_reader.specs.Readers.{is_comma}
use Rattle.sr_parse_expr.proofs.Loops.{leads-step, leads-fail, leads-end}
use Rattle.sr_parser.specs.Commas.{more_at, next_at}
use Rattle.sr_parser.proofs.commas.more.Goals as goal

-- what was read, and the tokens after it
abbrev tree_and_rest : {A B : Type 0} → A × Bor B → A × B
tree_and_rest x = (x.0, x.1.now)

pub more-preserved : goal.more-preserved
more-preserved g c = record {
  shorter = omega (arith, c.in_ok-more.ensures.shorter, c.more.invariant.shorter);
  leads = leads-step (λ k. k) g.L.Joined.steps g.met.L.Joined.bounded tree_and_rest is_comma (λ k. next_at (g.L.Joined.reader k)) c.args.first c.args.tokens.now c.more.items c.more.rest.now c.more.invariant.leads c.more.invariant.shorter
      (c.in_ok-more.more, c.in_ok-more.after) (sym c.next_is_sign.ensures ∙ c.more-test.true) c.in_ok-more.ensures.reads c.in_ok-more.ensures.shorter;
}

pub returns-in_err-more-clause-reads : goal.returns-in_err-more-clause-reads
unfolding more_at
returns-in_err-more-clause-reads g c =
    let p = err_from_is_err_and c.from_residual.result c.from_residual.ensures.1 in
    rw (p.1, p.2)
    (leads-fail (λ k. k) g.L.Joined.steps g.met.L.Joined.bounded tree_and_rest is_comma (λ k. next_at (g.L.Joined.reader k)) c.args.first c.args.tokens.now c.more.items c.more.rest.now c.more.invariant.leads c.more.invariant.shorter
    c.in_err-more.field-0.0 (sym c.next_is_sign.ensures ∙ c.more-test.true) c.in_err-more.ensures.reads)

pub returns-clause-reads : goal.returns-clause-reads
unfolding more_at
returns-clause-reads g c =
    leads-end (λ k. k) g.L.Joined.steps g.met.L.Joined.bounded tree_and_rest is_comma (λ k. next_at (g.L.Joined.reader k)) c.args.first c.args.tokens.now c.more.items c.more.rest.now c.more.invariant.leads c.more.invariant.shorter
    (c.more.items, c.more.rest) refl (sym c.next_is_sign.ensures ∙ c.more-test.false)
