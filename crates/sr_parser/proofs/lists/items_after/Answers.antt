-- What the loop gives is what its reader gives.
use Rattle.std.proofs.Common.{refl, sym, ◌∙◌, arith}
use Rattle.std.proofs.lemmas.Result.{err_from_is_err_and}
use Rattle.std.specs.Borrow.{Bor}
use Rattle.sr_parse_expr.proofs.Loops.{leads-step, leads-fail, leads-end}
use Rattle.sr_program_reader.specs.DeclarationReaders.{items_at, may_go_on, next_item_at}
use Rattle.sr_parser.proofs.lists.items_after.Goals as goal

-- what was read, and the tokens after it
abbrev tree_and_rest : {A B : Type 0} → A × Bor B → A × B
tree_and_rest x = (x.0, x.1.now)

pub more-preserved : goal.more-preserved
more-preserved g c = record {
  shorter = omega (arith, c.in_ok-more.ensures.shorter, c.more.invariant.shorter);
  leads = leads-step (λ k. k) g.L.Listed.steps g.met.L.Listed.bounded tree_and_rest (may_go_on g.L.Listed.begins) (λ k. next_item_at (g.L.Listed.reader k)) c.args.first c.args.tokens.now c.more.state c.more.rest.now c.more.invariant.leads c.more.invariant.shorter
      (c.in_ok-more.more, c.in_ok-more.after) (sym c.goes_on.ensures ∙ c.more-test.true) c.in_ok-more.ensures.reads c.in_ok-more.ensures.shorter;
}

pub returns-in_err-more-clause-reads : goal.returns-in_err-more-clause-reads
unfolding items_at
returns-in_err-more-clause-reads g c =
    let p = err_from_is_err_and c.from_residual.result c.from_residual.ensures.1 in
    rw (p.1, p.2)
    (leads-fail (λ k. k) g.L.Listed.steps g.met.L.Listed.bounded tree_and_rest (may_go_on g.L.Listed.begins) (λ k. next_item_at (g.L.Listed.reader k)) c.args.first c.args.tokens.now c.more.state c.more.rest.now c.more.invariant.leads c.more.invariant.shorter
    c.in_err-more.field-0.0 (sym c.goes_on.ensures ∙ c.more-test.true) c.in_err-more.ensures.reads)

pub returns-clause-reads : goal.returns-clause-reads
unfolding items_at
returns-clause-reads g c =
    leads-end (λ k. k) g.L.Listed.steps g.met.L.Listed.bounded tree_and_rest (may_go_on g.L.Listed.begins) (λ k. next_item_at (g.L.Listed.reader k)) c.args.first c.args.tokens.now c.more.state c.more.rest.now c.more.invariant.leads c.more.invariant.shorter
    (c.more.state, c.more.rest) refl (sym c.goes_on.ensures ∙ c.more-test.false)
