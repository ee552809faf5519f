-- A call, and a `receive`, by the names in them.
use Rattle.std.proofs.Common.{◌≡◌, ◌++◌, ◌∙◌, IfOk, OnOk, sym, ap, subst}
use Rattle.sr_core.specs.declared.statement.Statement.{Statement}
use Rattle.sr_tree.specs.declared.statement.Statement.TheVariants as variant
use Rattle.sr_desugar.specs.Statements.{WithSites, core_statement}
use Rattle.sr_desugar.proofs.Sent.{call_is, receive_is}
use Rattle.sr_desugar.proofs.statements.+statements.Goals as goal

pub statement-returns-in-Call-clause-value : goal.statement-returns-in-Call-clause-value
statement-returns-in-Call-clause-value t c =
    subst (λ (made : WithSites Statement). IfOk c.call_statement.result (λ statement. statement ≡ made.made))
    (sym (call_is c.args.scene.now c.in-Call.span c.in-Call.with_call c.in-Call.invocation) ∙ ap (λ tree. core_statement c.args.scene.now tree) (sym c.in-Call.is))
    c.call_statement.ensures.value

pub statement-returns-in-Call-clause-sites : goal.statement-returns-in-Call-clause-sites
statement-returns-in-Call-clause-sites t c =
    subst (λ (made : WithSites Statement). OnOk c.call_statement.result (c.call_statement.new.sites ≡ c.args.sites.now ++ made.sites))
    (sym (call_is c.args.scene.now c.in-Call.span c.in-Call.with_call c.in-Call.invocation) ∙ ap (λ tree. core_statement c.args.scene.now tree) (sym c.in-Call.is))
    c.call_statement.ensures.sites

pub statement-returns-in-Receive-clause-sites : goal.statement-returns-in-Receive-clause-sites
statement-returns-in-Receive-clause-sites t c =
    subst (λ (made : WithSites Statement). OnOk c.receive_named.result (c.receive_named.new.sites ≡ c.args.sites.now ++ made.sites))
    (sym (receive_is c.args.scene.now c.in-Receive.span c.in-Receive.operation c.as_slice.result.now)
    ∙ ap (λ places. core_statement c.args.scene.now (variant.Receive c.in-Receive.span c.in-Receive.operation places)) c.as_slice.ensures
    ∙ ap (λ tree. core_statement c.args.scene.now tree) (sym c.in-Receive.is))
    c.receive_named.ensures.sites
