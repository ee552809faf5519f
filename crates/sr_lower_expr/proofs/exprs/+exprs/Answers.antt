-- What the parts of a tree are in the core makes up what the tree is.
use Rattle.std.proofs.Common.{◌≡◌, IfOk, ◌∙◌, ap, map, subst}
use Rattle.sr_lower_expr.specs.Expressions as exprs
use Rattle.sr_core.specs.declared.expression.Expr.{Expr}
use Rattle.sr_check_expr.specs.Meanings.{meant_by}
use Rattle.sr_lower_expr.proofs.Trees.{create_made, parts_made, pending_made}
use Rattle.sr_lower_expr.proofs.exprs.+exprs.Goals as goal

pub lowered-returns-in_ok-parts-in-Parts : goal.lowered-returns-in_ok-parts-in-Parts
lowered-returns-in_ok-parts-in-Parts t c =
    parts_made c.args.scene.now c.in-Parts.span c.in-Parts.parts c.args.tree.now c.in_ok-parts-in-Parts.parts
    c.in-Parts.is (c.in_ok-parts-in-Parts.ensures ∙ ap (map (exprs.core_part c.args.scene.now)) c.as_slice.ensures)

pub lowered-returns-in_ok-pending-in-Pending : goal.lowered-returns-in_ok-pending-in-Pending
lowered-returns-in_ok-pending-in-Pending t c =
    pending_made c.args.scene.now c.in-Pending.span c.in-Pending.operation c.args.tree.now c.in_ok-pending-in-Pending.field-0
    c.in-Pending.is (c.in_ok-pending-in-Pending.ensures ∙ ap (exprs.pending_core c.args.scene.now) c.meant_by.ensures)

pub core_create-returns-in_ok-machine-in-Resource : goal.core_create-returns-in_ok-machine-in-Resource
core_create-returns-in_ok-machine-in-Resource t c =
    subst (λ (made : Expr). IfOk c.instance.result (λ expr. expr ≡ made))
    (create_made c.args.scene.now c.in-Resource.span c.in-Resource.resource c.in-Resource.arguments c.in-Resource.machine
    c.args.tree.now c.meant_by-spot.result c.in_ok-args-in-Resource.args c.in_ok-machine-in-Resource.machine
    c.in-Resource.is (c.meant_by-spot.ensures ∙ ap (meant_by c.args.scene.now.facts) c.deciding.ensures)
    (c.in_ok-args-in-Resource.ensures ∙ ap (map (exprs.core_value c.args.scene.now)) c.as_slice.ensures)
    (c.in_ok-machine-in-Resource.ensures ∙ c.in_ok-core_machine-in-Resource.ensures))
    c.instance.ensures
