-- The declaration is the one that the name means.
use Rattle.std.proofs.Common.{◌≡◌, ◌∙◌, IfOk, ap, subst}
use Rattle.sr_names.specs.declared.spot.Spot.{Spot}
use Rattle.sr_tree.specs.declared.name.Name.{Name}
use Rattle.sr_check_expr.specs.Meanings.{meant_by}
use Rattle.sr_outline.specs.Shapes.{named_shape}
use Rattle.sr_tables.specs.Shapes.{shape_at}
use Rattle.sr_outline.proofs.shapes.named_shape.Goals as goal

pub returns : goal.returns
unfolding named_shape
returns c =
    subst (λ (spot : Spot). IfOk c.shape_at.result (λ shape. shape ≡ shape_at c.args.table.now spot))
    (c.meant_by.ensures ∙ ap (λ (name : Name). meant_by c.args.facts.now name) c.deciding.ensures)
    c.shape_at.ensures
