-- The declaration is the one that the name means.
use Rattle.std.proofs.Common.{◌≡◌, ◌∙◌, IfOk, ap, subst}
use Rattle.sr_names.specs.declared.spot.Spot.{Spot}
use Rattle.sr_tree.specs.declared.name.Name.{Name}
use Rattle.sr_outline.specs.Heads.{head_at}
use Rattle.sr_check_expr.specs.Meanings.{meant_by}
use Rattle.sr_outline.proofs.heads.named_head.Goals as goal

pub returns : goal.returns
returns c =
    subst (λ (spot : Spot). IfOk c.head_at.result (λ head. head ≡ head_at c.args.named.now spot))
    (c.meant_by.ensures ∙ ap (λ (name : Name). meant_by c.args.facts.now name) c.deciding.ensures)
    c.head_at.ensures
