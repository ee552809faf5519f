use Rattle.std.proofs.Common.{subst, sym}
use Rattle.sr_plain.specs.Waiting.{StaysOpen}
use Rattle.sr_plain.proofs.CrowdLemmas.{stays-without, within-row}
use Rattle.sr_plain.proofs.crowd.drop_if_empty.Goals as goal

pub remove-requires : goal.remove-requires
remove-requires c =
    let holds = c.is_empty_at.ensures c.if-is_empty_at.true in
    within-row c.args.crowds.now c.args.place holds.crowd holds.here

pub returns-then-is_empty_at : goal.returns-then-is_empty_at
returns-then-is_empty_at c =
    subst (λ crowds. StaysOpen c.args.crowds.now crowds) (sym c.remove.ensures.others) (stays-without c.args.crowds.now c.args.place (c.is_empty_at.ensures c.if-is_empty_at.true))
