use Rattle.std.proofs.Common.{◌∙◌, subst}
use Rattle.std.proofs.lemmas.Result.{on_ok_weaker}
use Rattle.sr_races.specs.Marks.{LooksAt}
use Rattle.sr_races.proofs.marks.look_for.Goals as goal

pub returns : goal.returns
returns c =
    on_ok_weaker c.look_at_each.result (λ looks. subst (λ at. LooksAt c.args.clocks.now c.args.second c.args.spots.now at c.args.found.now c.look_at_each.new.found) (c.as_slice.ensures ∙ c.in_ok-at.ensures) looks)
    c.look_at_each.ensures
