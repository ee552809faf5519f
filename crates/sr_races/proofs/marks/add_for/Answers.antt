use Rattle.std.proofs.Common.{◌≡◌, ◌<◌, ◌∙◌, subst, sym}
use Rattle.std.proofs.lemmas.Result.{on_ok_weaker}
use Rattle.std.specs.Prelude.{All, length}
use Rattle.sr_races.specs.Marks.{AddsAll}
use Rattle.sr_races.specs.Spots.{noted_at}
use Rattle.sr_races.proofs.SpotLemmas.{noted-within}
use Rattle.sr_races.proofs.marks.add_for.Goals as goal

pub add_at_each-requires : goal.add_at_each-requires
add_at_each-requires c =
    let at-is : c.as_slice.result.now ≡ noted_at c.args.size c.args.access.now = c.as_slice.ensures ∙ c.in_ok-at.ensures in
    subst (λ at. All (λ spot. spot < length c.args.spots.now) at) (sym at-is) (subst (λ n. All (λ spot. spot < n) (noted_at c.args.size c.args.access.now)) (sym c.requires.size) (noted-within c.args.size c.args.access.now c.requires.some))

pub returns : goal.returns
returns c = on_ok_weaker c.add_at_each.result (λ added. subst (λ at. AddsAll at c.args.column c.args.mark c.args.spots.now c.add_at_each.new.spots) (c.as_slice.ensures ∙ c.in_ok-at.ensures) added) c.add_at_each.ensures
