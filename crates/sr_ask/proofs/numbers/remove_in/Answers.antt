use Rattle.std.proofs.Common.{◌≡◌, get_or, length, ap, subst, ◌∙◌, arith}
use Rattle.sr_ask.specs.Numbers.{IsSpot, joined}
use Rattle.sr_ask.proofs.NumberLemmas.{spot_emptied, spot_taken}
use Rattle.sr_ask.proofs.numbers.remove_in.Goals as goal

pub returns-then-as_slice-eq1-clause-ok : goal.returns-then-as_slice-eq1-clause-ok
returns-then-as_slice-eq1-clause-ok c =
    let at = c.spot_of-spot.result in
    let b = c.index-as_slice-spot.result in
    let spot = subst (λ bs. IsSpot bs c.args.at at.block at.place) c.as_slice.ensures c.spot_of-spot.ensures in
    let is = c.index-as_slice-spot.is ∙ ap (λ bs. get_or bs at.block b) c.as_slice-2.ensures in
    let one : length b ≡ 1 = omega (arith, c.if-as_slice-eq1.true, ap length c.as_slice-3.ensures) in
    ap joined c.remove.ensures.others ∙ spot_emptied c.args.blocks.now b c.args.at at.block at.place spot is one

pub returns-clause-ok : goal.returns-clause-ok
returns-clause-ok c =
    let at = c.spot_of-spot.result in
    let b = c.index-as_slice-spot.result in
    let spot = subst (λ bs. IsSpot bs c.args.at at.block at.place) c.as_slice.ensures c.spot_of-spot.ensures in
    let is = c.index-as_slice-spot.is ∙ ap (λ bs. get_or bs at.block b) c.as_slice-2.ensures in
    ap joined c.replace.ensures.others ∙ spot_taken c.args.blocks.now b c.args.at at.block at.place spot is c.in_ok-others.others c.in_ok-others.ensures
