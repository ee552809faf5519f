use Rattle.std.proofs.Common.{◌∙◌, [], subst}
use Rattle.sr_races.specs.Marks.{LooksAt, all_looked_at}
use Rattle.sr_races.proofs.MarkLemmas.{found-below, found-complete}
use Rattle.sr_races.proofs.search.firsts_of.Goals as goal

looks : (c : goal.After-in_order) → LooksAt c.args.clocks.now c.args.second c.args.spots.now (all_looked_at c.args.size c.as_slice-accesses.result.now) [] c.look_for_each.new.found
looks c = subst (λ old. LooksAt c.args.clocks.now c.args.second c.args.spots.now (all_looked_at c.args.size c.as_slice-accesses.result.now) old c.look_for_each.new.found) c.new-found.ensures c.in_ok-look_for_each.ensures

pub returns : goal.returns
returns c = λ r count has within is-other noted. record {
  rising = c.in_order.ensures.rises;
  below = λ item here.
      found-below r c.args.clocks.now count has c.args.size c.args.second within c.args.spots.now noted c.as_slice-accesses.result.now (c.as_slice-accesses.ensures ∙ is-other.accesses) c.look_for_each.new.found (looks c) item
      (c.in_order.ensures.adds_none item here);
  complete = λ item race.
      c.in_order.ensures.keeps item
      (found-complete r c.args.clocks.now count has c.args.size c.args.second within c.args.spots.now noted c.as_slice-accesses.result.now (c.as_slice-accesses.ensures ∙ is-other.accesses) c.look_for_each.new.found (looks c) item race);
}
