use Rattle.std.proofs.Common.{◌≡◌, ◌∙◌, ◌++◌, ap, arith, map, refl, take}
use Rattle.std.proofs.lemmas.List.{take_all}
use Rattle.sr_races.proofs.SpotLemmas.{last-next, nothing-more, spots-next}
use Rattle.sr_races.specs.Spots.{keys_on, last_key, spot_of}
use Rattle.sr_races.proofs.spots.push_on.Goals as goal

pub loop-sel-init : goal.loop-sel-init
loop-sel-init c = record { last = refl; spots = nothing-more c.args.spots.now }

pub loop-sel-preserved : goal.loop-sel-preserved
loop-sel-preserved c = record {
  last = last-next c.args.key c.args.path.now c.loop-sel.sel-index _ c.loop-sel.last c.key_after-last.result (omega arith) c.loop-sel.invariant.last c.key_after-last.ensures;
  spots = spots-next c.args.count c.args.below c.args.writes c.args.key c.args.path.now c.loop-sel.sel-index c.args.spots.now c.loop-sel.spots c.push.new.self c.loop-sel.last c.spot_of.result (omega arith) c.loop-sel.invariant.spots
      c.loop-sel.invariant.last c.spot_of.ensures c.in_ok-push.ensures.ok;
}

pub returns : goal.returns
returns c =
    let whole : take c.loop-sel.sel-index c.args.path.now ≡ c.args.path.now = take_all c.loop-sel.sel-index c.args.path.now (omega arith) in
    record {
      last = c.loop-sel.invariant.last ∙ ap (last_key c.args.key) whole;
      spots = c.loop-sel.invariant.spots ∙ ap (λ path. c.args.spots.now ++ map (spot_of c.args.count c.args.below c.args.writes) (keys_on c.args.key path)) whole;
    }
