use Rattle.std.proofs.Common.{◌≡◌, ◌<◌, ◌+◌, ap, arith, length, subst, sym}
use Rattle.sr_replay.proofs.CrewLemmas.{if_ok}
use Rattle.sr_races.proofs.WholeLemmas.{all-read, found-so, illegal-at}
use Rattle.sr_races.specs.Searches.{IsRead}
use Rattle.sr_races.specs.Walks.{WalksWithin}
use Rattle.sr_races.proofs.whole.races_on.Goals as goal

pub loop-place-init : goal.loop-place-init
loop-place-init g c = record { can = c.requires.can; walked = λ r items core begun. begun; most = omega arith }

pub loop-place-preserved : goal.loop-place-preserved
loop-place-preserved g c = record {
  can = c.in_ok-legal.ensures.can c.if-not-legal.false;
  walked = λ r items core begun.
      subst (λ b. WalksWithin (g.A.Actor.asks_after c.args.program.now) c.args.steps r (c.loop-place.place + 1) b c.follow_within.new.walk) c.if-not-legal.false
      (c.in_ok-legal.ensures.walks r items core (c.loop-place.invariant.walked r items core begun));
  most = let less : c.loop-place.place < c.args.steps = c.in_ok-legal.ensures.most c.if-not-legal.false in omega (arith, less);
}

pub returns-then-not-legal : goal.returns-then-not-legal
returns-then-not-legal g c = λ r items core short begun.
    let after = g.A.Actor.asks_after c.args.program.now in
    let walked = c.loop-place.invariant.walked r items core begun in
    let count = ap length items in
    let most = c.loop-place.invariant.most in
    illegal-at after c.args.steps r short c.loop-place.place c.loop-place.walk (omega (arith, count)) (omega (arith, most)) walked
    (subst (λ b. WalksWithin after c.args.steps r (c.loop-place.place + 1) b c.follow_within.new.walk) c.if-not-legal.true (c.in_ok-legal.ensures.walks r items core walked))

pub search-requires : goal.search-requires
search-requires g c = let entries = ap length c.as_slice.ensures in let listed = c.loop-place.invariant.can.listed in omega (arith, entries, listed)

pub returns : goal.returns
returns g c = λ r items core short begun.
    let after = g.A.Actor.asks_after c.args.program.now in
    let walked = c.loop-place.invariant.walked r items core begun in
    let count = ap length items in
    let all : c.loop-place.place ≡ length r.items = omega (arith, count) in
    if_ok c.search.result (λ result found. found-so after c.args.steps r short c.loop-place.walk c.loop-place.place all c.loop-place.invariant.most walked result found)
    (c.search.ensures r (subst (λ xs. IsRead r c.loop-place.walk.clocks xs) (sym c.as_slice.ensures) (all-read after c.args.steps r short c.loop-place.walk c.loop-place.place all walked)))
