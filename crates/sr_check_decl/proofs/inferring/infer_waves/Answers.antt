-- From wave to wave.
use Rattle.std.proofs.Common.{◌≡◌, ◌<◌, ◌+◌, ◌-◌, List, [], map, length, refl, ap, sym, ◌∙◌, arith}
use Rattle.std.proofs.lemmas.List.{length-map}
use Rattle.sr_check_expr.specs.declared.facts.Facts.{Facts}
use Rattle.sr_check_decl.specs.declared.waiting.Waits.{Waits}
use Rattle.sr_check_decl.specs.Inferring.{all_settled, waves}
use Rattle.sr_check_decl.specs.Needers.{needers_after}
use Rattle.sr_check_decl.specs.Picked.{picked}
use Rattle.sr_check_decl.specs.Waits.{seen}
use Rattle.sr_check_decl.specs.Waiting.{Waiting}
use Rattle.sr_check_decl.proofs.Lines.{lined-first, after-wave, same-after, lined-on}
use Rattle.sr_check_decl.proofs.Waves.{waves_stay, waves_step}
use Rattle.sr_check_decl.proofs.inferring.infer_waves.Goals as goal
use Rattle.sr_check_decl.proofs.inferring.infer_waves.Goals.{else-loop-wave-test, then-loop-wave-test+in_ok-wave+then-is_empty}

pub loop-wave-init : goal.loop-wave-init
loop-wave-init c =
    let all = c.args.all.now in
    let waiting : List Waiting = map seen all in
    let facts = c.args.facts.now in
    let count : c.len.result ≡ length waiting = c.len.ensures ∙ sym (length-map all seen) in
    let none_gone : length all - 0 ≡ length waiting = omega (arith, length-map all seen) in
    record {
      lined =
          lined-first facts waiting c.args.needs.now.spots c.args.needs.now.known c.in_ok-places.places
          c.requires.spots c.requires.known
          (c.in_ok-places.ensures.long ∙ count) (λ k low. c.in_ok-places.ensures.each k (omega (arith, low, count)));
      same = refl;
      so_far = ap (λ n. waves n waiting facts) none_gone;
    }

pub loop-wave-preserved : goal.loop-wave-preserved
loop-wave-preserved c =
    let waiting : List Waiting = map seen c.args.all.now in
    let facts = c.loop-wave.facts in
    let lined = c.loop-wave.invariant.lined in
    let ws : List Waiting = map seen c.in_ok-wave.wave in
    let within : c.loop-wave._wave < length c.args.all.now = omega (arith, c.loop-wave-test.true, c.len-wave-end.ensures) in
    let picks : ws ≡ picked facts waiting c.loop-wave.places = c.in_ok-wave.ensures.value ∙ ap (λ ps. picked facts waiting ps) c.as_slice.ensures in
    let settles : c.settle_all.new.facts ≡ all_settled ws facts =
    c.in_ok-settle_all.ensures ∙ ap (λ (xs : List Waits). all_settled (map seen xs) facts) c.as_slice-in-loop-wave.ensures in
    let found : c.in_ok-needers_after.field-0 ≡ needers_after c.args.needers.now ws =
    c.in_ok-needers_after.ensures ∙ ap (λ (xs : List Waits). needers_after c.args.needers.now (map seen xs)) c.as_slice-in-loop-wave-2.ensures in
    record {
      lined =
          lined-on facts c.settle_all.new.facts waiting ws c.loop-wave.needs.spots c.next_wave.new.needs.spots c.args.needs.now.spots c.loop-wave.needs.known c.next_wave.new.needs.known
          c.loop-wave.places c.in_ok-needers_after.field-0 c.in_order-places.result c.args.needers.now lined c.loop-wave.invariant.same
          c.requires.needers picks c.next_wave.ensures.same c.next_wave.ensures.known settles found
          c.in_order-places.ensures.rising c.in_order-places.ensures.same;
      same = c.next_wave.ensures.same ∙ c.loop-wave.invariant.same;
      so_far =
          ap (λ (f : Facts). waves (length c.args.all.now - (c.loop-wave._wave + 1)) waiting f)
          (after-wave facts c.settle_all.new.facts waiting ws c.loop-wave.needs.spots c.loop-wave.needs.known c.loop-wave.places lined picks settles)
          ∙ sym (waves_step (length c.args.all.now) c.loop-wave._wave waiting facts within) ∙ c.loop-wave.invariant.so_far;
    }

pub returns : goal.returns
returns c =
    let waiting : List Waiting = map seen c.args.all.now in
    let facts = c.loop-wave.facts in
    elim c.loop-wave-test.branch [
      | else-loop-wave-test w ↦
          let none_left : 0 ≡ length c.args.all.now - c.loop-wave._wave = omega (arith, w.loop-wave-test.false, c.len-wave-end.ensures) in
          ap (λ n. waves n waiting facts) none_left ∙ c.loop-wave.invariant.so_far
      | then-loop-wave-test+in_ok-wave+then-is_empty w ↦
          let ws : List Waiting = map seen w.in_ok-wave.wave in
          let picks : ws ≡ picked facts waiting c.loop-wave.places = w.in_ok-wave.ensures.value ∙ ap (λ ps. picked facts waiting ps) w.as_slice.ensures in
          let none : ws ≡ [] = ap (λ (xs : List Waits). map seen xs) (w.is_empty.ensures.0 w.if-is_empty.true) in
          let same = same-after facts (all_settled ws facts) waiting ws c.loop-wave.needs.spots c.loop-wave.needs.known c.loop-wave.places c.loop-wave.invariant.lined picks refl none in
          sym (waves_stay (length c.args.all.now - c.loop-wave._wave) waiting facts same) ∙ c.loop-wave.invariant.so_far
    ]
