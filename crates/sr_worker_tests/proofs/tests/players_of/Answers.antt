use Rattle.std.proofs.Common.{◌≡◌, ◌+◌, [], ◌∷◌, ◌++◌, ap, arith, length, length-append, subst, sym, ◌∙◌}
use Rattle.sr_worker.specs.Hands.{processes_of}
use Rattle.sr_worker_tests.specs.Numbers.{AreNumbered}
use Rattle.sr_worker_tests.proofs.Numbering.{numbered-more}
use Rattle.sr_worker_tests.proofs.tests.players_of.Goals as goal

pub loop-script-preserved : goal.loop-script-preserved
loop-script-preserved c =
    let p = c.new-in-loop-script.result in
    let pushed : c.push.new.self ≡ c.loop-script.players ++ p ∷ [] = c.in_ok-push.ensures.ok in
    let long : length c.push.new.self ≡ length c.loop-script.players + 1 = omega (arith, ap length pushed, length-append c.loop-script.players (p ∷ [])) in (
      subst (λ ps. AreNumbered c.args.first (processes_of ps)) (sym pushed)
          (numbered-more c.args.first c.loop-script.players p c.loop-script.invariant.0 (c.new-in-loop-script.ensures.process ∙ c.loop-script.invariant.1)),
      omega (arith, long, c.loop-script.invariant.1),
    )
