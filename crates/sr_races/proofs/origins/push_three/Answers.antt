use Rattle.std.proofs.Common.{◌∙◌}
use Rattle.std.proofs.lemmas.Result.{on_ok_weaker}
use Rattle.sr_races.proofs.OriginLemmas.{pushed-three}
use Rattle.sr_races.specs.Origins.{listed}
use Rattle.sr_races.proofs.origins.push_three.Goals as goal

pub returns : goal.returns
returns c =
    on_ok_weaker c.push_some-3.result
    (λ is. is ∙ pushed-three c.args.items.now (listed c.args.one) (listed c.args.two) (listed c.args.three) c.push_some.new.items c.push_some-2.new.items c.in_ok-push_some.ensures c.in_ok-push_some-2.ensures) c.push_some-3.ensures
