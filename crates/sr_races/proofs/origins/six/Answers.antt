use Rattle.sr_races.proofs.OriginLemmas.{pushed-six}
use Rattle.sr_races.specs.Origins.{listed}
use Rattle.sr_races.proofs.origins.six.Goals as goal

pub returns : goal.returns
returns c =
    pushed-six c.new-items.result (listed c.args.one) (listed c.args.two) (listed c.args.three) (listed c.args.four) (listed c.args.five) (listed c.args.last) c.push_three.new.items c.push_three-2.new.items c.new-items.ensures
    c.in_ok-push_three.ensures c.in_ok-push_three-2.ensures
