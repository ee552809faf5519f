use Rattle.std.proofs.Common.{arith}
use Rattle.sr_races.specs.Items.{actor_at, number_at}
use Rattle.sr_races.specs.Origins.{duty_at, readied_at}
use Rattle.sr_races.proofs.origins.Origins.new.Goals as goal

pub returns : goal.returns
returns c = λ r. record {
  lasts = c.new.ensures (actor_at r);
  makers = c.new-2.ensures (number_at r);
  answerers = c.new-3.ensures (duty_at r);
  readiers = c.new-4.ensures (readied_at r);
  closing = λ k less. absurd (omega (arith, less));
}
