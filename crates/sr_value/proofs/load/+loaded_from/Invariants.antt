use Rattle.std.proofs.Common.{length, ◌-◌}
use Rattle.sr_value.proofs.load.+loaded_from.Given as goal

abbrev pub decreases-loaded_from : goal.decreases-loaded_from
decreases-loaded_from l = length l.path.now - l.at
