-- None that came heeds time.
use Rattle.std.proofs.Common.{◌≡◌, ◌||◌, drop}
use Rattle.std.specs.List.{list_any}
use Rattle.sr_world.specs.Runs.{asks_age, naps}
use Rattle.sr_replay.proofs.waiting.heed_time.Given as goal

abbrev pub invariant-loop-one : goal.invariant-loop-one
invariant-loop-one l = list_any (λ one. naps l.moment one.1 || asks_age one.1) (drop l.one-index l.asks) ≡ list_any (λ one. naps l.moment one.1 || asks_age one.1) l.asks
