use Rattle.std.proofs.Common.{is_some, rules}
use Rattle.std.proofs.lemmas.Map.Made.{filter_same_pairs}
use Rattle.sr_world.specs.Worlds.{started}
use Rattle.sr_replay.proofs.CrewLemmas.{keeps-living}
use Rattle.sr_replay.proofs.crew.drop_ended.Goals as goal

pub returns : goal.returns
returns g c =
    keeps-living c.args.world.now c.args.crew.now c.retain.new.self
    (filter_same_pairs _ (λ e. is_some (started c.args.world.now e.0)) _ (λ k v b w f call. search rules) _ _ c.retain.ensures.filtered)
