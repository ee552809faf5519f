use Rattle.std.proofs.Common.{◌↔◌, ◌<◌, IsTrue, subst}
use Rattle.std.specs.List.{AllPairs, Contains}
use Rattle.sr_world.specs.Worlds.{World}
use Rattle.sr_world.proofs.world.World.is_used.Goals as goal

pub returns : goal.returns
returns c = subst (λ (w : World). AllPairs (λ a b. a < b) w.used → (IsTrue c.contains.result ↔ Contains w.used c.args.name)) c.self.view_is c.contains.ensures
