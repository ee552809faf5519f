use Rattle.sr_world.specs.Worlds.{World}
use Rattle.sr_world.specs.contracts.world.World.{the_view}
use Rattle.sr_world.proofs.StartLemmas.{start_as}
use Rattle.sr_world.proofs.world.World.start_of_new.Goals as goal

pub returns : goal.returns
returns c =
    let view : World = the_view c.self.inside in
    start_as c.args.core.now view c.args.self.now c.args.new.name c.args.new.component c.args.new.machine c.args.args.now c.in_ok-args.args c.args.back c.in_ok-homes.homes c.imports-imports.result.now
    c.self.view_is c.requires c.in_ok-homes.ensures c.imports-imports.ensures c.in_ok-args.ensures
