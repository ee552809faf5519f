use Rattle.sr_classes.specs.Classes.{class_of}
use Rattle.sr_shard.specs.Shards.{no_core}
use Rattle.sr_divided.proofs.again.divide_and_join.Given as goal

abbrev pub ghosts-by_shards : goal.ghosts-by_shards
ghosts-by_shards a = record { opened = record { core = no_core; class = class_of a.classes.now.of; world = a.world.now } }
