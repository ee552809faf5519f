use Rattle.std.proofs.Common.{◌∙◌, ap}
use Rattle.sr_classes.specs.Classes.{class_of}
use Rattle.sr_shard.specs.Dividing.{moved_by, moved_in}
use Rattle.sr_world.specs.Worlds.{World}
use Rattle.sr_shard.proofs.SplitLemmas.{parts_of_same}
use Rattle.sr_shard.proofs.splitting.split.Goals as goal

pub shards_of-requires : goal.shards_of-requires
shards_of-requires g c =
    parts_of_same (class_of c.args.classes.now.of) g.P.Opening.opened.class (moved_by c.lend.result) (moved_in g.P.Opening.opened.world) c.in_ok-divided.divided c.requires.classes
    (λ k. record {
      variables = (c.lend.ensures.variables ∙ ap (λ (w : World). w.variables) c.requires.world) k;
      pending = (c.lend.ensures.pending ∙ ap (λ (w : World). w.pending) c.requires.world) k;
      held = (c.lend.ensures.held ∙ ap (λ (w : World). w.held) c.requires.world) k;
      replies = (c.lend.ensures.replies ∙ ap (λ (w : World). w.replies) c.requires.world) k;
    })
    c.in_ok-divided.ensures
