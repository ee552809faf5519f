use Rattle.std.proofs.Common.{◌≡◌, subst, sym}
use Rattle.sr_shard.specs.Masks.{mask}
use Rattle.sr_world.specs.Worlds.{World}
use Rattle.sr_divided.proofs.again.by_shards.Goals as goal

pub unsplit-requires : goal.unsplit-requires
unsplit-requires g c = record { all = c.in_ok-shards.ensures.shards.all; each = λ i shard at. (c.in_ok-shards.ensures.shards.each i shard at).number }

pub returns : goal.returns
returns g c = λ order.
    c.in_ok-unsplit.ensures.joined c.args.world.now
    (record {
      parts = λ i shard at.
          subst (λ (w : World). mask g.P.Opening.opened.class i w ≡ shard.present) (sym c.requires.world) (sym (c.in_ok-shards.ensures.shards.each i shard at).present);
      rest = sym c.split.ensures.rest;
      order = order;
    })
