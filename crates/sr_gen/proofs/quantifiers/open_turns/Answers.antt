use Rattle.std.proofs.Common.{refl}
use Rattle.sr_gen.proofs.Enclosed.{opens_turns}
use Rattle.sr_gen.proofs.quantifiers.open_turns.Goals as goal

pub returns : goal.returns
returns c =
    opens_turns c.args.var c.args.ways _ c.len-to.result c.len-returned.result c.len-left.result c.len-each.result c.len-turned.result c.in_ok-gen_drop.ensures c.in_ok-gen_drop-2.ensures
    c.in_ok-emit.ensures c.in_ok-emit-2.ensures c.len-to.ensures c.len-returned.ensures c.len-left.ensures c.len-each.ensures c.len-turned.ensures refl
