use Rattle.sr_gen.proofs.Actions.{acts_swap}
use Rattle.sr_gen.proofs.action.gen_swap.Goals as goal

pub returns : goal.returns
returns c ways =
    acts_swap c.args.left.now c.args.right.now c.in_ok-emit.ensures c.in_ok-emit-2.ensures c.in_ok-emit-3.ensures c.in_ok-emit-4.ensures c.in_ok-gen_place.ensures c.in_ok-gen_place-2.ensures
