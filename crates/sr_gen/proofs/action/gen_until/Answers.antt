use Rattle.sr_gen.proofs.Actions.{acts_until}
use Rattle.sr_gen.proofs.action.gen_until.Goals as goal

pub returns : goal.returns
returns c ways = acts_until c.args.time.now c.in_ok-emit.ensures c.in_ok-emit-2.ensures c.in_ok-emit-3.ensures c.in_ok-gen_number.ensures
