use Rattle.sr_meaning.specs.Statements.{block_of}
use Rattle.sr_gen.proofs.Loops.{acts_with}
use Rattle.sr_gen.proofs.Roles.{ends_block}
use Rattle.sr_gen.proofs.role.gen_last.Goals as goal

pub returns : goal.returns
returns c = ends_block (block_of c.args.block.now) c.in_ok-emit.ensures (acts_with c.one_way.ensures (c.in_ok-gen_block.ensures c.args.place))
