use Rattle.sr_gen_expr.proofs.Declarations.{gives_one}
use Rattle.sr_gen_expr.proofs.shape.gen_one.Goals as goal

pub returns : goal.returns
returns c =
    gives_one c.args.range.now c.args.item.now c.in_ok-emit.ensures c.in_ok-gen_item.ensures c.in_ok-gen_number.ensures c.in_ok-gen_number-2.ensures
