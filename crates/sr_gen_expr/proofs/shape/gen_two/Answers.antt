use Rattle.sr_gen_expr.proofs.Declarations.{gives_two}
use Rattle.sr_gen_expr.proofs.shape.gen_two.Goals as goal

pub returns : goal.returns
returns c =
    gives_two c.args.range.now c.args.range2.now c.args.item.now c.in_ok-emit.ensures c.in_ok-gen_item.ensures c.in_ok-gen_number.ensures c.in_ok-gen_number-2.ensures
    c.in_ok-gen_number-3.ensures c.in_ok-gen_number-4.ensures
