use Rattle.std.proofs.Common.{◌-◌, arith, length, map, refl}
use Rattle.sr_code.specs.Operands.{join_value}
use Rattle.sr_meaning.specs.Statements.{named_value}
use Rattle.sr_gen_expr.proofs.Forms.{gives_list}
use Rattle.sr_gen_expr.proofs.Rows.{rows_all, rows_begin, rows_step}
use Rattle.sr_gen.proofs.Services.{read_again}
use Rattle.sr_gen.proofs.site.gen_named.Goals as goal

pub loop-at-init : goal.loop-at-init
loop-at-init c = (omega arith, λ core. (rows_begin join_value core c.args.place named_value c.args.names.now (length c.args.names.now) _ refl).1)

pub loop-at-preserved : goal.loop-at-preserved
loop-at-preserved c =
    (omega arith, λ core. (rows_step named_value c.args.names.now c.loop-at.at _ (omega arith) (c.loop-at.invariant.0, c.loop-at.invariant.1 core) (read_again c.args.names.now (c.loop-at.at - 1) _ (omega arith)) (c.in_ok-gen_name.ensures core)).1)

pub returns : goal.returns
returns c core =
    gives_list (map named_value c.args.names.now) c.in_ok-emit.ensures (rows_all named_value c.args.names.now c.loop-at.at (omega arith) (c.loop-at.invariant.1 core))
