use Rattle.std.proofs.Common.{ap}
use Rattle.sr_core.specs.declared.statement.Setup.TheVariants.{Typed, Untyped}
use Rattle.sr_code.specs.declared.instruction.Instruction.TheVariants.{MakeLike}
use Rattle.sr_gen_expr.proofs.Declarations.{gives_typed, gives_untyped, setup_is}
use Rattle.sr_gen_expr.proofs.Stretching.{emits_as, gives_as}
use Rattle.sr_gen_expr.proofs.declaration.gen_declaration.Goals as goal

pub returns-in_ok-gen_shape-in-Typed : goal.returns-in_ok-gen_shape-in-Typed
returns-in_ok-gen_shape-in-Typed c =
    gives_as (setup_is c.args.declaration.now (Typed c.in-Typed.shape c.in-Typed.value) c.in-Typed.is)
    (gives_typed c.args.declaration.now.scope c.args.declaration.now.var c.in-Typed.shape c.in-Typed.value c.in_ok-gen_first_value-in-Typed.ensures c.in_ok-emit-in-Typed.ensures c.in_ok-gen_shape-in-Typed.ensures)

pub returns-in_ok-gen_expr-in-Untyped : goal.returns-in_ok-gen_expr-in-Untyped
returns-in_ok-gen_expr-in-Untyped c =
    gives_as (setup_is c.args.declaration.now (Untyped c.in-Untyped.shape c.in-Untyped.value) c.in-Untyped.is)
    (gives_untyped c.args.declaration.now.scope c.args.declaration.now.var c.in-Untyped.shape c.in-Untyped.value c.in_ok-emit-in-Untyped.ensures
    (emits_as (ap (MakeLike c.args.declaration.now.scope c.args.declaration.now.var) c.in_ok-shape-in-Untyped.ensures) c.in_ok-emit-in-Untyped-2.ensures) c.in_ok-gen_expr-in-Untyped.ensures)
