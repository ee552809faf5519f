use Rattle.std.proofs.Common.{ap}
use Rattle.sr_code.specs.declared.instruction.Instruction.TheVariants.{FixedShape}
use Rattle.sr_meaning.specs.Statements.{item_shape}
use Rattle.sr_gen_expr.proofs.Declarations.{gives_fixed, gives_string}
use Rattle.sr_gen_expr.proofs.Stretching.{emits_as, gives_as}
use Rattle.sr_gen_expr.proofs.shape.gen_item.Goals as goal

pub returns-in_ok-emit-in-Fixed : goal.returns-in_ok-emit-in-Fixed
returns-in_ok-emit-in-Fixed c =
    gives_as (ap item_shape c.in-Fixed.is) (gives_fixed (emits_as (ap FixedShape c.in_ok-copied-in-Fixed.ensures) c.in_ok-emit-in-Fixed.ensures))

pub returns-in_ok-gen_number-in-Str : goal.returns-in_ok-gen_number-in-Str
returns-in_ok-gen_number-in-Str c =
    gives_as (ap item_shape c.in-Str.is) (gives_string c.in-Str.most c.in_ok-emit-in-Str.ensures c.in_ok-gen_number-in-Str.ensures)
