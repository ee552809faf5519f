-- Operators and conversions in the core.
use Rattle.sr_check_expr.specs.Exprs.{operator_of}
use Rattle.sr_core.specs.declared.expression.Expr.{Expr}
use Rattle.sr_core.specs.declared.expression.Expr.TheVariants as core
use Rattle.sr_core.specs.declared.expression.Function.{Function}
use Rattle.sr_core.specs.declared.expression.Function.TheVariants as function
use Rattle.sr_tree.specs.declared.expr.BinaryOperator.{BinaryOperator}
use Rattle.sr_tree.specs.declared.expr.BinaryOperator.TheVariants as binary
use Rattle.sr_tree.specs.declared.expr.Conversion.{Conversion}
use Rattle.sr_tree.specs.declared.expr.Conversion.TheVariants as conversion

abbrev pub conversion_function : Conversion → Function
conversion_function conversion.Int = function.ToInt
conversion_function conversion.Char = function.ToChar
conversion_function conversion.Str = function.ToText

abbrev pub binary_core : BinaryOperator → Expr → Expr → Expr
binary_core binary.And left right = core.And left right
binary_core binary.Or left right = core.Or left right
binary_core operator left right = core.Binary (operator_of operator) left right
