use Rattle.std.specs.Ordering.{is_ge, is_gt, is_le, is_lt}
use Rattle.std.proofs.Common.{◌∙◌, Bool, Ok, ap, sym}
use Rattle.sr_value.specs.Operators.{value_of}
use Rattle.sr_value.specs.declared.operator.Operator.{Operator}
use Rattle.sr_value.specs.declared.value.Value.TheVariants.{Int, Bool as truth_value}
use Rattle.sr_process.proofs.Leading.{compared_is}
use Rattle.sr_process.proofs.together.ordered.Goals as goal

pub returns-in-Lt : goal.returns-in-Lt
returns-in-Lt c = λ x y is.
    ap (λ (op : Operator). value_of op (Int x) (Int y)) c.in-Lt.is ∙ (compared_is is_lt x y c.args.order is ∙ ap (λ (t : Bool). Ok (truth_value t)) (sym c.is_lt.ensures))

pub returns-in-Le : goal.returns-in-Le
returns-in-Le c = λ x y is.
    ap (λ (op : Operator). value_of op (Int x) (Int y)) c.in-Le.is ∙ (compared_is is_le x y c.args.order is ∙ ap (λ (t : Bool). Ok (truth_value t)) (sym c.is_le.ensures))

pub returns-in-Gt : goal.returns-in-Gt
returns-in-Gt c = λ x y is.
    ap (λ (op : Operator). value_of op (Int x) (Int y)) c.in-Gt.is ∙ (compared_is is_gt x y c.args.order is ∙ ap (λ (t : Bool). Ok (truth_value t)) (sym c.is_gt.ensures))

pub returns-in-Ge : goal.returns-in-Ge
returns-in-Ge c = λ x y is.
    ap (λ (op : Operator). value_of op (Int x) (Int y)) c.in-Ge.is ∙ (compared_is is_ge x y c.args.order is ∙ ap (λ (t : Bool). Ok (truth_value t)) (sym c.is_ge.ensures))
