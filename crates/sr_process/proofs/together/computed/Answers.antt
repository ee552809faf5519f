use Rattle.std.proofs.Common.{◌∙◌, ◌+ℤ◌, ◌-ℤ◌, ℤ, rules, w32, ap, sym}
use Rattle.std.proofs.lemmas.Int.{to_z-of_z}
use Rattle.std.proofs.lemmas.Option.{IfSome_then}
use mir.Val.{SFits, of_z, to_z}
use Rattle.sr_value.specs.Operators.{int_result, value_of}
use Rattle.sr_value.specs.declared.operator.Operator.{Operator}
use Rattle.sr_value.specs.declared.value.Value.TheVariants.{Int}
use Rattle.sr_process.proofs.Leading.{difference_is, sum_is}
use Rattle.sr_process.proofs.together.computed.Goals as goal

pub returns-in-Add : goal.returns-in-Add
returns-in-Add c =
    let x_fits : SFits w32 c.args.x = search rules in
    let y_fits : SFits w32 c.args.y = search rules in
    let x_is = sym (to_z-of_z w32 c.args.x x_fits) in
    let y_is = sym (to_z-of_z w32 c.args.y y_fits) in
    IfSome_then c.sum.result c.sum.ensures (λ number is.
    ap (λ (op : Operator). value_of op (Int c.args.x) (Int c.args.y)) c.in-Add.is
    ∙ (sum_is c.args.x c.args.y
    ∙ (ap (λ (n : ℤ). int_result (n +ℤ c.args.y)) x_is ∙ (ap (λ (n : ℤ). int_result (to_z w32 (of_z w32 c.args.x) +ℤ n)) y_is ∙ is))))

pub returns-in-Sub : goal.returns-in-Sub
returns-in-Sub c =
    let x_fits : SFits w32 c.args.x = search rules in
    let y_fits : SFits w32 c.args.y = search rules in
    let x_is = sym (to_z-of_z w32 c.args.x x_fits) in
    let y_is = sym (to_z-of_z w32 c.args.y y_fits) in
    IfSome_then c.difference.result c.difference.ensures (λ number is.
    ap (λ (op : Operator). value_of op (Int c.args.x) (Int c.args.y)) c.in-Sub.is
    ∙ (difference_is c.args.x c.args.y
    ∙ (ap (λ (n : ℤ). int_result (n -ℤ c.args.y)) x_is ∙ (ap (λ (n : ℤ). int_result (to_z w32 (of_z w32 c.args.x) -ℤ n)) y_is ∙ is))))
