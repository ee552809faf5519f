-- Expressions that have to meet a rule where they stand, and quantifiers.
use Rattle.std.specs.Prelude.{Bool, List, [], ◌∷◌, ◌++◌, Option, Some, None}
use Rattle.sr_names.specs.declared.finding.Finding.{Finding}
use Rattle.sr_names.specs.declared.finding.Rule.TheVariants.{BadType}
use Rattle.sr_tree.specs.declared.expr.Expr.{Expr}
use Rattle.sr_tree.specs.declared.name.Name.{Name}
use Rattle.sr_tree.specs.declared.statement.Quantifier.{Quantifier}
use Rattle.sr_types.specs.declared.ty.Ty.TheVariants as ty
use Rattle.sr_types.specs.declared.typed.Static.TheVariants.{Unknown}
use Rattle.sr_types.specs.declared.typed.Typed.{Typed}
use Rattle.sr_types.specs.Outcomes.{computed}
use Rattle.sr_check_expr.specs.declared.facts.Facts.{Facts}
use Rattle.sr_check_expr.specs.declared.info.Info.TheVariants as info
use Rattle.sr_check_expr.specs.Exprs.{infer_expr}
use Rattle.sr_check_expr.specs.Typings.{Typing, valued, broken_unless}
use Rattle.sr_check_decl.specs.Declaring.{declare_name}
use Rattle.sr_check.specs.Uses.{condition_rule, number_rule}

-- a value that has to meet a rule of its own, at which it is refused
abbrev pub value_with : (Typed → Bool) → Typing → List Finding
value_with rule typing = valued typing ++ broken_unless (rule typing.typed_expr.typed) BadType typing.typed_expr.span

abbrev pub expr_with : (Typed → Bool) → Facts → Expr → List Finding
expr_with rule facts expr = value_with rule (infer_expr expr facts)

abbrev pub maybe_with : (Typed → Bool) → Facts → Option Expr → List Finding
maybe_with rule facts None = []
maybe_with rule facts (Some expr) = expr_with rule facts expr

-- a quantifier variable is an int that can't be assigned
abbrev pub quantified : Facts → Name → Facts
quantified facts name = declare_name facts name (info.Value (computed ty.Int Unknown))

abbrev pub bounds_found : Facts → Quantifier → List Finding
bounds_found facts quantifier =
    expr_with number_rule facts quantifier.first
    ++ (expr_with number_rule facts quantifier.last
    ++ maybe_with number_rule facts quantifier.step)

-- the variable is seen after `st`, but not in the bounds and the step
abbrev pub quantifier_found : Facts → Quantifier → List Finding
quantifier_found facts quantifier =
    bounds_found facts quantifier ++ maybe_with condition_rule (quantified facts quantifier.name) quantifier.such_that

-- each quantifier is seen by those after it
abbrev pub quantifiers_found : Facts → List Quantifier → List Finding
quantifiers_found facts [] = []
quantifiers_found facts (quantifier ∷ more) = quantifier_found facts quantifier ++ quantifiers_found (quantified facts quantifier.name) more

abbrev pub quantifiers_known : Facts → List Quantifier → Facts
quantifiers_known facts [] = facts
quantifiers_known facts (quantifier ∷ more) = quantifiers_known (quantified facts quantifier.name) more
