use Rattle.std.proofs.Common.{◌≡◌, ℕ, ◌≤◌, ℤ, List, [], ◌∷◌, Option, arith, drop, length, refl, sym, ◌∙◌}
use Rattle.sr_ask.specs.declared.environment.Own.{Own}
use Rattle.sr_frame.specs.Variables.{vars_set}
use Rattle.sr_frame.proofs.variables.set_vars.Goals as goal

none_left : (vars : List ℕ) (turn : List ℤ) (own : List (Option Own)) → length turn ≤ 0 → vars_set vars turn own ≡ own
none_left [] turn own none = refl
none_left (var ∷ vars) [] own none = refl
none_left (var ∷ vars) (number ∷ turn) own none = absurd (omega arith)

pub returns-in_default : goal.returns-in_default
returns-in_default c = sym (none_left (drop c.loop-var.var-index c.args.vars.now) c.loop-var.rest.now c.loop-var.own (omega arith)) ∙ c.loop-var.invariant
