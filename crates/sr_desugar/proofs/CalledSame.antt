-- What a call names doesn't depend on where it stands.
use Rattle.std.proofs.Common.{◌≡◌, refl}
use Rattle.sr_check_expr.specs.declared.facts.Facts.{Facts}
use Rattle.sr_check_expr.specs.declared.facts.Here.{Here}
use Rattle.sr_check_expr.specs.Meanings.{function_called}
use Rattle.sr_tree.specs.declared.expr.Invocation.{Invocation}

pub called_same : (facts : Facts) (here : Here) (invocation : Invocation) → function_called facts invocation ≡ function_called (record facts { here = here }) invocation
called_same facts here invocation = refl
