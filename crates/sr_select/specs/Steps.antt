-- What one invocation adds to the choice; one of another operation adds nothing.
use Rattle.std.specs.Prelude.{ℕ, ℤ, Bool, true, false, [], Option, Some, None, if◌then◌else◌}
use Rattle.sr_value.specs.declared.capability.Owner.{Owner}
use Rattle.sr_core.specs.declared.expression.Expr.{Expr}
use Rattle.sr_core.specs.declared.site.Arm.{Arm}
use Rattle.sr_queue.specs.declared.pending.Pending.{Pending}
use Rattle.sr_queue.specs.Queues.{is_of}
use Rattle.sr_select.specs.declared.least.Keyed.{Keyed}
use Rattle.sr_select.specs.Choices.{Seeing, key_with, lesser, passes_with}
use Rattle.sr_select.specs.Looks.{Looked, Found}

abbrev pub passes_one : Seeing → Owner → Arm → Pending → Looked Bool
passes_one sees owner arm p = if is_of owner arm.op p then passes_with sees arm p.args else Found false []

abbrev pub key_one : Seeing → Owner → Arm → Expr → Pending → Looked (Option ℤ)
key_one sees owner arm by p = if is_of owner arm.op p then key_with sees arm by p.args else Found None []

-- the less of the best so far and a younger one
abbrev pub improved : Option Keyed → Keyed → Keyed
improved None younger = younger
improved (Some older) younger = lesser older (Some younger)

-- the best so far after an invocation with this key
abbrev pub with_next : ℕ → Option Keyed → Option ℤ → Option Keyed
with_next place best None = best
with_next place best (Some key) = Some (improved best (record { place = place; key = key }))
