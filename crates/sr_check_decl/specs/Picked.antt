-- Which of some declarations can have their types.
use Rattle.std.specs.Prelude.{ℕ, Bool, true, false, List, Option, Some, None, slice_get}
use Rattle.std.specs.List.{filter_map}
use Rattle.sr_check_expr.specs.declared.facts.Facts.{Facts}
use Rattle.sr_check_decl.specs.Inferring.{can_settle}
use Rattle.sr_check_decl.specs.Waiting.{Waiting}

abbrev pub if_settling : Bool → Waiting → Option Waiting
if_settling true waiting = Some waiting
if_settling false waiting = None

abbrev pub settling : Facts → Option Waiting → Option Waiting
settling facts None = None
settling facts (Some waiting) = if_settling (can_settle facts waiting) waiting

-- those at some places of a list that can have their types
abbrev pub picked : Facts → List Waiting → List ℕ → List Waiting
picked facts waiting places = filter_map (λ place. settling facts (slice_get waiting place)) places
