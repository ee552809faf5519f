-- The first invocation of a number that is taken out.
use Rattle.std.proofs.Common.{◌≡◌, ℕ, List, Some, ap}
use Rattle.std.specs.List.{slice_get, remove}
use Rattle.sr_ask.specs.Behaviors.{Stage, Outcome, Came}
use Rattle.sr_ask.specs.declared.environment.Out.{Out}
use Rattle.sr_frame.proofs.Drops.{dropped as without_dropped}
use Rattle.sr_frame.specs.Outs.{IsFirstOut}
use Rattle.sr_meaning.specs.Statements.{drop_out}

-- the first of its number is taken out
pub dropped : (stage : Stage) (outs : List Out) (at : ℕ) (out : Out) → IsFirstOut stage.out at → slice_get stage.out at ≡ Some out → outs ≡ remove stage.out at
    → drop_out out.id stage ≡ Came tt (record stage { out = outs })
dropped stage outs at out first is e =
    let next : List Out → Outcome (Unit {0}) = λ all. Came tt (record stage { out = all }) in
    ap next (without_dropped stage.out outs at out first is e)
