-- The invocations of a `co` that are out.
use Rattle.std.specs.Prelude.{◌≡◌, ◌==◌, ◌<◌, ℕ, List, length, Some, slice_get}
use Rattle.std.specs.List.{position}
use Rattle.sr_ask.specs.declared.environment.Out.{Out}

-- an invocation that is out, and the first of its number
pub record IsFirstOut (outs : List Out) (at : ℕ) : Type 0 where
  pub within : at < length outs
  pub first : (out : Out) → slice_get outs at ≡ Some out → position (λ other. other.id == out.id) outs ≡ Some at
