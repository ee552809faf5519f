-- What the desk of the tests declines.
use Rattle.std.specs.Prelude.{◌≡◌, ◌<◌, ◌⊎◌, ℕ, Bool, true, not, nat_lt}
use Rattle.sr_ask.specs.declared.request.Request.{Request}
use Rattle.sr_ask.specs.declared.request.Request.TheVariants.{Load}

-- the variables below `limit` can be loaded, and nothing else can be done
abbrev pub is_closed : ℕ → Request → Bool
is_closed limit (Load block var path) = not (nat_lt var limit)
is_closed limit _ = true

-- a request is closed, or the seat was refused
abbrev pub Declines : ℕ → ℕ → Request → Type 0
Declines limit refused request = (is_closed limit request ≡ true) ⊎ (0 < refused)
