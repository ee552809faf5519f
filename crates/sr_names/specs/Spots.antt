-- Where names stand.
use Rattle.std.specs.Prelude.{Bool, ◌&&◌, ◌||◌, ◌==◌, nat_lt}
use Rattle.sr_value.specs.declared.place.Span.{Span}
use Rattle.sr_names.specs.declared.spot.Spot.{Spot}

-- where a span begins
abbrev pub spot_of : Span → Spot
spot_of span = record { file = span.file; from = span.from }

-- both are one spot
abbrev pub same_spot : Spot → Spot → Bool
same_spot a b = (a.file == b.file) && (a.from == b.from)

-- an earlier file goes first, and in one file an earlier byte
abbrev pub spot_before : Spot → Spot → Bool
spot_before a b = nat_lt a.file b.file || ((a.file == b.file) && nat_lt a.from b.from)
