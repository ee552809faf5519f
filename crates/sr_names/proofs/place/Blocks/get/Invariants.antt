-- The innermost of the scopes so far that declares the name.
use Rattle.std.proofs.Common.{◌≡◌, take, None, fold}
use Rattle.sr_names.specs.Scopes.{or_else}
use Rattle.sr_names.specs.Tables.{declared_as}
use Rattle.sr_names.proofs.place.Blocks.get.Given as goal

abbrev pub invariant-loop-table : goal.invariant-loop-table
invariant-loop-table l = l.found ≡ fold (λ found table. or_else (declared_as table l.name) found) None (take l.table-index l.table-items)
