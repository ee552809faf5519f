-- So many empty spots were added.
use Rattle.std.proofs.Common.{◌≡◌, [], replicate}
use Rattle.sr_races.proofs.marks.push_empty.Given as goal

abbrev pub invariant-loop : goal.invariant-loop
invariant-loop l = l.spots ≡ replicate l.counter []
