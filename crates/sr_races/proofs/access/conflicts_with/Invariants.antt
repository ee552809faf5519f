-- None so far conflicts.
use Rattle.sr_races.proofs.PathLemmas.{NoneOf}
use Rattle.sr_races.specs.Accesses.{Conflict}
use Rattle.sr_races.proofs.access.conflicts_with.Given as goal

abbrev pub invariant-loop-other : goal.invariant-loop-other
invariant-loop-other l = NoneOf (Conflict l.one) l.others l.other-index
