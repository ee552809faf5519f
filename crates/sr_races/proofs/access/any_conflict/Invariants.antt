-- None so far conflicts.
use Rattle.sr_races.proofs.PathLemmas.{NoneOf}
use Rattle.sr_races.specs.Accesses.{ConflictWith}
use Rattle.sr_races.specs.declared.access.Access.{Access}
use Rattle.sr_races.proofs.access.any_conflict.Given as goal

abbrev pub invariant-loop-one : goal.invariant-loop-one
invariant-loop-one l = NoneOf (λ (one : Access). ConflictWith one l.others) l.ones l.one-index
