-- What is left to store, after what is stored so far, is all.
use Rattle.std.proofs.Common.{◌≡◌, ◌-◌, drop, length}
use Rattle.sr_interpreter_expr.specs.Interpreters.{here_of, stage_of}
use Rattle.sr_meaning.specs.Places.{store_results}
use Rattle.sr_interpreter_expr.proofs.invoke.store_from.Given as goal

abbrev pub invariant-places : goal.invariant-places
invariant-places g l =
    store_results (drop l.at l.places) (drop l.at l.results) (here_of g.C.HasCore.core_of l.scene) (stage_of l.interpreter)
    ≡ store_results (drop l.initial.at l.places) (drop l.initial.at l.results) (here_of g.C.HasCore.core_of l.scene) (stage_of l.initial.interpreter)

abbrev pub decreases-places : goal.decreases-places
decreases-places g l = length l.places - l.at
