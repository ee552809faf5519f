-- Several workers make stretches, and one makes none.
use Rattle.std.proofs.Common.{◌≡◌, ℕ, List, arith, false, subst, sym, true}
use Rattle.std.specs.Prelude.{Bool, if◌then◌else◌, nat_lt}
use Rattle.std.proofs.lemmas.Bool.{le-ltb, lt-ltb}
use Rattle.sr_classes.specs.Classes.{class_of}
use Rattle.sr_run.specs.Arranged.{InRounds, InTurn}
use Rattle.sr_run.specs.Causes.{HasCauseIn}
use Rattle.sr_run.specs.declared.end.RunEnd.{RunEnd}
use Rattle.sr_run.specs.Runs as runs
use Rattle.sr_run.specs.declared.stretch.Stretch.{Stretch}
use Rattle.sr_core.specs.declared.owner.Classes.{Classes}
use Rattle.sr_top.specs.Causes.{arrangement_of}
use Rattle.sr_top.proofs.outcome.made_by.Goals as goal

module _ (workers : ℕ) (classes : Classes) (rounds : List Stretch) (call : runs.Call) (end : RunEnd) where
  arranged-so : (several : Bool) → nat_lt 1 workers ≡ several
      → HasCauseIn (if several then InRounds (class_of classes.of) workers rounds else InTurn) call end → HasCauseIn (arrangement_of workers classes rounds) call end
  arranged-so several is cause = subst (λ b. HasCauseIn (if b then InRounds (class_of classes.of) workers rounds else InTurn) call end) (sym is) cause

pub returns-then-workers-gt1-clause-cause : goal.returns-then-workers-gt1-clause-cause
returns-then-workers-gt1-clause-cause g c =
    arranged-so c.args.workers c.args.classes.now c.run_in_rounds.result.rounds _ c.run_in_rounds.result.end true (lt-ltb 1 c.args.workers (omega arith)) c.run_in_rounds.ensures.cause

pub returns-else-workers-gt1-clause-cause : goal.returns-else-workers-gt1-clause-cause
returns-else-workers-gt1-clause-cause g c =
    arranged-so c.args.workers c.args.classes.now c.run.result.rounds _ c.run.result.end false (le-ltb 1 c.args.workers (omega arith)) c.run.ensures.cause
