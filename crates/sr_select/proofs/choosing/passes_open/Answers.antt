-- An arm is closed whose guard is false for one invocation and names no formal.
use Rattle.std.proofs.Common.{◌≡◌, false, ap, subst, sym, ◌∙◌}
use Rattle.std.specs.Prelude.{Ok}
use Rattle.sr_select.specs.Closing.{AreClosed}
use Rattle.sr_select.specs.Looks.{result_of}
use Rattle.sr_select.specs.Sights.{seeing}
use Rattle.sr_select.specs.Steps.{passes_one}
use Rattle.sr_select.specs.declared.closed.Closed.{Closed}
use Rattle.sr_select.proofs.ClosingLemmas.{never-passes, one-closed}
use Rattle.sr_select.proofs.choosing.passes_open.Goals as goal

pub returns-in_ok-close-clause-closed : goal.returns-in_ok-close-clause-closed
returns-in_ok-close-clause-closed g c =
    let reading = g.R.Reads.reading c.args.reads.now in
    let scene = c.args.selection.now.scene in
    let sees = seeing reading scene in
    let arms = c.args.selection.now.arms.now in
    let owner = c.args.selection.now.owner in
    let arm = c.args.arm.now in
    let is : result_of (passes_one sees owner arm c.args.pending.now) ≡ Ok false = c.in_ok-passes.ensures.0 ∙ ap Ok c.if-not-passes.true in
    let never =
    never-passes reading scene.me scene.names.now scene.env.now owner arm c.args.pending.now is (sym c.is_of.ensures ∙ c.if-is_of.true) (sym c.guard_names_none.ensures ∙ c.if-guard_names_none.true) in
    subst (λ (closed : Closed). AreClosed sees arms closed) (sym c.in_ok-close.ensures.ok)
    (one-closed sees arms c.args.closed.now c.args.number arm c.requires.closed c.requires.arm never)
