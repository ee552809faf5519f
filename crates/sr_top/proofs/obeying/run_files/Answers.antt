-- The program is run, and the call ends as its run; or there is none, and the call ends for that reason.
use Rattle.std.proofs.Common.{◌≡◌, ap, inr, refl, subst, sym}
use Rattle.std.specs.Prelude.{IfSome, option_and_then}
use Rattle.sr_code.specs.declared.code.Program.{Program}
use Rattle.sr_journal.specs.Journal.{IsInRange}
use Rattle.sr_top.proofs.Endings.{caused, same_classes, stopped}
use Rattle.sr_top.proofs.Journals.{came_before, headed, in_range, ran_to}
use Rattle.sr_top.proofs.Readings.{compiled_of}
use Rattle.sr_top.specs.Causes.{HasCause}
use Rattle.sr_top.specs.Journal.{EndsBeforeRun, EndsWithRun, HasHeaderIf, without}
use Rattle.sr_top.specs.Programs.{classes_in}
use Rattle.sr_top.specs.Tasks.{Named, origin_of}
use Rattle.sr_top.proofs.obeying.run_files.Goals as goal

pub returns-in-Ok-clause-cause : goal.returns-in-Ok-clause-cause
returns-in-Ok-clause-cause g c = λ words asked.
    let same : c.program.result.now.classes ≡ classes_in c.in-Ok.field-0.program = ap (λ (p : Program). p.classes) c.program.ensures in
    let ends = same_classes _ _ _ _ _ _ same c.run_program.ensures.ends in
    subst (HasCause _) (sym ends.is)
    (caused _ c.args.workers c.args.steps c.args.ticks _ _
    (record {
      origin = Named c.args.names.now;
      journal = c.args.journal;
      asked = asked;
      compiled = compiled_of _ _ _ _ _ _ _ _ c.in-Ok.ensures.prepared;
      no_fault = c.in-Ok.ensures.no_fault;
    })
    ends.within ends.alone ends.end ends.cause)

pub returns-in-Ok-clause-header : goal.returns-in-Ok-clause-header
returns-in-Ok-clause-header g c = λ words asked.
    let ends = c.run_program.ensures.ends in
    subst (HasHeaderIf _ _) (sym c.run_program.ensures.header)
    (headed _ _ c.args.names.now c.args.workers c.args.steps c.args.ticks _ _ c.args.journal _ asked c.in-Ok.ensures.prepared (subst EndsWithRun (sym ends.is) (ran_to ends.end)))

pub returns-in-Ok-clause-in_range : goal.returns-in-Ok-clause-in_range
returns-in-Ok-clause-in_range g c = λ can.
    let ends = c.run_program.ensures.ends in
    subst (λ o. IfSome o (λ header. IsInRange header c.run_program.result.items)) (sym c.run_program.ensures.header)
    (in_range _ _ _ _ _ _ c.run_program.result.items can ends.within ends.numbered c.args.journal _ c.in-Ok.ensures.prepared)

pub returns-in-Err-clause-cause : goal.returns-in-Err-clause-cause
returns-in-Err-clause-cause g c = λ words asked.
    subst (HasCause _) (sym c.without_items.ensures.ending)
    (stopped _ (Named c.args.names.now) _ (ap (option_and_then origin_of) asked) (record { no_items = (c.without_items.ensures.items, c.without_items.ensures.rounds); untouched = refl }) c.in-Err.ensures.ends)

pub returns-in-Err-clause-header : goal.returns-in-Err-clause-header
returns-in-Err-clause-header g c = λ words asked.
    subst (HasHeaderIf _ _) (sym c.without_items.ensures.header)
    (without (inr (record { no_items = (c.without_items.ensures.items, c.without_items.ensures.rounds); untouched = refl }, subst EndsBeforeRun (sym c.without_items.ensures.ending) (came_before _ _ _ _ _ c.in-Err.ensures.ends))))

pub returns-in-Err-clause-in_range : goal.returns-in-Err-clause-in_range
returns-in-Err-clause-in_range g c = λ can. subst (λ o. IfSome o (λ header. IsInRange header c.without_items.result.items)) (sym c.without_items.ensures.header) tt
