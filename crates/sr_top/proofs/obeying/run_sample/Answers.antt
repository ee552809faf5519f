-- The sample is run, and the call ends as its run; or it isn't accepted, and the call ends for that reason.
use Rattle.std.proofs.Common.{◌≡◌, ap, false, refl, subst, sym}
use Rattle.std.specs.Prelude.{option_and_then}
use Rattle.sr_code.specs.declared.code.Program.{Program}
use Rattle.sr_top.proofs.Endings.{caused, same_classes, stopped}
use Rattle.sr_top.proofs.Readings.{ended_as, sampled_of}
use Rattle.sr_top.specs.Causes.{HasCause}
use Rattle.sr_top.specs.Reading.{sample_files}
use Rattle.sr_top.specs.Programs.{classes_in}
use Rattle.sr_top.specs.Tasks.{Sampled, origin_of}
use Rattle.sr_top.proofs.obeying.run_sample.Goals as goal

pub returns-in-Ok-clause-cause : goal.returns-in-Ok-clause-cause
returns-in-Ok-clause-cause g c = λ words files reads asked.
    let same : c.program.result.now.classes ≡ classes_in c.in-Ok.program = ap (λ (p : Program). p.classes) c.program.ensures in
    let ends = same_classes _ _ _ _ _ _ same c.run_program.ensures.ends in
    subst (HasCause _) (sym ends.is)
    (caused _ _ _ _ _ _
    (record { origin = Sampled c.args.seed; journal = false; asked = asked; compiled = sampled_of _ _ _ _ c.in-Ok.ensures.core; no_fault = refl })
    ends.within ends.alone ends.end ends.cause)

pub returns-in-Err-clause-cause : goal.returns-in-Err-clause-cause
returns-in-Err-clause-cause g c = λ words files reads asked.
    subst (HasCause _) (sym c.without_items.ensures.ending)
    (stopped _ (Sampled c.args.seed) _ (ap (option_and_then origin_of) asked) (record { no_items = (c.without_items.ensures.items, c.without_items.ensures.rounds); untouched = refl })
    (ended_as files (Sampled c.args.seed) (sample_files c.args.seed) reads reads _ refl refl c.in-Err.ensures.ends))
