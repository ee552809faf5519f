-- The files are a program, and the call is done; or there is none, and the call ends for that reason.
use Rattle.std.proofs.Common.{ap, inl, refl, subst, sym}
use Rattle.std.specs.Prelude.{option_and_then}
use Rattle.sr_top.proofs.Endings.{stopped}
use Rattle.sr_top.specs.Causes.{HasCause}
use Rattle.sr_top.specs.Tasks.{Named, origin_of}
use Rattle.sr_top.proofs.obeying.check_files.Goals as goal

pub returns-in-Ok-clause-cause : goal.returns-in-Ok-clause-cause
returns-in-Ok-clause-cause g c = λ words devices asked.
    subst (HasCause _) (sym c.without_items.ensures.ending)
    (inl
    (record {
      names = c.args.names.now;
      asked = asked;
      core = _;
      classes = _;
      compiled = c.in-Ok.ensures.compiled;
      no_fault = c.in-Ok.ensures.no_fault;
      nothing = record { no_items = (c.without_items.ensures.items, c.without_items.ensures.rounds); untouched = refl };
    }))

pub returns-in-Err-clause-cause : goal.returns-in-Err-clause-cause
returns-in-Err-clause-cause g c = λ words devices asked.
    subst (HasCause _) (sym c.without_items-in-Err.ensures.ending)
    (stopped _ (Named c.args.names.now) _ (ap (option_and_then origin_of) asked) (record { no_items = (c.without_items-in-Err.ensures.items, c.without_items-in-Err.ensures.rounds); untouched = refl }) c.in-Err.ensures.ends)
