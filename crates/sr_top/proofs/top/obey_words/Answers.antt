-- The words give the command that is obeyed, or none.
use Rattle.std.proofs.Common.{inr, map, refl, subst, sym}
use Rattle.std.specs.Prelude.{string_bytes}
use Rattle.sr_top.specs.Journal.{EndsBeforeRun, HasHeaderIf, without}
use Rattle.sr_top.proofs.top.obey_words.Goals as goal

pub returns-in-Ok-clause-cause : goal.returns-in-Ok-clause-cause
returns-in-Ok-clause-cause g c = c.obey.ensures.cause _ c.in-Ok.ensures.command

pub returns-in-Ok-clause-header : goal.returns-in-Ok-clause-header
returns-in-Ok-clause-header g c = c.obey.ensures.header (map string_bytes c.args.words.now) c.in-Ok.ensures.command

pub returns-in-Ok-clause-in_range : goal.returns-in-Ok-clause-in_range
returns-in-Ok-clause-in_range g c = c.obey.ensures.in_range (map string_bytes c.args.words.now) c.in-Ok.ensures.command

pub returns-in-Ok-clause-names : goal.returns-in-Ok-clause-names
returns-in-Ok-clause-names g c = c.obey.ensures.names (map string_bytes c.args.words.now) c.in-Ok.ensures.command

pub returns-in-Err-Usage-clause-header : goal.returns-in-Err-Usage-clause-header
returns-in-Err-Usage-clause-header g c =
    subst (HasHeaderIf _ _) (sym c.early.ensures.header)
    (without (inr (record { no_items = (c.early.ensures.items, c.early.ensures.rounds); untouched = refl }, subst EndsBeforeRun (sym c.early.ensures.ending) tt)))

pub returns-in-Err-NoMemory-clause-header : goal.returns-in-Err-NoMemory-clause-header
returns-in-Err-NoMemory-clause-header g c =
    subst (HasHeaderIf _ _) (sym c.early-in-Err-NoMemory.ensures.header)
    (without (inr (record { no_items = (c.early-in-Err-NoMemory.ensures.items, c.early-in-Err-NoMemory.ensures.rounds); untouched = refl }, subst EndsBeforeRun (sym c.early-in-Err-NoMemory.ensures.ending) tt)))
