use Rattle.std.proofs.Common.{refl, ◌∙◌, ap, slice_get}
use Rattle.sr_ask.specs.declared.environment.Gives.TheVariants.{Values}
use Rattle.sr_core.specs.Formals.{result_vars}
use Rattle.sr_meaning.specs.Processes.{line_of_component}
use Rattle.sr_gen.proofs.Programs.{enters_proc}
use Rattle.sr_gen.proofs.program.enter_proc.Goals as goal

pub returns-clause-grows : goal.returns-clause-grows
returns-clause-grows c = (c.in_ok-gen_proc.ensures c.line_at.result).grows

pub returns-clause-enters : goal.returns-clause-enters
returns-clause-enters c number is =
    enters_proc number c.args.proc.now _ is c.in_ok-gen_proc.ensures c.len.ensures
    (c.line_at.ensures ∙ ap (λ component. line_of_component (slice_get c.args.core.now.components component)) c.component_of.ensures) refl
    (ap Values (c.in_ok-vars.ensures ∙ ap (λ formals. result_vars formals c.args.proc.now.returned) c.as_slice.ensures))
