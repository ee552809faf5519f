use Rattle.std.proofs.Common.{◌≡◌, ◌-◌, length, refl, ◌∙◌, ap, slice_get, arith}
use Rattle.sr_ask.specs.declared.environment.Gives.TheVariants.{Values}
use Rattle.sr_meaning.specs.Processes.{line_of_component}
use Rattle.sr_gen.proofs.Programs.{enters_boot}
use Rattle.sr_gen.proofs.program.enter_boot.Goals as goal

pub returns-clause-grows : goal.returns-clause-grows
returns-clause-grows c = c.in_ok-gen_boot.ensures.grows

pub returns-clause-enters : goal.returns-clause-enters
returns-clause-enters c number =
    let main_is : c.in_ok-main.main ≡ length c.args.core.now.components - 1 = omega (arith, c.in_ok-main.ensures, c.saturating_sub.ensures, c.len.ensures) in
    enters_boot number _ c.in_ok-gen_boot.ensures c.len-2.ensures refl
    (c.line_at-place.ensures ∙ ap (λ main. line_of_component (slice_get c.args.core.now.components main)) main_is) refl (ap Values c.new.ensures)
