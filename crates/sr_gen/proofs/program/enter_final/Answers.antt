use Rattle.std.proofs.Common.{refl, ap}
use Rattle.sr_ask.specs.declared.environment.Gives.TheVariants.{Values}
use Rattle.sr_gen.proofs.Programs.{enters_final, enters_no_final}
use Rattle.sr_gen.proofs.program.enter_final.Goals as goal

pub returns-in-None-clause-enters : goal.returns-in-None-clause-enters
returns-in-None-clause-enters c number is = enters_no_final number c.args.component.now _ _ is c.in-None.is refl refl refl (ap Values c.new.ensures)

pub returns-in_ok-gen_final-in-Some-clause-enters : goal.returns-in_ok-gen_final-in-Some-clause-enters
returns-in_ok-gen_final-in-Some-clause-enters c number is =
    enters_final number c.args.component.now c.in-Some.body _ is c.in-Some.is c.in_ok-gen_final-in-Some.ensures c.len.ensures refl refl (ap Values c.new-in-Some.ensures)
