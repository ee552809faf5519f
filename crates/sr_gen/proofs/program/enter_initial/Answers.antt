use Rattle.std.proofs.Common.{refl}
use Rattle.sr_gen.proofs.Programs.{enters_initial}
use Rattle.sr_gen.proofs.program.enter_initial.Goals as goal

pub returns-clause-grows : goal.returns-clause-grows
returns-clause-grows c = c.in_ok-gen_initial.ensures.grows

pub returns-clause-enters : goal.returns-clause-enters
returns-clause-enters c number is = enters_initial number c.args.component.now _ is c.in_ok-gen_initial.ensures c.len.ensures refl refl refl
