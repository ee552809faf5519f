-- The compiled program keeps its core and its classes, and a refusal is that of the files.
use Rattle.std.proofs.Common.{subst, sym}
use Rattle.sr_front.specs.Cores.{IsCoreOf}
use Rattle.sr_front.specs.Program.{IsRefused}
use Rattle.sr_front.specs.Reading.{IsRefusal, contents_of}
use Rattle.sr_top.proofs.program.compiled.Goals as goal

pub returns-in-Ok-clause-core : goal.returns-in-Ok-clause-core
returns-in-Ok-clause-core c =
    subst (λ program. IsCoreOf (contents_of c.args.texts.now) (program.core, program.classes)) (sym c.new.ensures) c.in-Ok.ensures.core

pub returns-in-Err-Refused-clause-ends : goal.returns-in-Err-Refused-clause-ends
returns-in-Err-Refused-clause-ends c =
    subst (IsRefusal (IsRefused (contents_of c.args.texts.now))) c.in-Err-Refused.field-0-is c.in-Err-Refused.ensures.refused
