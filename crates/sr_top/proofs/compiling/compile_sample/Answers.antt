-- The program is that of the sample.
use Rattle.std.proofs.Common.{◌∙◌, subst}
use Rattle.std.specs.Prelude.{IfErr, IfOk}
use Rattle.sr_front.specs.Cores.{IsCoreOf}
use Rattle.sr_front.specs.Reading.{contents_of}
use Rattle.sr_top.specs.Programs.{classes_in, core_in}
use Rattle.sr_top.specs.Reading.{StopsCompiling}
use Rattle.sr_top.proofs.compiling.compile_sample.Goals as goal

pub returns-in-Ok-clause-core : goal.returns-in-Ok-clause-core
returns-in-Ok-clause-core c =
    subst (λ texts. IfOk c.compiled.result (λ program. IsCoreOf (contents_of texts) (core_in program, classes_in program))) (c.as_slice.ensures ∙ c.in-Ok.ensures) c.compiled.ensures.core

pub returns-in-Ok-clause-ends : goal.returns-in-Ok-clause-ends
returns-in-Ok-clause-ends c = subst (λ texts. IfErr c.compiled.result (StopsCompiling texts)) (c.as_slice.ensures ∙ c.in-Ok.ensures) c.compiled.ensures.ends
