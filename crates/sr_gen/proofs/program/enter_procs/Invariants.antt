-- The first procs are laid out, each with its entry.
use Rattle.sr_ask.specs.declared.ask.Role.TheVariants.{Proc as proc_role}
use Rattle.sr_gen.specs.Programs.{LaysOut}
use Rattle.sr_gen.proofs.program.enter_procs.Given as goal

abbrev pub invariant-loop-proc : goal.invariant-loop-proc
invariant-loop-proc l = LaysOut l.core proc_role l.proc-index l.entries l.initial.out l.out
