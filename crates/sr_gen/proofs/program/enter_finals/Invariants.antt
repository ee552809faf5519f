-- The first components are laid out, each with its entry.
use Rattle.sr_ask.specs.declared.ask.Role.TheVariants.{Final}
use Rattle.sr_gen.specs.Programs.{LaysOut}
use Rattle.sr_gen.proofs.program.enter_finals.Given as goal

abbrev pub invariant-loop-component : goal.invariant-loop-component
invariant-loop-component l = LaysOut l.core Final l.component-index l.entries l.initial.out l.out
