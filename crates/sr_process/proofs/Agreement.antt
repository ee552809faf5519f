-- A process of a compiled program asks what the program means.
use Rattle.std.proofs.Common.{◌≡◌, ℕ, List, [], Result, Ok, Err, IfOk, ◌∙◌}
use Rattle.sr_value.specs.declared.memory.NoMemory.{NoMemory}
use Rattle.sr_ask.specs.declared.answer.Answer.{Answer}
use Rattle.sr_ask.specs.declared.start.Start.{Start}
use Rattle.sr_code.specs.declared.code.Program.{Program}
use Rattle.sr_compiled.specs.declared.compiled.Compiled.{Compiled}
use Rattle.sr_meaning.specs.Processes.{ask}
use Rattle.sr_process.specs.Processes.{StandsFor, asks_after}
use Rattle.sr_process.specs.declared.process.Process.{Process}

pub started_means : (result : Result Process NoMemory) (start : Start) (limit : ℕ) → IfOk result (λ p. (program : Program) → StandsFor program p start limit [])
    → IfOk result (λ p. (compiled : Compiled) (more : List Answer) → asks_after compiled.program p more ≡ ask compiled.program.core start limit more)
started_means (Ok p) start limit stands = λ compiled more. (stands compiled.program).same more ∙ compiled.agrees start limit more
started_means (Err e) start limit stands = tt
