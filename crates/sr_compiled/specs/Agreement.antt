-- Code that asks what its core says.
use Rattle.std.specs.Prelude.{◌≡◌, ℕ, List}
use Rattle.std.specs.Coded.{Coded-set, Π_prop}
use Rattle.sr_ask.specs.contracts.ask.Asks as asks
use Rattle.sr_ask.specs.declared.answer.Answer.{Answer}
use Rattle.sr_ask.specs.declared.start.Start.{Start}
use Rattle.sr_core.specs.declared.component.Core.{Core}
use Rattle.sr_code.specs.Runs.{code_ask}
use Rattle.sr_code.specs.declared.code.Code.{Code}
use Rattle.sr_meaning.specs.Processes.{ask}

-- for each process, after each list of answers
abbrev pub AsksTheSame : Core → Code → Type 0
AsksTheSame core code = (start : Start) (limit : ℕ) (answers : List Answer) → code_ask core code start limit answers ≡ ask core start limit answers

-- there is one proof of it at most
pub AsksTheSame-prop : (core : Core) (code : Code) → IsProp (AsksTheSame core code)
AsksTheSame-prop core code =
    Π_prop (λ start. Π_prop (λ limit. Π_prop (λ answers. Coded-set asks.the_row.coded (code_ask core code start limit answers) (ask core start limit answers))))
