-- Whether entries are what processes ask.
use Rattle.std.specs.Prelude.{◌≡◌, ◌++◌, ◌∷◌, ◌==◌, ℕ, List, map}
use Rattle.std.specs.List.{filter}
use Rattle.sr_ask.specs.declared.answer.Answer.{Answer}
use Rattle.sr_ask.specs.declared.ask.Asks.{Asks}
use Rattle.sr_ask.specs.declared.ask.Asks.TheVariants.{Asked}
use Rattle.sr_ask.specs.declared.entry.Entry.{Entry}

-- what a process was answered
abbrev pub answers_of : ℕ → List Entry → List Answer
answers_of process entries = map (λ (entry : Entry). entry.answer) (filter (λ entry. entry.actor == process) entries)

-- Here `plays` says what each process asks after its answers. Each entry is what its process asks after those that it got
-- before.
abbrev pub IsPlayed : (ℕ → List Answer → Asks) → List Entry → Type 0
IsPlayed plays entries = (before : List Entry) (entry : Entry) (after : List Entry) → entries ≡ before ++ entry ∷ after
    → plays entry.actor (answers_of entry.actor before) ≡ Asked entry.ask

-- a process that asks what is meant stands for the answers in these entries
abbrev pub Follows : (ℕ → List Answer → Asks) → List Entry → ℕ → (List Answer → Asks) → Type 0
Follows plays entries process meant = (more : List Answer) → meant more ≡ plays process (answers_of process entries ++ more)
