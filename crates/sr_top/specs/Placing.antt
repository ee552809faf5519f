-- The lines that tell at which place each process asks.
use Rattle.std.specs.Prelude.{ℕ, Bool, List, [], ◌∷◌, ◌++◌, codes, flat_map, if◌then◌else◌}
use Rattle.std.specs.Fmt.{decimal}
use Rattle.sr_ask.specs.declared.ask.Asks.{Asks}
use Rattle.sr_ask.specs.declared.ask.Asks.TheVariants.{Asked, OverTicks}
use Rattle.sr_core.specs.declared.component.Core.{Core}
use Rattle.sr_replay.specs.Texts.{snapshot_text}
use Rattle.sr_replay.specs.declared.snapshot.ShownProcess.{ShownProcess}
use Rattle.sr_replay.specs.declared.snapshot.Snapshot.{Snapshot}
use Rattle.sr_top.specs.Report.{file_name}

-- `process NUMBER at FILE:LINE`
abbrev pub words_of : List ℕ → List ℕ → List ℕ → List ℕ
words_of process file line = codes "process " ++ process ++ codes " at " ++ file ++ codes ":" ++ line ++ 10 ∷ []

-- the place of what a process asks; one that is over its ticks asks nothing
abbrev pub asks_line : List (List ℕ) → ℕ → Asks → List ℕ
asks_line names process (Asked ask) = words_of (decimal process) (file_name names ask.place.file) (decimal ask.place.line)
asks_line names process OverTicks = []

abbrev pub place_line : List (List ℕ) → ShownProcess → List ℕ
place_line names process = asks_line names process.process process.asks

-- the lines of what is to be seen, and after them those of places, where they are asked for
abbrev pub shown_text : Core → List (List ℕ) → Bool → Snapshot → List ℕ
shown_text core names places snapshot =
    if places then snapshot_text core snapshot ++ flat_map (place_line names) snapshot.processes else snapshot_text core snapshot
