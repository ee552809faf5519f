-- The commands, and how they are written.
use Rattle.std.specs.Prelude.{ℕ, List, codes, Option, Some, None, if◌then◌else◌}
use Rattle.std.specs.Str.{bytes_eq}
use Rattle.sr_words.specs.declared.verb.Verb.{Verb}
use Rattle.sr_words.specs.declared.verb.Verb.TheVariants.{Run, Check, Classes, Fmt, Gen, Replay, Races, Trace}

-- the command that is written as a word
abbrev pub verb_of : List ℕ → Option Verb
verb_of word =
    if bytes_eq word (codes "run") then Some Run
    else if bytes_eq word (codes "check") then Some Check
    else if bytes_eq word (codes "classes") then Some Classes
    else if bytes_eq word (codes "fmt") then Some Fmt
    else if bytes_eq word (codes "gen") then Some Gen
    else if bytes_eq word (codes "replay") then Some Replay
    else if bytes_eq word (codes "races") then Some Races
    else if bytes_eq word (codes "trace") then Some Trace
    else None
