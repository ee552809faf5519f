-- How what a function of the parser answers is told by a reader.
use Rattle.std.specs.Prelude.{◌≡◌, ℕ, Result, Ok, Err}
use Rattle.sr_parse_tokens.specs.declared.reading.ReadFail.{ReadFail}
use Rattle.sr_parse_tokens.specs.declared.reading.ReadFail.TheVariants as fail

abbrev pub Fails : {Y : Type 0} → ReadFail → Result Y ℕ → Type 0
Fails (fail.Unexpected left) read = read ≡ Err left
Fails fail.NoMemory read = Unit {0}

-- the answer, seen by a view, is what reading gives, unless memory ran out
abbrev pub Gives : {X Y : Type 0} → (X → Y) → Result X ReadFail → Result Y ℕ → Type 0
Gives view (Ok x) read = read ≡ Ok (view x)
Gives view (Err e) read = Fails e read
