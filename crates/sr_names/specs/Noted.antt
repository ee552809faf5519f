-- What a contract sees of the uses of names: spots with meanings.
use Rattle.std.specs.Prelude.{List}
use Rattle.sr_names.specs.declared.meaning.Meaning.{Meaning}
use Rattle.sr_names.specs.declared.spot.Spot.{Spot}

abbrev pub Meanings : Type 0
Meanings = List (Spot × Meaning)
