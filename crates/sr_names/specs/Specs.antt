-- What a contract sees of the specs of all components: by the spot of a component's name, the names of its spec.
use Rattle.std.specs.Prelude.{List}
use Rattle.sr_names.specs.declared.spot.Spot.{Spot}
use Rattle.sr_names.specs.Entries.{Entries}

abbrev pub Specs : Type 0
Specs = List (Spot × Entries)
