-- The meanings of uses.
use Rattle.std.specs.Prelude.{Option}
use Rattle.std.specs.Map.{lookup}
use Rattle.indexmap.specs.IndexMap.{insert_entry}
use Rattle.sr_names.specs.declared.meaning.Meaning.{Meaning}
use Rattle.sr_names.specs.declared.spot.Spot.{Spot}
use Rattle.sr_names.specs.Noted.{Meanings}
use Rattle.sr_names.specs.Spots.{same_spot}

-- the meaning of the name that is used at a spot
abbrev pub meaning_at : Meanings → Spot → Option Meaning
meaning_at meanings spot = lookup (same_spot spot) meanings

abbrev pub with_use : Meanings → Spot → Meaning → Meanings
with_use meanings spot meaning = insert_entry same_spot meanings spot meaning
