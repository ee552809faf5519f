-- What declared names are.
use Rattle.std.specs.Prelude.{Option}
use Rattle.std.specs.Map.{lookup}
use Rattle.indexmap.specs.IndexMap.{insert_entry}
use Rattle.sr_check_expr.specs.declared.info.Info.{Info}
use Rattle.sr_check_expr.specs.Entries.{Entries}
use Rattle.sr_names.specs.declared.spot.Spot.{Spot}
use Rattle.sr_names.specs.Spots.{same_spot}
use Rattle.sr_types.specs.declared.spot.Spot as types

-- what the name is that is declared at a spot
abbrev pub info_at : Entries → Spot → Option Info
info_at entries spot = lookup (same_spot spot) entries

abbrev pub with_info : Entries → Spot → Info → Entries
with_info entries spot info = insert_entry same_spot entries spot info

-- the spot of a declaration, as types and as names tell it
abbrev pub type_spot : Spot → types.Spot
type_spot spot = record { file = spot.file; byte = spot.from }

abbrev pub name_spot : types.Spot → Spot
name_spot spot = record { file = spot.file; from = spot.byte }
