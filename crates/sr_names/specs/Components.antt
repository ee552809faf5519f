-- The names of components' specs.
use Rattle.std.specs.Prelude.{ℕ, List, Option}
use Rattle.std.specs.Option.{option_and_then}
use Rattle.std.specs.Map.{lookup}
use Rattle.indexmap.specs.IndexMap.{insert_entry}
use Rattle.sr_names.specs.declared.meaning.Decl.{Decl}
use Rattle.sr_names.specs.declared.spot.Spot.{Spot}
use Rattle.sr_names.specs.Entries.{Entries}
use Rattle.sr_names.specs.Specs.{Specs}
use Rattle.sr_names.specs.Spots.{same_spot}
use Rattle.sr_names.specs.Tables.{declared_as}

-- what the spec of a component declares a name as
abbrev pub member_named : Specs → Spot → List ℕ → Option Decl
member_named specs component name = option_and_then (λ spec. declared_as spec name) (lookup (same_spot component) specs)

abbrev pub with_members : Specs → Spot → Entries → Specs
with_members specs component spec = insert_entry same_spot specs component spec
