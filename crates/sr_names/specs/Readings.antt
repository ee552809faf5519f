-- What is found where a name is used or declared.
use Rattle.std.specs.Prelude.{ℕ, Bool, not, is_some, List, [], ◌∷◌, Option, Some, None, if◌then◌else◌}
use Rattle.sr_value.specs.declared.place.Span.{Span}
use Rattle.sr_names.specs.declared.finding.Finding.{Finding}
use Rattle.sr_names.specs.declared.finding.Finding.TheVariants.{Use, Broken}
use Rattle.sr_names.specs.declared.finding.Rule.{Rule}
use Rattle.sr_names.specs.declared.finding.Rule.TheVariants.{Name, Twice}
use Rattle.sr_names.specs.declared.meaning.Decl.{Decl}
use Rattle.sr_names.specs.declared.meaning.Meaning.{Meaning}
use Rattle.sr_names.specs.declared.meaning.Sort.{Sort}
use Rattle.sr_names.specs.declared.place.Blocks.{Blocks}
use Rattle.sr_names.specs.declared.place.Place.{Place}
use Rattle.sr_names.specs.Entries.{Entries}
use Rattle.sr_names.specs.Scopes.{denotes, member}
use Rattle.sr_names.specs.Spots.{spot_of}
use Rattle.sr_names.specs.Tables.{declared_as}

abbrev pub broken : Rule → Span → Finding
broken rule span = Broken (record { rule = rule; span = span })

-- a name that means nothing is unknown, ambiguous or not yet usable
abbrev pub reading : Option Meaning → Span → Finding
reading (Some meaning) span = Use (spot_of span) meaning
reading None span = broken Name span

-- a name that is used
abbrev pub read_found : Place → Blocks → List ℕ → Span → List Finding
read_found place blocks name span = reading (denotes place blocks name (spot_of span)) span ∷ []

-- a name that is used after a component's name and a point
abbrev pub member_found : Place → Decl → List ℕ → Span → List Finding
member_found place component name span = reading (member place component name (spot_of span)) span ∷ []

-- a declaration is known by the spot of its name
abbrev pub declaration : Sort → Span → Decl
declaration sort span = record { sort = sort; spot = spot_of span }

abbrev pub twice_unless : Bool → Span → List Finding
twice_unless is_new span = if is_new then [] else broken Twice span ∷ []

-- a name that its scope declares already
abbrev pub twice_found : Entries → List ℕ → Span → List Finding
twice_found table name span = twice_unless (not (is_some (declared_as table name))) span
