-- Declarations whose types lead to themselves: by links from a declaration to those that its value names, as imports of
-- globals lead to globals.
use Rattle.std.specs.Prelude.{Bool, true, false, List, [], ◌∷◌, ◌++◌, Option, Some, None}
use Rattle.sr_value.specs.declared.place.Span.{Span}
use Rattle.sr_names.specs.declared.finding.Finding.{Finding}
use Rattle.sr_names.specs.declared.finding.Rule.TheVariants.{BadType}
use Rattle.sr_names.specs.declared.cycles.Import.{Import}
use Rattle.sr_names.specs.declared.finding.Diagnostic.{Diagnostic}
use Rattle.sr_names.specs.declared.meaning.Decl.{Decl}
use Rattle.sr_names.specs.Cycles.{cycles_found}
use Rattle.sr_names.specs.Diagnostics.{nothing, all_noted}
use Rattle.sr_names.specs.Readings.{broken}
use Rattle.sr_names.specs.Spots.{spot_of}
use Rattle.sr_names.specs.Uses.{meaning_at}
use Rattle.sr_check_expr.specs.declared.facts.Facts.{Facts}
use Rattle.sr_check_expr.specs.Naming.{decl_of}
use Rattle.sr_check_decl.specs.Inferring.{is_settled}
use Rattle.sr_check_decl.specs.NamesIn.{names_in}
use Rattle.sr_check_decl.specs.Waiting.{Waiting}

abbrev pub leads_to : Waiting → Option Decl → List Import
leads_to waiting None = []
leads_to waiting (Some decl) = record { link = record { from = waiting.spot; to = decl.spot }; span = waiting.span } ∷ []

-- a declaration leads to those that its value names
abbrev pub leads_of : Facts → Waiting → List Span → List Import
leads_of facts waiting [] = []
leads_of facts waiting (span ∷ spans) = leads_to waiting (decl_of (meaning_at facts.uses (spot_of span))) ++ leads_of facts waiting spans

abbrev pub leads_unless : Bool → Facts → Waiting → List Import
leads_unless true facts waiting = []
leads_unless false facts waiting = leads_of facts waiting (names_in waiting.value)

-- of those that weren't settled
abbrev pub leads_left : Facts → List Waiting → List Import
leads_left facts [] = []
leads_left facts (waiting ∷ more) = leads_unless (is_settled facts waiting) facts waiting ++ leads_left facts more

-- a declaration without a type that leads to itself through values is refused: the first of them, since others after
-- it decide nothing
abbrev pub refused_by : Option Diagnostic → List Finding
refused_by None = []
refused_by (Some diagnostic) = broken BadType diagnostic.span ∷ []

abbrev pub type_cycles_found : List Import → List Finding
type_cycles_found leads = refused_by (all_noted nothing (cycles_found leads)).first
