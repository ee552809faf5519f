-- What the names of a program mean, or why it is refused.
use Rattle.std.specs.Prelude.{◌≡◌, List, [], ◌++◌, Option, Some, None, Result, Ok, Err}
use Rattle.sr_text.specs.declared.refusal.FrontFail.{FrontFail}
use Rattle.sr_text.specs.declared.refusal.FrontFail.TheVariants.{Refused, NoMemory}
use Rattle.sr_text.specs.declared.refusal.Kind.{Kind}
use Rattle.sr_text.specs.declared.refusal.Kind.TheVariants.{Name as name_kind, Twice as twice_kind, BadType as type_kind, BadUse as use_kind, Guard as guard_kind, Main as main_kind, Cycle as cycle_kind}
use Rattle.sr_text.specs.declared.refusal.Refusal.{Refusal}
use Rattle.sr_names.specs.declared.finding.Finding.{Finding}
use Rattle.sr_names.specs.declared.finding.Rule.{Rule}
use Rattle.sr_names.specs.declared.finding.Rule.TheVariants.{Name, Twice, BadType, BadUse, Guard, Main, Cycle}
use Rattle.sr_names.specs.declared.finding.Diagnostic.{Diagnostic}
use Rattle.sr_names.specs.declared.diagnostics.Diagnostics.{Diagnostics}
use Rattle.sr_names.specs.declared.place.Place.{Place}
use Rattle.sr_names.specs.Cycles.{cycles_found}
use Rattle.sr_names.specs.Diagnostics.{nothing, all_noted}
use Rattle.sr_names.specs.Specs.{Specs}
use Rattle.sr_tree.specs.declared.component.File.{File}
use Rattle.sr_scope.specs.declared.program.Names.{Names}
use Rattle.sr_scope.specs.Components.{files_collected, files_collected_twice, files_imports, files_found, main_found}

abbrev pub no_place : Place
no_place = record { components = []; specs = []; own = []; visible = []; within = None }

abbrev pub program : List File → Place
program files = files_collected files no_place

-- all that is found out about the names of a program
abbrev pub findings : List File → List Finding
findings files =
    files_collected_twice files no_place
    ++ (main_found files
    ++ (cycles_found (files_imports (program files).components files)
    ++ files_found (program files).components (program files).specs files))

abbrev pub kind_of : Rule → Kind
kind_of Name = name_kind
kind_of Twice = twice_kind
kind_of BadType = type_kind
kind_of BadUse = use_kind
kind_of Guard = guard_kind
kind_of Main = main_kind
kind_of Cycle = cycle_kind

abbrev pub refusal_of : Diagnostic → Refusal
refusal_of diagnostic = record { kind = kind_of diagnostic.rule; place = record { file = diagnostic.span.file; line = diagnostic.span.line } }

-- the first broken rule refuses the program; where none is broken the names have their meanings
abbrev pub answered : Diagnostics → Specs → Result Names Refusal
answered diagnostics specs = by diagnostics.first
  where
    by : Option Diagnostic → Result Names Refusal
    by None = Ok (record { uses = diagnostics.uses; specs = specs })
    by (Some diagnostic) = Err (refusal_of diagnostic)

abbrev pub resolved : List File → Result Names Refusal
resolved files = answered (all_noted nothing (findings files)) (program files).specs

-- an answer is what is meant, unless memory ran out
abbrev pub Answers : Result Names FrontFail → Result Names Refusal → Type 0
Answers (Ok names) meant = meant ≡ Ok names
Answers (Err (Refused refusal)) meant = meant ≡ Err refusal
Answers (Err NoMemory) meant = Unit {0}
