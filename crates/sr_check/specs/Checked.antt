-- Whether a program meets the rules of kinds and types, and what is known of it then.
use Rattle.std.specs.Prelude.{◌≡◌, List, Option, Some, None, Result, Ok, Err}
use Rattle.sr_text.specs.declared.refusal.FrontFail.{FrontFail}
use Rattle.sr_text.specs.declared.refusal.FrontFail.TheVariants.{Refused, NoMemory}
use Rattle.sr_text.specs.declared.refusal.Refusal.{Refusal}
use Rattle.sr_names.specs.declared.finding.Diagnostic.{Diagnostic}
use Rattle.sr_names.specs.Noted.{Meanings}
use Rattle.sr_names.specs.Diagnostics.{nothing, all_noted}
use Rattle.sr_names.specs.Specs.{Specs}
use Rattle.sr_scope.specs.Resolved.{refusal_of}
use Rattle.sr_tree.specs.declared.component.File.{File}
use Rattle.sr_check_expr.specs.declared.facts.Facts.{Facts}
use Rattle.sr_check_decl.specs.Cycles.{type_cycles_found, leads_left}
use Rattle.sr_check_decl.specs.Inferring.{program_inferred, program_known}
use Rattle.sr_check_decl.specs.Waiting.{files_waiting}
use Rattle.sr_check.specs.Components.{files_read}
use Rattle.sr_check.specs.Contexts.{Step, with_more}

-- all that is found where the kinds and types of a program are looked at, and all that is declared in it
abbrev pub checked : Meanings → Specs → List File → Step
checked uses specs files =
    with_more (type_cycles_found (leads_left (program_inferred uses specs files) (files_waiting files))) (files_read files (program_known uses specs files))

-- the first of all broken rules by file and byte, and at one token by number
abbrev pub first_refused : Meanings → Specs → List File → Option Diagnostic
first_refused uses specs files = (all_noted nothing (checked uses specs files).found).first

-- a program is refused by the first rule that is broken; where none is broken it has what is declared in it
abbrev pub verdict_by : Option Diagnostic → Facts → Result Facts Refusal
verdict_by None facts = Ok facts
verdict_by (Some diagnostic) facts = Err (refusal_of diagnostic)

abbrev pub verdict : Meanings → Specs → List File → Result Facts Refusal
verdict uses specs files = verdict_by (first_refused uses specs files) (checked uses specs files).facts

-- an answer is the verdict, unless memory ran out
abbrev pub Answers : Result Facts FrontFail → Result Facts Refusal → Type 0
Answers (Ok facts) meant = meant ≡ Ok facts
Answers (Err (Refused refusal)) meant = meant ≡ Err refusal
Answers (Err NoMemory) meant = Unit {0}
