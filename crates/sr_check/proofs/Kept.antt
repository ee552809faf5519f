-- The facts of a program that breaks no rule: those known after all its files, with the meanings that its names had before.
use Rattle.std.proofs.Common.{◌≡◌, Bool, Option, None, Some, Ok, Result, List, refl, sym, ap, is_ok}
use Rattle.std.specs.List.{All, Contains}
use Rattle.std.proofs.lemmas.Bool.{false≢true}
use Rattle.sr_types.specs.declared.ty.Ty.{Ty}
use Rattle.sr_check_expr.specs.declared.facts.Facts.{Facts}
use Rattle.sr_check_expr.specs.declared.info.Info.TheVariants as info
use Rattle.sr_check_expr.specs.Infos.{info_at}
use Rattle.sr_check_decl.specs.Cycles.{type_cycles_found, leads_left}
use Rattle.sr_check_decl.specs.Inferring.{program_inferred, program_known}
use Rattle.sr_check_decl.specs.Waiting.{files_waiting}
use Rattle.sr_names.specs.declared.finding.Diagnostic.{Diagnostic}
use Rattle.sr_names.specs.Noted.{Meanings}
use Rattle.sr_names.specs.declared.spot.Spot.{Spot}
use Rattle.sr_names.specs.Specs.{Specs}
use Rattle.sr_text.specs.declared.refusal.Refusal.{Refusal}
use Rattle.sr_tree.specs.declared.component.File.{File}
use Rattle.sr_check.specs.Checked.{checked, first_refused, verdict, verdict_by}
use Rattle.sr_check.specs.Components.{files_read}
use Rattle.sr_check.specs.ErrorFree.{ErrorFree}
use Rattle.sr_check.specs.Owners.{declared_operations, file_owned}
use Rattle.sr_check.specs.Servicing.{AllServiceOwn, ServicesOwn}
use Rattle.sr_check.proofs.Each.{all_of, each-parts}
use Rattle.sr_check.proofs.Owners.{known_now}
use Rattle.sr_check.proofs.Programs.{AtFirst, Sure, all_declared, finds_files, keeps_files, program_sure}
use Rattle.sr_check.proofs.ErrorFree.{error_free, error_free_second}

pub sure_after : (uses : Meanings) (specs : Specs) (files : List File) → Sure uses files (program_known uses specs files) (files_read files (program_known uses specs files)).facts
sure_after uses specs files =
    keeps_files uses files (program_known uses specs files) files (program_known uses specs files) (each-parts (Contains (declared_operations files)) file_owned files (all_declared files))
    (program_sure uses specs files)

-- what is known of an operation after all files
pub after_known : (uses : Meanings) (specs : Specs) (files : List File) (spot : Spot) (ty : Ty) (component : Spot) (is_local : Bool)
    → info_at (files_read files (program_known uses specs files)).facts.infos spot ≡ Some (info.Operation ty component is_local)
    → AtFirst uses files (program_known uses specs files) (files_read files (program_known uses specs files)).facts.signatures spot ty component is_local
after_known uses specs files =
    known_now (AtFirst uses files (program_known uses specs files)) (files_read files (program_known uses specs files)).facts (sure_after uses specs files).1

-- what names mean stays
pub uses_kept : (uses : Meanings) (specs : Specs) (files : List File) → (checked uses specs files).facts.uses ≡ uses
uses_kept uses specs files = (sure_after uses specs files).0

ok_same : (known facts : Facts) → ◌≡◌ {A = Result Facts Refusal} (Ok known) (Ok facts) → known ≡ facts
ok_same known facts e = cc

those : (first : Option Diagnostic) (known facts : Facts) → verdict_by first known ≡ Ok facts → facts ≡ known
those None known facts e = sym (ok_same known facts e)
those (Some diagnostic) known facts e = absurd (false≢true (ap is_ok e))

none_first : (first : Option Diagnostic) (known facts : Facts) → verdict_by first known ≡ Ok facts → first ≡ None
none_first None known facts e = refl
none_first (Some diagnostic) known facts e = absurd (false≢true (ap is_ok e))

pub facts_known : (uses : Meanings) (specs : Specs) (files : List File) (facts : Facts) → verdict uses specs files ≡ Ok facts → facts ≡ (checked uses specs files).facts
facts_known uses specs files facts e = those (first_refused uses specs files) (checked uses specs files).facts facts e

pub none_refused : (uses : Meanings) (specs : Specs) (files : List File) (facts : Facts) → verdict uses specs files ≡ Ok facts → first_refused uses specs files ≡ None
none_refused uses specs files facts e = none_first (first_refused uses specs files) (checked uses specs files).facts facts e

-- where no rule is broken, nothing is found
pub none_found : (uses : Meanings) (specs : Specs) (files : List File) → first_refused uses specs files ≡ None → ErrorFree (checked uses specs files).found
none_found uses specs files none =
    error_free (checked uses specs files).found none

-- where no rule is broken each component services its own operations
pub all_service_own : (uses : Meanings) (specs : Specs) (files : List File) → first_refused uses specs files ≡ None → AllServiceOwn uses files (program_known uses specs files)
all_service_own uses specs files none =
    let known = program_known uses specs files in
    all_of (λ file. All (ServicesOwn uses files known) file.components) files
    (finds_files uses files known files known (each-parts (Contains (declared_operations files)) file_owned files (all_declared files)) (program_sure uses specs files)
    (error_free_second (type_cycles_found (leads_left (program_inferred uses specs files) (files_waiting files))) (files_read files known).found
    (none_found uses specs files none)))
