-- In an accepted program all that is known before any statement is looked at has a type and, where it is an operation, a signature.
use Rattle.std.proofs.Common.{◌≡◌, List, flat_map, map, None, Ok}
use Rattle.std.specs.List.{IsDistinct}
use Rattle.sr_check.specs.ErrorFree.{ErrorFree}
use Rattle.sr_check.specs.Checked.{first_refused}
use Rattle.sr_check_decl.specs.Declaring.{files_named, no_facts}
use Rattle.sr_check_decl.specs.Inferring.{program_known}
use Rattle.sr_names.specs.Spots.{same_spot, spot_of}
use Rattle.sr_order.specs.Names.{file_names}
use Rattle.sr_scope.specs.declared.program.Names.{Names}
use Rattle.sr_scope.specs.Resolved.{resolved}
use Rattle.sr_tree.specs.declared.component.File.{File}
use Rattle.sr_front.proofs.Headed.Heads.{heads_found}
use Rattle.sr_front.proofs.Known.Declared.{Apart}
use Rattle.sr_front.proofs.Known.DeclaredAgrees.{FilesAgree}
use Rattle.sr_front.proofs.Known.HalfProgram.{Ending, half_declared}
use Rattle.sr_front.proofs.Typed.NumberedWaves.{known_half}
use Rattle.sr_front.proofs.Typed.TypedCode.{Good}
use Rattle.sr_front.proofs.Typed.TypedKnown.{good_known, known_signed}

-- where names in types agree with the end
pub program_good : (files : List File) (names : Names) → resolved files ≡ Ok names → (distinct : IsDistinct same_spot (map spot_of (flat_map file_names files))) → Apart files → first_refused names.uses names.specs files ≡ None → ErrorFree (heads_found names.uses names.specs files)
    → FilesAgree (Ending names.uses names.specs files) files (record { facts = files_named files (no_facts names.uses names.specs); enumerations = 0 })
    → Good (program_known names.uses names.specs files)
program_good files names named distinct apart none headed agree =
    let signed = known_signed names.uses names.specs files apart headed distinct in
    good_known names.uses names.specs files apart headed distinct (known_half files names named distinct none (half_declared names.uses names.specs files none agree) signed)
