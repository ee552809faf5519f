-- What is found of the names of a program that isn't refused for them.
use Rattle.std.proofs.Common.{◌≡◌, ◌⊎◌, Bool, true, false, List, [], ◌∷◌, Option, None, Some, Ok, refl, ap, sym, ◌∙◌, subst, inl, inr, if◌then◌else◌}
use Rattle.std.specs.Option.{option_map}
use Rattle.std.specs.List.{list_all}
use Rattle.std.proofs.lemmas.Bool.{true≢false, false≢true, and_parts}
use Rattle.std.proofs.lemmas.List.Folds.{list_all-append}
use Rattle.sr_names.specs.declared.cycles.Import.{Import}
use Rattle.sr_names.specs.declared.finding.Finding.{Finding}
use Rattle.sr_names.specs.declared.finding.Rule.TheVariants.{Main, Cycle}
use Rattle.sr_names.specs.declared.links.Link.{Link}
use Rattle.sr_names.specs.declared.meaning.Decl.{Decl}
use Rattle.sr_names.specs.declared.meaning.Meaning.TheVariants.{Declared}
use Rattle.sr_names.specs.Cycles.{links_of, cycle_found, all_cycles_found, cycles_found}
use Rattle.sr_names.specs.Entries.{Entries}
use Rattle.sr_names.specs.Links.{connects}
use Rattle.sr_names.specs.Readings.{broken, reading}
use Rattle.sr_names.specs.Spots.{spot_of}
use Rattle.sr_names.specs.Tables.{declared_as}
use Rattle.sr_names.specs.Uses.{meaning_at}
use Rattle.sr_scope.specs.declared.program.Names.{Names}
use Rattle.sr_scope.specs.Components.{can_be_main, last_component, main_found, start_of, files_imports, files_collected_twice, files_found, own_twice, imports_found, import_found, imports_of}
use Rattle.sr_scope.specs.Resolved.{resolved, findings, program, no_place}
use Rattle.sr_tables.specs.Parts.{components_in}
use Rattle.sr_tree.specs.declared.component.Component.{Component}
use Rattle.sr_tree.specs.declared.component.File.{File}
use Rattle.sr_tree.specs.declared.name.Name.{Name}
use Rattle.sr_scope.proofs.Findings.{all_at, all_from, all_uses, in_left, in_program, in_right, is_use, use_means}
use Rattle.sr_scope.specs.Uses.{IsIn, OneMeaning}

-- ---- main

main_from : (b : Bool) (found : Finding) → is_use found ≡ false → list_all is_use (if b then [] else found ∷ []) ≡ true → b ≡ true
main_from true found n e = refl
main_from false found n e = absurd (true≢false (sym (and_parts (is_use found) true e).0 ∙ n))

-- the last component can be main
pub has_main : (files : List File) (names : Names) → resolved files ≡ Ok names → can_be_main (last_component files) ≡ true
has_main files names e =
    main_from (can_be_main (last_component files)) (broken Main (start_of files)) refl
    (all_from is_use (main_found files) (λ finding among. all_at is_use (findings files) (all_uses files names e) finding
    (in_right finding (files_collected_twice files no_place) _ (in_left finding (main_found files) _ among))))

-- ---- cycles

cycle_from : (b : Bool) (found : Finding) → is_use found ≡ false → list_all is_use (if b then found ∷ [] else []) ≡ true → b ≡ false
cycle_from true found n e = absurd (true≢false (sym (and_parts (is_use found) true e).0 ∙ n))
cycle_from false found n e = refl

no_cycle_among : (links : List Link) (imports : List Import) → list_all is_use (all_cycles_found links imports) ≡ true
    → (import : Import) → IsIn import imports → connects links import.link.to import.link.from ≡ false
no_cycle_among links [] h import k = absurd k
no_cycle_among links (first ∷ imports) h import k =
    by k (and_parts (list_all is_use (cycle_found links first)) _ (sym (list_all-append is_use (cycle_found links first) (all_cycles_found links imports)) ∙ h))
    (λ h. no_cycle_among links imports h import)
  where
    by : (first ≡ import) ⊎ IsIn import imports → (list_all is_use (cycle_found links first) ≡ true) × (list_all is_use (all_cycles_found links imports) ≡ true)
        → (list_all is_use (all_cycles_found links imports) ≡ true → IsIn import imports → connects links import.link.to import.link.from ≡ false)
        → connects links import.link.to import.link.from ≡ false
    by (inl e) both more =
        subst (λ (i : Import). connects links i.link.to i.link.from ≡ false) e
        (cycle_from (connects links first.link.to first.link.from) (broken Cycle first.span) refl both.0)
    by (inr k) both more = more both.1 k

-- no import leads back
pub no_import_back : (files : List File) (names : Names) → resolved files ≡ Ok names
    → (import : Import) → IsIn import (files_imports (program files).components files)
    → connects (links_of (files_imports (program files).components files)) import.link.to import.link.from ≡ false
no_import_back files names e import k =
    no_cycle_among (links_of (files_imports (program files).components files)) (files_imports (program files).components files) cycles import k
  where
    found : List Finding
    found = files_found (program files).components (program files).specs files

    cycles : list_all is_use (cycles_found (files_imports (program files).components files)) ≡ true
    cycles = all_from is_use _ (λ finding among. all_at is_use (findings files) (all_uses files names e) finding
        (in_right finding (files_collected_twice files no_place) _ (in_right finding (main_found files) _ (in_left finding _ found among))))

-- ---- meanings

import_among : (components : Entries) (names : List Name) (name : Name) → IsIn name names → IsIn (import_found components name) (imports_found components names)
import_among components [] name h = absurd h
import_among components (first ∷ names) name (inl e) = inl (ap (import_found components) e)
import_among components (first ∷ names) name (inr h) = inr (import_among components names name h)

-- an imported name means what the program declares
pub import_means : (files : List File) (names : Names) → resolved files ≡ Ok names → OneMeaning (findings files)
    → (name : Name) (component : Component) → IsIn component (components_in files) → IsIn name (imports_of component)
    → (d : Decl) × (declared_as (program files).components name.text ≡ Some d) × (meaning_at names.uses (spot_of name.span) ≡ Some (Declared d))
import_means files names e one name component there among =
    by (declared_as components name.text) refl (all_at is_use (findings files) (all_uses files names e) (import_found components name) is_found)
  where
    components : Entries
    components = (program files).components

    is_found : IsIn (import_found components name) (findings files)
    is_found =
        in_program files component there (import_found components name)
        (in_right _ (own_twice component) _ (in_left _ (imports_found components (imports_of component)) _ (import_among components (imports_of component) name among)))

    by : (found : Option Decl) → declared_as components name.text ≡ found → is_use (reading (option_map Declared found) name.span) ≡ true
        → (d : Decl) × (declared_as components name.text ≡ Some d) × (meaning_at names.uses (spot_of name.span) ≡ Some (Declared d))
    by None is u = absurd (false≢true u)
    by (Some d) is u =
        (d, is, use_means files names e one (spot_of name.span) (Declared d) (subst (λ found. IsIn (reading (option_map Declared found) name.span) (findings files)) is is_found))
