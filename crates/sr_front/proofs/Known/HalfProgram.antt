-- In an accepted program all that is declared outside of code has a type, but for operations and components, where the names in
-- written types mean the same at their declaration and at their check.
use Rattle.std.proofs.Common.{◌≡◌, inl, inr, List, [], ◌∷◌, flat_map, None, subst}
use Rattle.sr_names.specs.declared.spot.Spot.{Spot}
use Rattle.sr_names.specs.Noted.{Meanings}
use Rattle.sr_names.specs.Specs.{Specs}
use Rattle.sr_names.specs.Spots.{spot_of}
use Rattle.sr_scope.specs.Uses.{IsIn}
use Rattle.sr_tables.specs.Parts.{components_in}
use Rattle.sr_tree.specs.declared.component.Component.{Component}
use Rattle.sr_tree.specs.declared.component.File.{File}
use Rattle.sr_tree.specs.declared.component.Item.{Item}
use Rattle.sr_tree.specs.declared.component.Item.TheVariants as item
use Rattle.sr_tree.specs.Parts.{body_of, spec_of}
use Rattle.sr_value.specs.declared.place.Span.{Span}
use Rattle.sr_check_expr.specs.declared.facts.Facts.{Facts}
use Rattle.sr_check_decl.specs.Declarations.{spec_items_found}
use Rattle.sr_check_decl.specs.Declaring.{files_named, no_facts, program_declared}
use Rattle.sr_check_decl.specs.Inferring.{program_known}
use Rattle.sr_check_decl.specs.Parts.{component_decl}
use Rattle.sr_check.specs.Checked.{checked, first_refused}
use Rattle.sr_check.specs.Components.{head_found, item_read, items_procs, items_read}
use Rattle.sr_check.specs.ErrorFree.{ErrorFree}
use Rattle.sr_check.specs.Procs.{Procs}
use Rattle.sr_check.proofs.Each.{Each, each-left, each-right}
use Rattle.sr_check.proofs.Kept.{none_found}
use Rattle.sr_check.proofs.ErrorFree.{error_free_first, error_free_second}
use Rattle.sr_front.proofs.Constants.ConstantsChecked.{CheckedAt, checked_whole, checking, found_in, part_free}
use Rattle.sr_front.proofs.Known.DeclaredAgrees.{FilesAgree}
use Rattle.sr_front.proofs.Known.HalfWalk.{ComponentMet, ItemMet, half_program}
use Rattle.sr_front.proofs.Known.InfosStay.{Reads}
use Rattle.sr_front.proofs.Mentioned.ReadsCode.{component_inside, item_inside, reads_item}
use Rattle.sr_front.proofs.Typed.TypedHalf.{Half}

-- what is known before code is read, and what code declares
abbrev pub Ending : Meanings → Specs → List File → Facts → Type 1
Ending uses specs files end = Reads (flat_map component_inside (components_in files)) (program_known uses specs files) end

-- where the names of some components are free, those of these items are
abbrev pub Within : List Span → List Item → Type 1
Within names items = (Free : Spot → Type 0) → Each (λ span. Free (spot_of span)) names → Each (λ span. Free (spot_of span)) (flat_map item_inside items)

module _ (names : List Span) (first : Facts) where
  abbrev Ends : Facts → Type 1
  Ends end = Reads names first end

  item_met : (procs : Procs) (one : Item) (facts : Facts) → Ends facts → ErrorFree (item_read procs one facts).found → ItemMet Ends one
  item_met procs (item.Spec inner) facts ends whole = record { end = facts; ends = ends; whole = whole }
  item_met procs _ facts ends whole = tt

  items_met : (procs : Procs) (items : List Item) (facts : Facts) → Within names items → Ends facts → ErrorFree (items_read procs items facts).found → (one : Item) → IsIn one items → ItemMet Ends one
  items_met procs [] facts within ends whole one k = absurd k
  items_met procs (head ∷ items) facts within ends whole one (inl e) = subst (λ it. ItemMet Ends it) e (item_met procs head facts ends (error_free_first (item_read procs head facts).found _ whole))
  items_met procs (head ∷ items) facts within ends whole one (inr k) =
      items_met procs items (item_read procs head facts).facts
      (λ Free free. each-right (λ span. Free (spot_of span)) (item_inside head) (flat_map item_inside items) (within Free free))
      (λ Q Free steady free h. reads_item procs head facts Q Free steady (each-left (λ span. Free (spot_of span)) (item_inside head) (flat_map item_inside items) (within Free free)) (ends Q Free steady free h))
      (error_free_second (item_read procs head facts).found _ whole) one k

-- each component of an accepted program
pub component_met : (all : List Component) (first : Facts) (component : Component) → IsIn component all → CheckedAt all first component → ComponentMet (Reads (flat_map component_inside all) first) component
component_met all first component there checked = record {
  specs = λ one k. record { end = here; ends = ends; whole = found_in here (spec_of component) (error_free_first (spec_items_found here (spec_of component)) _ head) one k };
  head = record { end = here; ends = ends; whole = error_free_second (spec_items_found here (spec_of component)) _ head };
  items = items_met (flat_map component_inside all) first (items_procs here (body_of component) []) (body_of component) here (λ Free free. part_free Free all component there free) ends
      (error_free_second (head_found component here) _ checked.whole);
}
  where
    here : Facts
    here = checking all first component checked

    ends : Reads (flat_map component_inside all) first here
    ends = λ Q Free steady free h. steady.standing checked.facts (component_decl component) (checked.reads Q Free steady free h)

    head : ErrorFree (head_found component here)
    head = error_free_first (head_found component here) _ checked.whole

-- all that is declared outside of code has a type, but for operations and components
pub half_whole : (uses : Meanings) (specs : Specs) (files : List File) → ErrorFree (checked uses specs files).found
    → FilesAgree (Ending uses specs files) files (record { facts = files_named files (no_facts uses specs); enumerations = 0 })
    → Half (program_declared uses specs files)
half_whole uses specs files whole agree =
    half_program (Ending uses specs files) uses specs files agree
    (λ component there. component_met (components_in files) (program_known uses specs files) component there (checked_whole uses specs files whole component there))

pub half_declared : (uses : Meanings) (specs : Specs) (files : List File) → first_refused uses specs files ≡ None
    → FilesAgree (Ending uses specs files) files (record { facts = files_named files (no_facts uses specs); enumerations = 0 })
    → Half (program_declared uses specs files)
half_declared uses specs files none agree = half_whole uses specs files (none_found uses specs files none) agree
