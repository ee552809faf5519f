-- In an accepted program all that is known before any statement is looked at has a type, but for operations and components, where all that is declared has one: what waited has the type of its value.
use Rattle.std.proofs.Common.{◌≡◌, inl, inr, ℕ, List, flat_map, length, map, Option, Some, None, Result, Ok, Err, is_ok, is_some, refl, sym, ap, subst, ◌∙◌}
use Rattle.std.proofs.lemmas.Bool.{false≢true}
use Rattle.std.proofs.lemmas.Option.{same_Some}
use Rattle.std.specs.List.{IsDistinct}
use Rattle.std.specs.Map.{lookup}
use Rattle.sr_check.specs.Checked.{first_refused}
use Rattle.sr_check.specs.ErrorFree.{ErrorFree}
use Rattle.sr_check_decl.specs.Constants.{type_of_value}
use Rattle.sr_check_decl.specs.Declaring.{files_named, no_facts, program_declared, standing}
use Rattle.sr_check_decl.specs.Inferring.{program_inferred, program_known}
use Rattle.sr_check_decl.specs.NamesIn.{names_in}
use Rattle.sr_check_decl.specs.Waiting.{Waiting, files_waiting}
use Rattle.sr_check_expr.specs.declared.facts.Facts.{Facts}
use Rattle.sr_check_expr.specs.Creating.{resource_type}
use Rattle.sr_check_expr.specs.Exprs.{infer_expr}
use Rattle.sr_check_expr.specs.Infos.{name_spot}
use Rattle.sr_check_expr.specs.Typings.{Typing, valued}
use Rattle.sr_names.specs.declared.finding.Diagnostic.{Diagnostic}
use Rattle.sr_names.specs.declared.meaning.Decl.{Decl}
use Rattle.sr_names.specs.declared.meaning.Sort.{Sort}
use Rattle.sr_names.specs.declared.spot.Spot.{Spot}
use Rattle.sr_names.specs.Components.{member_named}
use Rattle.sr_names.specs.Diagnostics.{all_noted, nothing}
use Rattle.sr_names.specs.Noted.{Meanings}
use Rattle.sr_names.specs.Readings.{declaration}
use Rattle.sr_names.specs.Specs.{Specs}
use Rattle.sr_names.specs.Spots.{same_spot, spot_of}
use Rattle.sr_names.specs.Uses.{meaning_at}
use Rattle.sr_order.specs.Names.{file_names}
use Rattle.sr_scope.proofs.OwnNames.{own_names}
use Rattle.sr_scope.specs.Components.{decl_of}
use Rattle.sr_scope.specs.declared.program.Names.{Names}
use Rattle.sr_scope.specs.Resolved.{answered, findings, program, resolved}
use Rattle.sr_scope.specs.Uses.{IsIn}
use Rattle.sr_tables.specs.Parts.{components_in}
use Rattle.sr_text.specs.declared.refusal.Refusal.{Refusal}
use Rattle.sr_tree.specs.declared.component.Component.{Component}
use Rattle.sr_tree.specs.declared.component.File.{File}
use Rattle.sr_tree.specs.declared.expr.Expr.{Expr as Tree}
use Rattle.sr_tree.specs.declared.name.Name.{Name}
use Rattle.sr_types.specs.declared.spot.Spot as types
use Rattle.sr_types.specs.declared.ty.Ty.{Ty, out-Ty}
use Rattle.sr_value.specs.declared.place.Span.{Span}
use Rattle.sr_front.proofs.Known.AlikeInside.{LayerHas, Telling, inside_alike, inside_names}
use Rattle.sr_front.proofs.Constants.AllSettled.{all_settled_then, declared_uses, known_is_inferred, outside_known, waiting_outside, waves_know}
use Rattle.sr_front.proofs.Known.ComponentsKnown.{IsKnown, files_free}
use Rattle.sr_front.proofs.Constants.ConstantsChecked.{checked_at}
use Rattle.sr_front.proofs.Known.FirstStays.{inside_fresh}
use Rattle.sr_front.proofs.Known.InfosStay.{Fresh}
use Rattle.sr_front.proofs.Known.KeptDeclared.{Declares, keeps_files, keeps_files_named}
use Rattle.sr_front.proofs.Known.KeptNames.{Anywhere}
use Rattle.sr_front.proofs.Known.KnownOrWaits.{KnownOrWaits}
use Rattle.sr_front.proofs.Mentioned.ReadsCode.{component_inside}
use Rattle.sr_front.proofs.Known.SameExprs.{expr_same}
use Rattle.sr_front.proofs.Typed.Typed.{IsTyped}
use Rattle.sr_front.proofs.Typed.TypedCode.{AllSigned}
use Rattle.sr_front.proofs.Typed.TypedHalf.{Half}
use Rattle.sr_front.proofs.Names.UsableNames.{IsOutside}
use Rattle.sr_front.proofs.Names.UsesOutside as outside
use Rattle.sr_front.proofs.Constants.WaitingChecked.{ValueChecked, value_checked}
use Rattle.sr_front.proofs.Constants.WaitingItems.{waiting_stands}
use Rattle.sr_front.proofs.Constants.WaitingTyped.{Added, IsFine, added_first, added_waves, half_inferred}

-- ---- the names of specs

specs_by : (uses : Meanings) (first : Option Diagnostic) (specs : Specs) (names : Names) → answered (record { uses = uses; first = first }) specs ≡ Ok names → names.specs ≡ specs
specs_by uses None specs names e = ap specs_in (sym e)
  where
    specs_in : Result Names Refusal → Specs
    specs_in (Ok named) = named.specs
    specs_in (Err refusal) = specs
specs_by uses (Some diagnostic) specs names e = absurd (false≢true (ap is_ok e))

pub resolved_specs : (files : List File) (names : Names) → resolved files ≡ Ok names → names.specs ≡ (program files).specs
resolved_specs files names e = specs_by (all_noted nothing (findings files)).uses (all_noted nothing (findings files)).first (program files).specs names e

-- a name that a component shows is declared outside of code
pub member_outside : (files : List File) (spot : Spot) (text : List ℕ) (decl : Decl) → member_named (program files).specs spot text ≡ Some decl → IsOutside files decl
member_outside files spot text decl is = by (member_named (program files).specs spot text) is (outside.spec_named files Outside component_may declared_may text (lookup (same_spot spot) (program files).specs) (fits.specs spot))
  where
    Outside : Spot → Decl → Type 0
    Outside at one = IsOutside files one

    component_may : (component : Component) → IsIn component (components_in files) → (at : Spot) → Outside at (decl_of component)
    component_may component there at = record { component = component; there = there; is = inl refl }

    declared_may : (component : Component) → IsIn component (components_in files) → (one : Sort × Name) → IsIn one (own_names component) → (at : Spot) → Outside at (declaration one.0 one.1.span)
    declared_may component there one among at = record { component = component; there = there; is = inr (one, among, refl) }

    fits : outside.Collected files Outside component_may declared_may (program files)
    fits = outside.known files Outside component_may declared_may

    by : (found : Option Decl) → found ≡ Some decl → outside.Found files Outside component_may declared_may found → IsOutside files decl
    by None e h = absurd (false≢true (ap is_some e))
    by (Some one) e h = subst (IsOutside files) (same_Some one decl e) (h spot)

-- ---- specs stay

abbrev SpecsAre : Specs → Facts → Type 0
SpecsAre specs facts = facts.specs ≡ specs

specs_declares : (specs : Specs) → Declares (SpecsAre specs) Anywhere
specs_declares specs = record {
  entered = λ facts signature h. h;
  put = λ facts at one free h. h;
  operation = λ facts at ty component is_local h. h;
  standing = λ facts component h. h;
}

nowhere : Spot
nowhere = record { file = 0; from = 0 }

declared_specs : (uses : Meanings) (specs : Specs) (files : List File) → (program_declared uses specs files).specs ≡ specs
declared_specs uses specs files =
    keeps_files (SpecsAre specs) Anywhere (specs_declares specs) files (record { facts = files_named files (no_facts uses specs); enumerations = 0 }) (files_free nowhere files)
    (keeps_files_named (SpecsAre specs) Anywhere (specs_declares specs) files (no_facts uses specs) (files_free nowhere files) refl)

module _ (files : List File) (names : Names) (named : resolved files ≡ Ok names) (distinct : IsDistinct same_spot (map spot_of (flat_map file_names files))) (none : first_refused names.uses names.specs files ≡ None) where
  abbrev all : List Waiting
  all = files_waiting files

  abbrev first : Facts
  first = program_declared names.uses names.specs files

  abbrev inferred : Facts
  inferred = program_inferred names.uses names.specs files

  abbrev pub known : Facts
  known = program_known names.uses names.specs files

  same_known : known ≡ inferred
  same_known = known_is_inferred files names named distinct names.specs none

  added : Added first inferred
  added = added_waves first all (length all) first (added_first first)

  known_uses : known.uses ≡ names.uses
  known_uses = ap (λ (facts : Facts). facts.uses) same_known ∙ (added.uses ∙ declared_uses names.uses names.specs files)

  known_specs : known.specs ≡ (program files).specs
  known_specs = ap (λ (facts : Facts). facts.specs) same_known ∙ (added.specs ∙ (declared_specs names.uses names.specs files ∙ resolved_specs files names named))

  -- all that is declared outside of code is known
  pub outside_is_known : (decl : Decl) → IsOutside files decl → IsKnown decl.spot known
  outside_is_known decl is = subst (IsKnown decl.spot) (sym same_known) (by (outside_known files names named distinct names.specs decl is))
    where
      by : KnownOrWaits first all decl.spot → IsKnown decl.spot inferred
      by (inl h) = waves_know (length all) all first decl.spot h
      by (inr waits) = subst (λ spot. IsKnown spot inferred) waits.is (all_settled_then files names named distinct names.specs none waits.waiting waits.among)

  member_is_known : (spot : types.Spot) (name : List ℕ) (decl : Decl) → member_named known.specs (name_spot spot) name ≡ Some decl → IsKnown decl.spot known
  member_is_known spot name decl is =
      outside_is_known decl (member_outside files (name_spot spot) name decl (ap (λ specs. member_named specs (name_spot spot) name) (sym known_specs) ∙ is))

  -- `Numbered type`: the signature of the type is in the table
  module _ (Numbered : Ty → Type 0) (has : (type : Ty) → Numbered type → LayerHas known.signatures (out-Ty type)) (numbered : (component : Decl) (tree : Tree) → Numbered (infer_expr tree (standing known component)).typed_expr.typed.ty)
      (made : (resource : Option Decl) (type : Ty) → resource_type known.infos resource ≡ Some type → Numbered type) where
    telling : (component : Decl) → Telling Numbered (standing known component)
    telling component = record { has = has; numbered = numbered component; made = made; members = member_is_known }

    abbrev inside : List Span
    inside = flat_map component_inside (components_in files)

    -- by all that is known the value of what waits breaks no rule
    pub waiting_fine : (waiting : Waiting) → IsIn waiting all → IsFine known waiting
    waiting_fine waiting k =
        record {
          whole = subst (λ (typing : Typing). ErrorFree (valued typing)) (sym same) checked.fine.whole;
          typed = subst (λ (typing : Typing). IsTyped typing.typed_expr.typed.ty → IsTyped (type_of_value typing.typed_expr.typed.ty)) (sym same) checked.fine.typed;
        }
      where
        checked : ValueChecked (components_in files) known waiting
        checked =
            let found = waiting_stands waiting files k in
            value_checked (components_in files) known found.component found.there waiting (checked_at names.uses names.specs files none found.component found.there) found.stands

        here : Facts
        here = standing known waiting.component

        fresh : Fresh inside known
        fresh = inside_fresh names.uses names.specs files distinct

        same : infer_expr waiting.value here ≡ infer_expr waiting.value checked.facts
        same =
            expr_same Numbered here checked.facts (inside_alike inside known checked.facts checked.reads fresh waiting.component Numbered (telling waiting.component) (sym checked.here)) waiting.value
            (inside_names inside known checked.facts checked.reads fresh waiting.component Numbered (telling waiting.component) (sym checked.here) (names_in waiting.value)
            (λ span j decl means. outside_is_known decl (waiting_outside files names named distinct names.specs waiting k span j decl (ap (λ meanings. meaning_at meanings (spot_of span)) (sym known_uses) ∙ means))))

    -- so all that is known has a type, but for operations and components
    pub half_known : Half first → AllSigned known → Half known
    half_known half signed =
        subst Half (sym same_known)
        (half_inferred all first (subst AllSigned same_known signed) (λ waiting k. subst (λ facts. IsFine facts waiting) same_known (waiting_fine waiting k)) half)
