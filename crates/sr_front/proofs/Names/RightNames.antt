-- Each name in a declaration of a component, and in its formals, means a component, or what a component declares, and that is
-- usable there.
use Rattle.std.proofs.Common.{◌≡◌, ◌≤◌, List, [], flat_map, map, Option, Some, None, Ok, refl, arith}
use Rattle.std.specs.List.{IsDistinct}
use Rattle.std.proofs.lemmas.Bool.{false≢true}
use Rattle.sr_names.specs.declared.finding.Finding.{Finding}
use Rattle.sr_names.specs.declared.finding.Finding.TheVariants.{Use}
use Rattle.sr_names.specs.declared.meaning.Decl.{Decl}
use Rattle.sr_names.specs.declared.meaning.Meaning.TheVariants.{Declared}
use Rattle.sr_names.specs.declared.spot.Spot.{Spot}
use Rattle.sr_names.specs.Scopes.{no_blocks}
use Rattle.sr_names.specs.Spots.{same_spot, spot_of}
use Rattle.sr_names.specs.Uses.{meaning_at}
use Rattle.sr_order.specs.Names.{component_names, file_names, formal_names, spec_item_names}
use Rattle.sr_scope.proofs.Among.{at_most_one, names_at}
use Rattle.sr_scope.specs.Components.{imported_names}
use Rattle.sr_scope.specs.declared.program.Names.{Names}
use Rattle.sr_scope.specs.Items.{spec_found, spec_within}
use Rattle.sr_scope.specs.Resolved.{resolved}
use Rattle.sr_scope.specs.Types.{formal_read, formals_found}
use Rattle.sr_scope.specs.Uses.{IsIn}
use Rattle.sr_tables.specs.Parts.{components_in}
use Rattle.sr_tree.specs.declared.component.Component.{Component}
use Rattle.sr_tree.specs.declared.component.File.{File}
use Rattle.sr_tree.specs.declared.component.Item.TheVariants as item
use Rattle.sr_tree.specs.declared.component.SpecItem.{SpecItem}
use Rattle.sr_tree.specs.Parts.{body_of, formals_of, spec_of}
use Rattle.sr_value.specs.declared.place.Span.{Span}
use Rattle.sr_check_expr.specs.declared.facts.Facts.{Facts}
use Rattle.sr_check_decl.specs.Declaring.{no_facts}
use Rattle.sr_front.proofs.Lists.Lists.{each_at}
use Rattle.sr_front.proofs.Names.UsableNames.{IsRight, around, file_fewer, right_fits, stands_in}
use Rattle.sr_front.proofs.Names.UsesInExprs as exprs
use Rattle.sr_front.proofs.Names.UsesInItems as items
use Rattle.sr_front.proofs.Names.UsesOfItems.{formals_found_in, formals_in_component, item_found_in, item_in_component, spec_found_in, spec_in_component}
use Rattle.sr_front.proofs.Names.UsesWithin.{IsFound, meant_within}

module _ (files : List File) (names : Names) (named : resolved files ≡ Ok names) (distinct : IsDistinct same_spot (map spot_of (flat_map file_names files))) (here : Component) (there : IsIn here (components_in files)) where
  module _ (within : Option Spot) where
    abbrev Right : Spot → Decl → Type 0
    Right = IsRight files here there within

    abbrev Never : Spot → Type 0
    Never spot = ⊥

    abbrev some_facts : Facts
    some_facts = no_facts [] []

    pub spec_right : (one : SpecItem) → exprs.AllFit Right (spec_found one (around files here there within) no_blocks)
    spec_right = items.spec_fits Right some_facts Never Never (λ at sort span inner own. absurd own) (λ at span is. absurd (false≢true is)) (λ at span own. absurd own) (around files here there within) (right_fits files here there within)

    formals_right : exprs.AllFit Right (formals_found (map formal_read (formals_of here)) (around files here there within) no_blocks)
    formals_right = items.formals_fit Right some_facts Never Never (λ at sort span inner own. absurd own) (λ at span is. absurd (false≢true is)) (λ at span own. absurd own) (around files here there within) (right_fits files here there within) (formals_of here)

    -- what a name means is usable there
    abbrev pub RightAt : Span → Type 0
    RightAt used = (decl : Decl) → meaning_at names.uses (spot_of used) ≡ Some (Declared decl) → Right (spot_of used) decl

    pub found_right : (found : List Finding) → exprs.AllFit Right found → (spot : Spot) (decl : Decl) → IsFound spot decl found → Right spot decl
    found_right found all spot decl k = each_at (exprs.FindingFits Right) found all (Use spot (Declared decl)) k

  pub once_at : (spot : Spot) → names_at spot (component_names here) ≤ 1
  once_at spot = omega (arith, file_fewer spot files here there, at_most_one spot (flat_map file_names files) distinct)

  pub spec_names_right : (one : SpecItem) → imported_names one ≡ [] → IsIn one (spec_of here) → (used : Span) → IsIn used (spec_item_names one) → RightAt (spec_within one) used
  spec_names_right one none among used k decl means =
      let spot = spot_of used in
      let stands = stands_in spot decl (spec_item_names one) used refl k in
      let whole = meant_within files names named distinct here there spot decl (spec_in_component spot decl here one among stands) means in
      found_right (spec_within one) _ (spec_right (spec_within one) one) spot decl (spec_found_in spot decl files here (once_at spot) one none among stands whole)

  pub body_names_right : (one : SpecItem) → imported_names one ≡ [] → IsIn (item.Spec one) (body_of here) → (used : Span) → IsIn used (spec_item_names one) → RightAt (spec_within one) used
  body_names_right one none among used k decl means =
      let spot = spot_of used in
      let stands = stands_in spot decl (spec_item_names one) used refl k in
      let whole = meant_within files names named distinct here there spot decl (item_in_component spot decl here (item.Spec one) among stands) means in
      found_right (spec_within one) _ (spec_right (spec_within one) one) spot decl (item_found_in spot decl files here (once_at spot) (item.Spec one) none among stands whole)

  pub formal_names_right : (used : Span) → IsIn used (flat_map formal_names (formals_of here)) → RightAt None used
  formal_names_right used k decl means =
      let spot = spot_of used in
      let stands = stands_in spot decl (flat_map formal_names (formals_of here)) used refl k in
      let whole = meant_within files names named distinct here there spot decl (formals_in_component spot decl here stands) means in
      found_right None _ (formals_right None) spot decl (formals_found_in spot decl files here (once_at spot) stands whole)
