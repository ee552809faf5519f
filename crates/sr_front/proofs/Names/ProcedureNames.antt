-- Each name in the signature of a procedure means a component, or what a component declares, and that is usable there.
use Rattle.std.proofs.Common.{◌≡◌, ◌≤◌, List, [], ◌∷◌, flat_map, map, None, Ok, refl, arith}
use Rattle.std.specs.List.{IsDistinct}
use Rattle.sr_names.specs.declared.finding.Finding.{Finding}
use Rattle.sr_names.specs.declared.meaning.Decl.{Decl}
use Rattle.sr_names.specs.declared.spot.Spot.{Spot}
use Rattle.sr_names.specs.Scopes.{no_blocks, opened}
use Rattle.sr_names.specs.Spots.{same_spot, spot_of}
use Rattle.sr_names.specs.declared.place.Place.{Place}
use Rattle.sr_order.specs.Names.{block_names, file_names, item_names, signature_names}
use Rattle.sr_scope.proofs.Among.{names_at}
use Rattle.sr_scope.specs.declared.program.Names.{Names}
use Rattle.sr_scope.specs.Declarations.{with_inner}
use Rattle.sr_scope.specs.Procs.{procedure_found, proc_items_found}
use Rattle.sr_scope.specs.Resolved.{resolved}
use Rattle.sr_scope.specs.Types.{signature_read, signed_declared, signed_found, signed_twice}
use Rattle.sr_scope.specs.Uses.{IsIn}
use Rattle.sr_tables.specs.Parts.{components_in}
use Rattle.sr_tree.specs.declared.component.Component.{Component}
use Rattle.sr_tree.specs.declared.component.File.{File}
use Rattle.sr_tree.specs.declared.component.Item.TheVariants as item
use Rattle.sr_tree.specs.declared.component.Procedure.{Procedure}
use Rattle.sr_tree.specs.declared.component.SpecItem.TheVariants as spec
use Rattle.sr_tree.specs.Parts.{body_of}
use Rattle.sr_value.specs.declared.place.Span.{Span}
use Rattle.sr_front.proofs.Names.RightNames.{RightAt, found_right, once_at, spec_right}
use Rattle.sr_front.proofs.Names.UsableNames.{around, place, stands_in}
use Rattle.sr_front.proofs.Names.UsesInExprs as exprs
use Rattle.sr_front.proofs.Names.UsesOfItems.{block_among, in_head, item_found_in, item_in_component, item_once}
use Rattle.sr_front.proofs.Names.UsesWithin.{IsFound, Stands, meant_within, stands_left, stands_right}

module _ (spot : Spot) (decl : Decl) where
  abbrev Found : List Finding → Type 0
  Found = IsFound spot decl

  abbrev Here : List Span → Type 0
  Here = Stands spot decl

  -- the names in the signature aren't those of the block
  in_signature : (procedure : Procedure) (place : Place) → Here (signature_names procedure.signature) → names_at spot (item_names (item.Procedure procedure)) ≤ 1 → Found (procedure_found procedure place no_blocks)
      → Found (signed_found (signature_read procedure.signature) place no_blocks)
  in_signature procedure place stands once =
      let signed = signature_read procedure.signature in
      let within = with_inner (opened no_blocks) (signed_declared signed []) in
      in_head spot decl (signed_found signed place no_blocks) (signed_twice signed []) (proc_items_found procedure.block place within) (signature_names procedure.signature) (block_names procedure.block)
      (exprs.signed_twice_fit (λ at d. ⊥) signed []) (block_among procedure.block place within) (omega (arith, once)) stands

module _ (files : List File) (names : Names) (named : resolved files ≡ Ok names) (distinct : IsDistinct same_spot (map spot_of (flat_map file_names files))) (here : Component) (there : IsIn here (components_in files)) where
  pub procedure_names_right : (procedure : Procedure) → IsIn (item.Procedure procedure) (body_of here) → (used : Span) → IsIn used (signature_names procedure.signature) → RightAt files names named distinct here there None used
  procedure_names_right procedure among used k decl means =
      let spot = spot_of used in
      let once = once_at files names named distinct here there spot in
      let stands = stands_in spot decl (signature_names procedure.signature) used refl k in
      let in_item : Stands spot decl (item_names (item.Procedure procedure)) = stands_right spot decl (procedure.name.span ∷ []) _ (stands_left spot decl (signature_names procedure.signature) (block_names procedure.block) stands) in
      let whole = meant_within files names named distinct here there spot decl (item_in_component spot decl here (item.Procedure procedure) among in_item) means in
      let found = item_found_in spot decl files here once (item.Procedure procedure) refl among in_item whole in
      found_right files names named distinct here there None _
      (spec_right files names named distinct here there None (spec.OpType (record { span = procedure.span; name = procedure.name; signature = procedure.signature }))) spot decl
      (in_signature spot decl procedure (around files here there None) stands (item_once spot decl files here once (item.Procedure procedure) among) found)
