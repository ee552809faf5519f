-- In a program that breaks no rule no type is known where its code declares operations, and where its procedures are read
-- their signatures have their numbers.
use Rattle.std.proofs.Common.{◌≡◌, ℕ, inl, inr, Bool, List, [], ◌∷◌, map, flat_map, is_some, refl, sym, subst, ap}
use Rattle.std.proofs.lemmas.Bool.{and_parts}
use Rattle.std.specs.List.{IsDistinct}
use Rattle.sr_names.specs.declared.finding.Rule.TheVariants.{BadType}
use Rattle.sr_names.specs.Noted.{Meanings}
use Rattle.sr_names.specs.Specs.{Specs}
use Rattle.sr_names.specs.Spots.{same_spot, spot_of}
use Rattle.sr_order.specs.Names.{file_names}
use Rattle.sr_scope.specs.Uses.{IsIn}
use Rattle.sr_tables.specs.Parts.{components_in}
use Rattle.sr_tree.specs.Components as c
use Rattle.sr_tree.specs.Components.{SpellsComponent, SpellsItem, SpellsList}
use Rattle.sr_tree.specs.declared.component.Component.{Component}
use Rattle.sr_tree.specs.declared.component.File.{File}
use Rattle.sr_tree.specs.declared.component.Item.{Item}
use Rattle.sr_tree.specs.declared.component.Item.TheVariants as item
use Rattle.sr_tree.specs.declared.component.Procedure.{Procedure}
use Rattle.sr_tree.specs.declared.token.Token.{Token}
use Rattle.sr_tree.specs.Parts.{body_of, name_of, spec_of}
use Rattle.sr_tree.specs.Types.{SpellsSignature}
use Rattle.sr_types.specs.Signatures.{signature_of}
use Rattle.sr_check_expr.specs.declared.facts.Facts.{Facts}
use Rattle.sr_check_decl.specs.Declaring.{written_type}
use Rattle.sr_check_decl.specs.Entering.{signature_entered}
use Rattle.sr_front.proofs.Headed.OpsPass.{OptypesSigned}
use Rattle.sr_front.proofs.Lists.Rising.{Rises}
use Rattle.sr_front.proofs.Known.FreeBlocks.{FreeComponents}
use Rattle.sr_front.proofs.Headed.Heads.{component_headed, head_found, heads_found, is_known_as, item_headed, items_headed, making_type, spec_items_headed}
use Rattle.sr_check_decl.specs.Inferring.{program_known}
use Rattle.sr_check_decl.specs.TypeTrees.{signature_read}
use Rattle.sr_check.specs.ErrorFree.{ErrorFree}
use Rattle.sr_check.proofs.Each.{Each}
use Rattle.sr_check.proofs.ErrorFree.{error_free_first, error_free_second, rule_met}
use Rattle.sr_front.specs.Phases.{AllPass}
use Rattle.sr_front.specs.Reading.{HasTree}
use Rattle.sr_front.proofs.Headed.KnownHeaded.{files_each}
use Rattle.sr_front.proofs.Known.NoTypesInCode.{AllAgain, SignedAgain, code_free}
use Rattle.sr_front.proofs.Lists.Options.{some_of}
use Rattle.sr_front.proofs.Typed.SignaturesAgain.{numbered_typed, signature_again}
use Rattle.sr_front.proofs.Names.Spelled.{spelled}
use Rattle.sr_front.proofs.Typed.Typed.{not_untyped}
use Rattle.sr_front.proofs.Typed.TypedOps.{signed_is_typed}
use Rattle.sr_front.proofs.Typed.TypedTypes.{InfosTyped, Later, later_itself}

-- ---- the signatures of procedures are spelled by some tokens

abbrev SignatureSpelled : Item → Type 0
SignatureSpelled (item.Procedure procedure) = (tokens : List Token) × SpellsSignature procedure.signature tokens
SignatureSpelled _ = Unit {0}

item_spelled : {one : Item} {tokens : List Token} → SpellsItem one tokens → SignatureSpelled one
item_spelled (c.procedure (c.procedure {u = u} t n h j spells block end)) = (u, spells)
item_spelled _ = tt

items_spelled : {may_begin : Bool} {items : List Item} {tokens : List Token} → SpellsList SpellsItem may_begin items tokens → Each SignatureSpelled items
items_spelled c.stop_here = tt
items_spelled (c.separator t is more) = items_spelled more
items_spelled (c.one here more) = (item_spelled here, items_spelled more)

component_spelled : {component : Component} {tokens : List Token} → SpellsComponent component tokens → Each SignatureSpelled (body_of component)
component_spelled (c.resource t n is_resource is_name written by_value items count end) = items_spelled items
component_spelled (c.split_resource t n b m is_resource is_name some of_resource is_body is_m same written by_value items count end) = items_spelled items
component_spelled (c.global t n is_global is_name some c.no_body end) = tt
component_spelled (c.global t n is_global is_name some (c.body b m is_body is_m same items none) end) = items_spelled items

-- ---- what is known of procedures before any statement is looked at

module _ (known : Facts) where
  -- a procedure that is known by the type of its signature
  procedure_again : (procedure : Procedure) → (tokens : List Token) × SpellsSignature procedure.signature tokens → ErrorFree (head_found known procedure.name (written_type procedure.signature known))
      → (now : Facts) → Later known now → Later (signature_entered procedure.signature now) now
  procedure_again procedure spells whole now later =
      let type = written_type procedure.signature known in
      let met = rule_met (is_known_as known procedure.name type) BadType procedure.name.span whole in
      let has = some_of (signature_of known.signatures type) (and_parts (is_some (signature_of known.signatures type)) _ met).0 in
      let numbered = numbered_typed known (signature_read procedure.signature known).signed (not_untyped type (signed_is_typed known type has)) in
      let same : signature_entered procedure.signature now ≡ now = ap (λ entered. entered.facts) (signature_again known now later spells.1 numbered) in
      subst (λ (facts : Facts). Later facts now) (sym same) (later_itself now)

  item_again : (one : Item) → SignatureSpelled one → ErrorFree (item_headed known one) → SignedAgain known one
  item_again (item.Procedure procedure) spells whole = procedure_again procedure spells whole
  item_again _ spells whole = tt

  items_again : (items : List Item) → Each SignatureSpelled items → ErrorFree (items_headed known items) → Each (SignedAgain known) items
  items_again [] spells whole = tt
  items_again (one ∷ items) spells whole = (
    item_again one spells.0 (error_free_first (item_headed known one) _ whole),
    items_again items spells.1 (error_free_second (item_headed known one) _ whole),
  )

  component_again : (component : Component) → Each SignatureSpelled (body_of component) → ErrorFree (component_headed known component) → AllAgain known component
  component_again component spells whole =
      let after = error_free_second (head_found known (name_of component) (making_type known component)) _ whole in
      items_again (body_of component) spells (error_free_second (spec_items_headed known (spec_of component)) _ after)

  components_again : (components : List Component) → ((component : Component) → IsIn component components → Each SignatureSpelled (body_of component)) → Each (λ component. ErrorFree (component_headed known component)) components
      → Each (AllAgain known) components
  components_again [] spells whole = tt
  components_again (component ∷ more) spells whole = (component_again component (spells component (inl refl)) whole.0, components_again more (λ one there. spells one (inr there)) whole.1)

module _ (uses : Meanings) (specs : Specs) (files : List File) (distinct : IsDistinct same_spot (map spot_of (flat_map file_names files))) (headed : ErrorFree (heads_found uses specs files))
    (rises : Rises (flat_map file_names files)) (typed : InfosTyped (program_known uses specs files)) (optypes : OptypesSigned (program_known uses specs files))
    {number : ℕ} {tokens : List (List Token)} (parsed : AllPass HasTree number tokens files) where
  abbrev known : Facts
  known = program_known uses specs files

  all_again : Each (AllAgain known) (components_in files)
  all_again = components_again known (components_in files) (λ component there. component_spelled (spelled parsed component there).1) (files_each known files headed)

  -- what `components_good` asks for
  pub free_components : FreeComponents (components_in files) known
  free_components = code_free uses specs files distinct rises typed optypes all_again
